use Rattle.std.proofs.Common.{◌∙◌, ◌+◌, false, ap, length, replicate}
use Rattle.eqc_hierarchy.proofs.ReachingLaws as laws
use Rattle.eqc_hierarchy.proofs.calls.reach.reached_models.Goals as goal

pub list_reached-requires : goal.list_reached-requires
list_reached-requires c = record {
  top = c.requires;
  unseen = c.in_ok-seen.ensures.items_if_clones_equal (λ y h. h)
      ∙ ap (λ n. replicate n false) c.nodes.ensures;
  empty = c.new-all.ensures.items;
}

pub returns-clause-each : goal.returns-clause-each
returns-clause-each c =
    let (k, past, reaching) = c.in_ok-list_reached.ensures in
    laws.reach_end c.args.calls.now c.args.top c.list_reached.new.seen.items
    c.list_reached.new.all.items k reaching past

pub returns-clause-within : goal.returns-clause-within
returns-clause-within c =
    let (k, past, reaching) = c.in_ok-list_reached.ensures in
    laws.reach_within c.args.calls.now c.args.top (length c.args.calls.now + 1)
    c.list_reached.new.seen.items c.list_reached.new.all.items k reaching
