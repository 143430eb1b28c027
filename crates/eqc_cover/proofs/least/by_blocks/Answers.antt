use Rattle.std.proofs.Common.{◌≡◌, ℕ, ◌-◌, length, take, drop, ◌<◌, ◌≤◌, ◌++◌, arith, ap, sym, ◌∙◌}
use Rattle.std.proofs.lemmas.List.{length-append, nil_from_length}
use Rattle.eqc_cover.specs.Narrowing.{decided}
use Rattle.eqc_tree.proofs.Choosing.{starts_chosen, ends_chosen}
use Rattle.eqc_tree.proofs.HoldingLemmas.{counts_itself}
use Rattle.eqc_cover.proofs.Blocks.{chooses_decided, block_is, open_long, block_long, block_within}
use Rattle.eqc_cover.proofs.Blocks.{decided_most, tries_fall}
use Rattle.eqc_cover.proofs.least.by_blocks.Goals as goal

pub tries-init : goal.tries-init
tries-init g c = record {
  held = c.in_ok-rest.ensures.ok.held;
  variables = c.in_ok-rest.ensures.ok.variables;
  some = omega arith;
  size = omega (arith, ap length c.in_ok-values.ensures.items);
  chosen = starts_chosen _ _ _ _ c.in_ok-rest.ensures.ok.function c.requires.satisfiable
      c.in_ok-values.ensures.items;
}

pub tries-smaller : goal.tries-smaller
tries-smaller g c =
    let vs = c.args.variables.now in
    let m : ℕ = length c.tries.values.items in
    let k : ℕ = c.block_length.result in
    let at : c.len-in-tries.result ≡ m = omega arith in
    let open_is : length (take (length vs - c.len-in-tries.result) (drop c.len-in-tries.result vs))
    ≡ length vs - c.len-in-tries.result = open_long vs c.len-in-tries.result in
    let within : k ≤ length vs - m = omega arith in
    let long : length (take k (take (length vs - c.len-in-tries.result) (drop c.len-in-tries.result
    vs))) ≡ k = block_long vs c.len-in-tries.result k (omega arith) in
    let values = c.in-Ok.ensures.values
    ∙ ap (λ n. c.tries.values.items ++ decided c.in_ok-narrows.narrows n) long in
    let more = ap length values
    ∙ length-append c.tries.values.items (decided c.in_ok-narrows.narrows k) in
    let most = decided_most c.in_ok-narrows.narrows k (omega arith) in
    let next = c.in-Ok.ensures.next in
    let nothing : (length vs - length c.decide.new.values.items ≡ length vs - m)
    → c.in-Ok.next < c.tries.longest =
    λ same.
    let none : length (decided c.in_ok-narrows.narrows k) ≡ 0 = omega arith in
    let shorter = next.less (ap (decided c.in_ok-narrows.narrows) long
    ∙ nil_from_length (decided c.in_ok-narrows.narrows k) none) in
    omega arith in
    tries_fall (length vs) (length vs - m) (length vs - length c.decide.new.values.items)
    c.tries.longest c.in-Ok.next (omega arith) nothing (omega (arith, next.most))
    c.tries.invariant.some

pub tries-preserved : goal.tries-preserved
tries-preserved g c =
    let vs = c.args.variables.now in
    let m : ℕ = length c.tries.values.items in
    let k : ℕ = c.block_length.result in
    let at : c.len-in-tries.result ≡ m = omega arith in
    let open_is : length (take (length vs - c.len-in-tries.result) (drop c.len-in-tries.result vs))
    ≡ length vs - c.len-in-tries.result = open_long vs c.len-in-tries.result in
    let within : k ≤ length vs - m = omega arith in
    let long : length (take k (take (length vs - c.len-in-tries.result) (drop c.len-in-tries.result
    vs))) ≡ k = block_long vs c.len-in-tries.result k (omega arith) in
    let values = c.in-Ok.ensures.values
    ∙ ap (λ n. c.tries.values.items ++ decided c.in_ok-narrows.narrows n) long in
    let more = ap length values
    ∙ length-append c.tries.values.items (decided c.in_ok-narrows.narrows k) in
    record {
      held = λ e. omega (arith, c.tries.invariant.held e, c.in_ok-narrows.ensures.replaced.held e);
      variables = c.in_ok-narrows.ensures.replaced.variables ∙ c.tries.invariant.variables;
      some = c.in-Ok.ensures.next.some;
      size = omega (arith, more, decided_most c.in_ok-narrows.narrows k (omega arith));
      chosen =
          chooses_decided c.in_ok-narrows.narrows k _ _ _ _ _ c.tries.values.items _
          (record { distinct = c.requires.distinct; depends = c.requires.depends })
          c.tries.invariant.chosen (omega arith) (omega arith)
          (rw at (block_is vs m k)) c.in_ok-narrows.ensures.narrowed values;
    }

pub returns-clause-least : goal.returns-clause-least
returns-clause-least g c = ends_chosen _ _ _ _ (record {
  distinct = c.requires.distinct;
  depends =
      c.requires.depends;
}) c.tries.invariant.chosen (omega arith)

pub returns-in_err-rest-clause-kept : goal.returns-in_err-rest-clause-kept
returns-in_err-rest-clause-kept g c = c.in_err-rest.ensures.stop

pub slice_bounds-block-end : goal.slice_bounds-block-end
slice_bounds-block-end g c = sym (block_long c.args.variables.now c.len-in-tries.result
    c.block_length.result (omega (arith, open_long c.args.variables.now c.len-in-tries.result)))

pub narrowed-requires-clause-held : goal.narrowed-requires-clause-held
narrowed-requires-clause-held g c =
    omega (
      arith,
      c.tries.invariant.held (g.D.References.entry c.tries.rest),
      counts_itself (g.D.References.holding c.args.d.now) (g.D.References.entry c.tries.rest),
    )

pub narrowed-requires-clause-within : goal.narrowed-requires-clause-within
narrowed-requires-clause-within g c = block_within _ c.args.variables.now c.len-in-tries.result
    c.block_length.result (rw c.tries.invariant.variables c.requires.within)

pub returns-in_err-narrows-clause-kept : goal.returns-in_err-narrows-clause-kept
returns-in_err-narrows-clause-kept g c = record {
  variables = c.in_err-narrows.ensures.stop.variables ∙ c.tries.invariant.variables;
  held = λ e. omega (arith, c.tries.invariant.held e, c.in_err-narrows.ensures.stop.held e);
}

pub decide-requires : goal.decide-requires
decide-requires g c =
    omega (
      arith,
      block_long c.args.variables.now c.len-in-tries.result c.block_length.result
          (omega (arith, open_long c.args.variables.now c.len-in-tries.result)),
      open_long c.args.variables.now c.len-in-tries.result,
    )

pub give_back-requires : goal.give_back-requires
give_back-requires g c =
    omega (
      arith,
      c.tries.invariant.held (g.D.References.entry c.in_ok-narrows.left),
      c.in_ok-narrows.ensures.replaced.held (g.D.References.entry c.in_ok-narrows.left),
      counts_itself (g.D.References.holding c.args.d.now)
          (g.D.References.entry c.in_ok-narrows.left),
    )

pub returns-in-Err-clause-kept : goal.returns-in-Err-clause-kept
returns-in-Err-clause-kept g c = record {
  variables = c.give_back.ensures.variables ∙ (c.in_ok-narrows.ensures.replaced.variables
      ∙ c.tries.invariant.variables);
  held = λ e. omega (
    arith,
    c.tries.invariant.held e,
    c.in_ok-narrows.ensures.replaced.held e,
    c.give_back.ensures.held e,
  );
}

pub give_back-requires-2 : goal.give_back-requires-2
give_back-requires-2 g c = omega (
  arith,
  c.tries.invariant.held (g.D.References.entry c.tries.rest),
  counts_itself (g.D.References.holding c.args.d.now) (g.D.References.entry c.tries.rest),
)

pub returns-clause-kept : goal.returns-clause-kept
returns-clause-kept g c = record {
  variables = c.give_back-2.ensures.variables ∙ c.tries.invariant.variables;
  held = λ e. omega (arith, c.tries.invariant.held e, c.give_back-2.ensures.held e);
}
