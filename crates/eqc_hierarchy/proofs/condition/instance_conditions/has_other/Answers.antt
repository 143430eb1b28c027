use Rattle.std.proofs.Common.{◌∙◌, sym, ap, not, ℕ, List, map}
use Rattle.std.specs.List.{list_any}
use Rattle.eqc_netlist.specs.Names.{is_named}
use Rattle.eqc_blif.specs.Netlist.{InstanceOf}
use Rattle.eqc_hierarchy.specs.Codes.{formals}
use Rattle.eqc_hierarchy.proofs.NameSetLaws.{some_other}
use Rattle.eqc_hierarchy.proofs.condition.instance_conditions.has_other.Goals as goal

pub returns-then-not-has : goal.returns-then-not-has
returns-then-not-has c =
    sym (some_other (λ (pair : List ℕ × List ℕ). pair.0) c.args.names.now
    c.deref-pair-items.result.now c.pairs.pair-index
    c.pair-item.result c.has.result c.pairs-test.true c.pair-item.is
    (c.has.ensures ∙ ap (is_named c.args.names.now) c.as_bytes.ensures) c.if-not-has.true)
    ∙ (ap (λ l. list_any (λ formal. not (is_named c.args.names.now formal))
    (map (λ (pair : List ℕ × List ℕ). pair.0) l)) c.deref-pair-items.ensures.value
    ∙ ap (λ (i : InstanceOf). list_any (λ formal. not (is_named c.args.names.now formal))
    (formals i)) c.instance.view_is)
