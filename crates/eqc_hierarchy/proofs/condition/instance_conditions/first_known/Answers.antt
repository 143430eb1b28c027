use Rattle.std.proofs.Common.{sym, ℕ, List}
use Rattle.eqc_hierarchy.proofs.NameSetLaws.{twice_found, once_kept}
use Rattle.eqc_hierarchy.proofs.condition.instance_conditions.first_known.Goals as goal

pub returns-then-not-branch-clause-some : goal.returns-then-not-branch-clause-some
returns-then-not-branch-clause-some c =
    sym (twice_found (λ (pair : List ℕ × List ℕ). pair.0) c.args.pairs.now c.loop-k.k
    c.index-pairs-k.result c.loop-k.names
    c.in_ok-insert.field-0 c.loop-k-test.true c.index-pairs-k.is c.loop-k.invariant.names
    c.in_ok-insert.ensures.fresh
    c.if-not-branch.true)

pub loop-k-preserved : goal.loop-k-preserved
loop-k-preserved c =
    let kept =
    once_kept (λ (pair : List ℕ × List ℕ). pair.0) c.args.pairs.now c.loop-k.k
    c.index-pairs-k.result c.loop-k.names c.insert.new.self
    c.in_ok-insert.field-0 c.loop-k-test.true c.index-pairs-k.is c.loop-k.invariant.names
    c.loop-k.invariant.once
    c.in_ok-insert.ensures.fresh c.if-not-branch.false c.in_ok-insert.ensures.names in
    record { names = kept.0; once = kept.1 }
