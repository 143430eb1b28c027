use Rattle.std.proofs.Common.{arith, sym, ◌∙◌}
use Rattle.eqc_blif.specs.Steps.{is_either}
use Rattle.eqc_blif.proofs.SearchLemmas.{found_near, found_far}
use Rattle.eqc_blif.proofs.text.near.find_either.Goals as goal

pub returns-then-is_either-clause-first : goal.returns-then-is_either-clause-first
returns-then-is_either-clause-first g c = found_near (is_either g.row.A g.row.B) c.loop-i.i
    c.args.bytes.now (omega arith) c.loop-i.invariant (sym c.is_either.ensures
    ∙ c.if-is_either.true)

pub returns-clause-first : goal.returns-clause-first
returns-clause-first g c =
    found_far (is_either g.row.A g.row.B) c.min-near.result c.find_far.result c.args.bytes.now
    (omega arith)
    (λ k below. c.loop-i.invariant k (omega arith)) c.find_far.ensures.first
