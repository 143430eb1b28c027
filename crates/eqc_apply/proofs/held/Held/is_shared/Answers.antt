use Rattle.std.proofs.Common.{ℕ, Option, Bool, IfSome, refl, subst}
use Rattle.eqc_arena.proofs.Taking.{may_clear}
use Rattle.eqc_arena.proofs.Resting.{rest_begins}
use Rattle.eqc_plain.proofs.Spending.{spends_refl}
use Rattle.eqc_apply.specs.Combining.{Compares}
use Rattle.eqc_apply.proofs.Comparing.{passed_has, passed_before, passed_seat, passed_held}
use Rattle.eqc_apply.proofs.held.Held.is_shared.Goals as goal

pub compare-same-requires-clause-may : goal.compare-same-requires-clause-may
compare-same-requires-clause-may c = may_clear c.args.self.now.worker.known c.recall_laws.ensures
    (rest_begins c.args.self.now.once.rest) c.args.self.now.once.cells

pub invariant_of-self : goal.invariant_of-self
invariant_of-self c =
    record {
      once = passed_has c.args.self.now.worker c.compare-same.new.worker
          c.compare-same.ensures.passes c.args.self.now.variables c.args.self.now.counts.items
          c.args.self.now.once;
    }

pub returns-clause-names : goal.returns-clause-names
returns-clause-names c =
    let p = c.compare-same.ensures.passes in
    record {
      forest = p.passed.stands.forest;
      seat = passed_seat c.args.self.now.worker c.compare-same.new.worker p;
      variables = refl;
      references = λ x. refl;
      before = passed_before c.args.self.now.worker c.compare-same.new.worker p;
      turns = spends_refl c.args.self.now.turns;
    }

pub returns-clause-same : goal.returns-clause-same
returns-clause-same c =
    subst (λ (x : ℕ). IfSome c.compare-same.result (Compares c.args.op c.args.self.now.worker.known
    x c.args.g c.args.x)) c.reference-first.ensures
    (subst (λ (y : ℕ). IfSome c.compare-same.result (Compares c.args.op c.args.self.now.worker.known
    c.reference-first.result.number y c.args.x)) c.reference-second.ensures
    (subst (λ (z : ℕ). IfSome c.compare-same.result (Compares c.args.op c.args.self.now.worker.known
    c.reference-first.result.number c.reference-second.result.number z))
    c.reference-third.ensures
    c.compare-same.ensures.same))

pub returns-clause-held : goal.returns-clause-held
returns-clause-held c = passed_held c.args.self.now.worker c.compare-same.new.worker
    c.compare-same.ensures.passes
