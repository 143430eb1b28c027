use Rattle.std.proofs.Common.{◌≡◌, ℕ, true, false, refl, sym, subst, ◌∙◌}
use Rattle.eqc_core.specs.declared.phase.Phase.{Phase}
use Rattle.eqc_core.specs.declared.phase.Phase.TheVariants.{Announced}
use Rattle.eqc_core.specs.View.{phase_at}
use Rattle.eqc_core.specs.Words.{result_of}
use Rattle.eqc_guard.specs.Telling.{HasFound}
use Rattle.eqc_worker_tests.specs.Driving.{IsDriven}
use Rattle.eqc_worker_tests.proofs.Driving.{finds_again, finds_another, phase_is, same_word}
use Rattle.eqc_worker_tests.proofs.drivers.Driver.recheck.Goals as goal

pub invariant_of-self : goal.invariant_of-self
unfolding result_of
invariant_of-self c =
    let d = subst (λ (p : Phase). IsDriven p c.args.self.now.position
    c.args.self.now.references.items c.args.self.now.worker) c.in-Announced.is
    c.args.self.now.driven in
    let r = c.recheck.ensures in
    record {
      driven =
          finds_again c.in-Announced.field-0 c.in-Announced.word c.args.self.now.position
          c.unpack_cell-x.result.3 r.0 c.args.self.now.references.items c.args.self.now.worker
          c.recheck.new.self d r.1
          (r.3.0 c.if-recheck.true c.in-Announced.field-0 c.in-Announced.word
          (phase_is (Announced c.in-Announced.field-0 c.in-Announced.word) c.args.self.now.position
          c.args.self.now.worker.known.core d.stands))
          (λ i. (c.unpack_cell-x.ensures.fields i).3);
    }

pub invariant_of-self-2 : goal.invariant_of-self-2
unfolding result_of
invariant_of-self-2 c =
    let d = subst (λ (p : Phase). IsDriven p c.args.self.now.position
    c.args.self.now.references.items c.args.self.now.worker) c.in-Announced.is
    c.args.self.now.driven in
    let r = c.recheck.ensures in
    record {
      driven =
          finds_another c.in-Announced.field-0 c.in-Announced.word c.args.self.now.position
          c.unpack_cell-x.result.3 r.0
          c.args.self.now.references.items c.args.self.now.worker c.recheck.new.self d r.1
          (λ same. let q : false ≡ true = sym c.if-recheck.false
          ∙ r.3.1
          (same_word c.in-Announced.field-0 c.in-Announced.word r.0
          (phase_at c.args.self.now.worker.known.core 0)
          (phase_is (Announced c.in-Announced.field-0 c.in-Announced.word) c.args.self.now.position
          c.args.self.now.worker.known.core d.stands)
          same) in
          cc)
          (λ i. (c.unpack_cell-x.ensures.fields i).3);
    }
