use Rattle.std.proofs.Common.{◌≡◌, ℕ, [], ◌∷◌, refl, sym, subst}
use Rattle.eqc_core.specs.declared.phase.Phase.TheVariants.{Idle}
use Rattle.eqc_guard.specs.Known.{Known}
use Rattle.eqc_worker_tests.specs.Driving.{IsAt, AreCovered}
use Rattle.eqc_worker_tests.proofs.Driving.{all_covered}
use Rattle.eqc_worker_tests.proofs.drivers.stocked.Goals as goal

pub invariant_of-result : goal.invariant_of-result
invariant_of-result g c = let e = sym c.in-Ok.ensures.stocked in record {
  driven = record {
    stands = subst (λ (k : Known). IsAt Idle 0 k.core) e (record {
      four_words = refl;
      phases = refl;
      place = refl;
      no_draft = refl;
      no_hand = refl;
    });
    covered = subst (λ (k : Known). AreCovered c.in-Ok.references.items k.core.held) e
        (all_covered c.in-Ok.references.items _ c.in-Ok.ensures.references);
  };
}
