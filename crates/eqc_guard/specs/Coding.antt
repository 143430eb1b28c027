-- What a worker knows as data, so that a table can keep it for the proofs. Helpers of proofs: no
-- promise cites it.
use Rattle.std.specs.Prelude.{◌≡◌, ℕ, List, refl}
use Rattle.std.specs.Coded.{coded_option}
use Rattle.std.proofs.Common.{arith}
use base.Stored.{Coded, coded×, coded_ℕ, coded_list, coded_bool, coded_via}
use Rattle.eqc_core.specs.declared.sizes.Sizes.{Sizes}
use Rattle.eqc_core.specs.declared.phase.Phase.{Phase}
use Rattle.eqc_core.specs.declared.phase.Phase.TheVariants.{Idle, Seen, Announced, Confirmed}
use Rattle.eqc_core.specs.declared.phase.Phase.TheVariants.{Missed}
use Rattle.eqc_core.specs.View.{View, Hand, Read}

abbrev pub phase_code : Phase → ℕ × ℕ × ℕ
phase_code Idle = (0, 0, 0)
phase_code (Seen c word) = (1, c, word)
phase_code (Announced c word) = (2, c, word)
phase_code (Confirmed x) = (3, x, 0)
phase_code (Missed x) = (4, x, 0)

pub same_phase : (p q : Phase) → phase_code p ≡ phase_code q → p ≡ q
same_phase Idle Idle e = refl
same_phase (Seen c word) (Seen d text) e = λ i. Seen (e i).1 (e i).2
same_phase (Announced c word) (Announced d text) e = λ i. Announced (e i).1 (e i).2
same_phase (Confirmed x) (Confirmed y) e = λ i. Confirmed (e i).1
same_phase (Missed x) (Missed y) e = λ i. Missed (e i).1
same_phase p q e = absurd (let t : (phase_code p).0 ≡ (phase_code q).0 = λ i. (e i).0 in
    omega arith)

abbrev pub phase_coded : Coded Phase
phase_coded = coded_via (coded× coded_ℕ (coded× coded_ℕ coded_ℕ)) (λ p. let c = phase_code p in
    (c.0, (c.1, c.2))) (λ p q e. same_phase p q (λ i. ((e i).0, (e i).1.0, (e i).1.1)))

abbrev pub sizes_coded : Coded Sizes
sizes_coded = coded_via (coded× coded_ℕ (coded× coded_ℕ (coded× coded_ℕ (coded× coded_ℕ coded_ℕ))))
    (λ (z : Sizes). (z.workers, (z.announcements, (z.names, (z.cells, z.variables)))))
    (λ x y e i. record {
      workers = (e i).0;
      announcements = (e i).1.0;
      names = (e i).1.1.0;
      cells =
          (e i).1.1.1.0;
      variables = (e i).1.1.1.1;
    })

abbrev pub hand_coded : Coded Hand
hand_coded = coded_via (coded× coded_ℕ (coded_list (coded× coded_ℕ coded_ℕ)))
    (λ (h : Hand). (h.stripe, h.entries)) (λ x y e i. record {
      stripe = (e i).0;
      entries =
          (e i).1;
    })

abbrev pub read_coded : Coded Read
read_coded = coded_via (coded× coded_ℕ coded_ℕ) (λ (r : Read). (r.name, r.word))
    (λ x y e i. record { name = (e i).0; word = (e i).1 })

abbrev pub names_coded : Coded (List ℕ)
names_coded = coded_list coded_ℕ

-- the fields of a view in three groups
abbrev pub view_coded : Coded View
view_coded = coded_via
    (coded×
    (coded× coded_bool (coded× coded_bool (coded× sizes_coded (coded× coded_ℕ names_coded))))
    (coded×
    (coded× (coded_list phase_coded)
    (coded× names_coded (coded× coded_ℕ (coded× names_coded (coded_option coded_ℕ)))))
    (coded× (coded_option hand_coded) (coded× (coded_option read_coded)
    (coded× names_coded (coded× names_coded (coded× coded_ℕ names_coded)))))))
    (λ (v : View). (
      (v.active, (v.over, (v.sizes, (v.number, v.held)))),
      (
        (v.phases, (v.retired, (v.position, (v.noted, v.draft)))),
        (v.hand, (v.read, (v.turn, (v.stops, (v.given, v.out))))),
      ),
    ))
    (λ x y e i. record {
      active = (e i).0.0;
      over = (e i).0.1.0;
      sizes = (e i).0.1.1.0;
      number = (e i).0.1.1.1.0;
      held = (e i).0.1.1.1.1;
      phases = (e i).1.0.0;
      retired = (e i).1.0.1.0;
      position = (e i).1.0.1.1.0;
      noted = (e i).1.0.1.1.1.0;
      draft = (e i).1.0.1.1.1.1;
      hand = (e i).1.1.0;
      read = (e i).1.1.1.0;
      turn = (e i).1.1.1.1.0;
      stops = (e i).1.1.1.1.1.0;
      given = (e i).1.1.1.1.1.1.0;
      out = (e i).1.1.1.1.1.1.1;
    })
