use Rattle.std.proofs.Common.{◌≡◌, ℕ, ◌<◌, List, sym, subst, refl, inl, inr, ⊎_elim}
use mathlib.Core.Option.{some}
use lib.ListN.{get_elem?}
use Rattle.eqc_core.specs.declared.phase.Phase.{Phase}
use Rattle.eqc_core.specs.Words.{times}
use Rattle.eqc_core.specs.Machine.{hand_view, read_view}
use Rattle.eqc_core.proofs.Stored.{hand_known, known_hand, read_known, known_read}
use Rattle.eqc_core.specs.declared.phase.Phase.TheVariants.{Confirmed}
use Rattle.eqc_core.proofs.worker.Worker.knows.Goals as goal

pub returns-then-is_among : goal.returns-then-is_among
returns-then-is_among c =
    λ z. (
      (λ t. inl (subst (λ (l : List ℕ). 0 < times c.args.x l) c.deref.ensures.value
          (c.if-is_among.ensures.0 refl))),
      (λ k. refl),
    )

-- one of these phases confirms the name
abbrev confirms : ℕ → List Phase → Type 0
confirms x ps = (k : ℕ) × (get_elem? ps k ≡ some (Confirmed x))

pub returns-then-any_confirms : goal.returns-then-any_confirms
returns-then-any_confirms c =
    λ z. (
      (λ t. inr (inl (subst (confirms c.args.x) c.deref-2.ensures.value
          (c.if-any_confirms.ensures.0 refl)))),
      (λ k. refl),
    )

pub returns-then-has_in_hand : goal.returns-then-has_in_hand
returns-then-has_in_hand c =
    λ z. (
      (λ t. inr (inr (inl (hand_known (hand_view c.args.self.now.hand) c.args.x
          (c.if-has_in_hand.ensures.0 refl))))),
      (λ k. refl),
    )

pub returns : goal.returns
returns c = λ z.
    let w = c.args.self.now in
    let x = c.args.x in (
      (λ t. inr (inr (inr (read_known (read_view w.read) x (c.has_read.ensures.0 t))))),
      (λ k. ⊎_elim
          (λ p. absurd (let q = c.if-is_among.ensures.1 (subst (λ (l : List ℕ). 0 < times x l)
          (sym c.deref.ensures.value) p) in cc))
          (λ p. ⊎_elim
          (λ q. absurd (let f = c.if-any_confirms.ensures.1
          (subst (confirms x) (sym c.deref-2.ensures.value) q) in cc))
          (λ q. ⊎_elim
          (λ h. absurd (let f = c.if-has_in_hand.ensures.1 (known_hand (hand_view w.hand) x h.0 h.1
          h.2) in cc))
          (λ r. c.has_read.ensures.1 (known_read (read_view w.read) x r.0 r.1 r.2))
          q) p) k),
    )
