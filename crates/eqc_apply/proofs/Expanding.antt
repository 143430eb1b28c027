-- Two names are expanded at their top variable.
use native.Mathlib.Decide.{dec_le}
use Rattle.std.proofs.Common.{◌≡◌, ℕ, ◌<◌, ◌≤◌, min, ◌∙◌, arith}
use Rattle.eqc_plain.specs.Store.{root}
use Rattle.eqc_plain.proofs.Combining.{halves_stay}
use Rattle.eqc_guard.specs.Known.{IsHeld, tree_of}
use Rattle.eqc_apply.specs.declared.held.Held.{Held}
use Rattle.eqc_apply.specs.Extending.{Extends}
use Rattle.eqc_apply.specs.Combining.{AreCofactors}
use Rattle.eqc_apply.specs.Meaning.{meaning_in}
use Rattle.eqc_apply.specs.Expanding.{Expands}
use Rattle.eqc_apply.proofs.Meanings.{extends_trans, names_stay, halves_of}

-- the higher of two roots is a variable
pub top_few : (f g s t n : ℕ) → (2 ≤ f → s < n) → (2 ≤ g → t < n) → ((f < 2) × (g < 2) → ⊥)
    → min s t < n
top_few f g s t n p q inner = go (dec_le 2 f) (dec_le 2 g)
  where
    go : Dec (2 ≤ f) → Dec (2 ≤ g) → min s t < n
    go (yes two) d = omega (arith, p two)
    go (no m) (yes two) = omega (arith, q two)
    go (no m) (no k) = absurd (inner (omega arith, omega arith))

-- a root that was read is what it was
pub root_was : (old new : Held) (f r : ℕ) → Extends old new → IsHeld old.worker.known.core f
    → r ≡ root new.variables (tree_of new.worker.known f)
    → r ≡ root old.variables (tree_of old.worker.known f)
root_was old new f r e h is = is ∙ (names_stay old new e).root f h

pub extends_thrice : (a b c d : Held) → Extends a b → Extends b c → Extends c d → Extends a d
extends_thrice a b c d p q r = extends_trans a c d (extends_trans a b c p q) r

pub expanded : (n0 n1 n2 n3 : Held) (f g v f0 f1 g0 g1 : ℕ) → Extends n0 n1 → Extends n1 n2
    → Extends n2 n3 → IsHeld n0.worker.known.core f
    → v ≡ min (root n0.variables (tree_of n0.worker.known f))
    (root n0.variables (tree_of n0.worker.known g)) → v < n0.variables
    → AreCofactors n2.variables n2.worker.known v f f0 f1
    → AreCofactors n3.variables n3.worker.known v g g0 g1
    → Expands (meaning_in n0) (meaning_in n3) f g v f0 f1 g0 g1
expanded n0 n1 n2 n3 f g v f0 f1 g0 g1 p q r held top below cf cg =
    let s = extends_trans n0 n1 n2 p q in
    record {
      top = top;
      below = below;
      cofactors_f = halves_stay (names_stay n2 n3 r) (s.before.held f held)
          (halves_of (omega (arith, below, s.variables)) cf);
      cofactors_g = halves_of (omega (arith, below, s.variables, r.variables)) cg;
    }
