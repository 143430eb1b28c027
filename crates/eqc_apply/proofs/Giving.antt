-- A name that no references stand on is given up.
use Rattle.std.proofs.Common.{◌≡◌, ◌≢◌, ℕ, ◌+◌, ◌^◌, ◌<◌, ◌≤◌, List, [], ◌∷◌, length, get_or, set}
use Rattle.std.proofs.Common.{min, refl, sym, ap, subst, ◌∙◌, arith, inr}
use native.Mathlib.Decide.{ℕ_discrete, dec_le}
use Rattle.std.proofs.lemmas.List.{get_or-set_same, get_or-set_other, get_or_default, get_or_past}
use Rattle.eqc_core.specs.View.{View}
use Rattle.eqc_core.specs.Words.{times, slots_of}
use Rattle.eqc_core.specs.Counting.{downed}
use Rattle.eqc_core.proofs.Names.{times-nil, times-same, times-other, times-slots_of}
use Rattle.eqc_guard.specs.Known.{IsHeld, IsKnown, tree_of}
use Rattle.eqc_guard.specs.Standing.{Standing, Steps}
use Rattle.eqc_guard.proofs.Learning.{held_named}
use Rattle.eqc_arena.specs.Changing.{Exchanges}
use Rattle.eqc_arena.proofs.Changing.{names_now}
use Rattle.eqc_arena.proofs.Resting.{rest_now}
use Rattle.eqc_arena.proofs.References.{gives}
use Rattle.eqc_apply.specs.Names.{Has, Drops}
use Rattle.eqc_apply.proofs.Once.{counted_held, seat_of}

module _ (x n m : ℕ) (counts : List ℕ) (old : Standing) (within : x < length counts) (read : m
    ≡ get_or counts x m) (one : m ≡ 1) (h : Has [] n old counts) where
  is_one : get_or counts x 0 ≡ 1
  is_one = sym (get_or_default counts x m 0 within) ∙ (sym read ∙ one)

  pub is_slot : 2 ≤ x
  is_slot = elim (dec_le 2 x) [
    | yes two ↦ two
    | no small ↦
        absurd (let c = h.constants x (omega arith) in omega (arith, is_one))
  ]

  pub is_held : IsHeld old.known.core x
  is_held = counted_held h x (inr (omega (arith, is_one)))

  pub is_small : IsKnown old.known → x < 2 ^ 20
  is_small known = let limit = known.limit in
      omega (
        arith,
        known.below x is_slot (held_named old.known.core x
            (omega (arith, h.once x is_slot, is_one))),
      )

  module _ (name : ℕ) (is : name ≡ x) (new : Standing) (known : IsKnown old.known) (constant : name
      < 2 → new ≡ old) (step : 2 ≤ name → Steps old (downed old.known.core name) new) where
    gone : Exchanges (slots_of (x ∷ [])) [] old new
    gone = subst (λ (y : ℕ). Exchanges (slots_of (y ∷ [])) [] old new) is (gives name old new known
        (subst (λ (y : ℕ). IsHeld old.known.core y) (sym is) is_held) constant step)

    pub drops : Drops counts old new
    drops = record {
      forest = gone.forest;
      seat = seat_of gone;
      tree =
          λ y two. tree y two (ℕ_discrete x y);
    }
      where
        tree : (y : ℕ) → 2 ≤ get_or counts y 0 → Dec (x ≡ y) → tree_of new.known y
            ≡ tree_of old.known y
        tree y two (yes e) = absurd (let t : 2 ≤ get_or counts x 0 =
            subst (λ (z : ℕ). 2 ≤ get_or counts z 0) (sym e) two in omega (arith, is_one))
        tree y two (no d) = elim (dec_le 2 y) [
          | yes up ↦ gone.trees y up (omega (
            arith,
            h.once y up,
            times-slots_of y (x ∷ []) up,
            times-other y x [] d,
            times-nil y,
          ))
          | no small ↦ absurd (let c = h.constants y (omega arith) in omega arith)
        ]

    pub drops_has : Has [] n new (set counts x 0)
    drops_has = record {
      rest = rest_now h.rest gone;
      cells = subst (λ (v : View). 0 < v.sizes.cells) (sym gone.core) h.cells;
      range = h.range ∙ sym (ap (λ (v : View). v.sizes.variables) gone.core);
      constants = λ y small. get_or-set_other counts x y 0 0 (λ e. absurd (let t = is_slot in
          omega arith)) ∙ h.constants y small;
      once = λ y two. once y two (ℕ_discrete x y);
    }
      where
        once : (y : ℕ) → 2 ≤ y → Dec (x ≡ y) → times y new.known.core.held
            ≡ min 1 (get_or (set counts x 0) y 0) + times y []
        once y two (yes e) = subst (λ (z : ℕ). times z new.known.core.held
            ≡ min 1 (get_or (set counts x 0) z 0) + times z []) e
            (omega (
              arith,
              get_or-set_same counts x 0 0 within,
              h.once x is_slot,
              is_one,
              names_now gone x,
              times-slots_of x (x ∷ []) is_slot,
              times-same x x [] refl,
              times-nil x,
            ))
        once y two (no d) = omega (
          arith,
          get_or-set_other counts x y 0 0 (λ e. d (sym e)),
          h.once y two,
          names_now gone y,
          times-slots_of y (x ∷ []) two,
          times-other y x [] d,
          times-nil y,
        )

-- what was done for each place, was done for all
pub none_left : (n : ℕ) (counts : List ℕ) → length counts ≤ n
    → ((y : ℕ) → y < n → get_or counts y 0 ≢ 1) → (x : ℕ) → get_or counts x 0 ≢ 1
none_left n counts all done x = elim (dec_le (x + 1) n) [
  | yes below ↦ done x (omega arith)
  | no above ↦ λ e. absurd (let past = get_or_past counts x 0 (omega arith) in omega arith)
]
