-- A name stands in a list where a search finds it.
use Rattle.std.proofs.Common.{◌≡◌, ℕ, ◌+◌, ◌<◌, ◌==◌, ◌↔◌, IsTrue, Bool, true, false, List, [], ◌∷◌}
use Rattle.std.proofs.Common.{eqb, ltb, cond, Option, None, Some, eq-eqb, ne_eqb, refl, ◌∙◌, sym}
use Rattle.std.proofs.Common.{ap, arith}
use Rattle.std.proofs.lemmas.Bool.{lt-ltb, ltb-true}
use Rattle.std.specs.List.{position_from, list_any}
use Rattle.std.specs.Option.{is_some}
use mathlib.Core.Bool.{◌||◌}
use native.Mathlib.Decide.{ℕ_discrete}
use Rattle.eqc_core.specs.Words.{times}
use Rattle.eqc_core.proofs.Names.{times-nil, times-same, times-other}

-- the first name of a list, or one behind it
behind : (x y : ℕ) (ys : List ℕ) (b : Bool) → b ≡ ltb 0 (times x ys)
    → (eqb y x || b) ≡ ltb 0 (times x (y ∷ ys))
behind x y ys b e = go (ℕ_discrete y x)
  where
    go : Dec (y ≡ x) → (eqb y x || b) ≡ ltb 0 (times x (y ∷ ys))
    go (yes is) = rw (eq-eqb y x is)
        (sym (lt-ltb 0 (times x (y ∷ ys)) (omega (arith, times-same x y ys is))))
    go (no n) = rw (ne_eqb y x n, times-other x y ys n) e

-- what `contains` says
pub any_stands : (x : ℕ) (xs : List ℕ) → list_any (λ y. eqb y x) xs ≡ ltb 0 (times x xs)
any_stands x [] = ap (ltb 0) (sym (times-nil x))
any_stands x (y ∷ ys) = behind x y ys (list_any (λ z. eqb z x) ys) (any_stands x ys)

-- there is a place where the first item passes, or one behind it
found : (b : Bool) (i : ℕ) (o : Option ℕ) → is_some (cond b (Some i) o) ≡ (b || is_some o)
found true i o = refl
found false i o = refl

place_stands : (x i : ℕ) (xs : List ℕ) → is_some (position_from (λ y. y == x) i xs)
    ≡ ltb 0 (times x xs)
place_stands x i [] = ap (ltb 0) (sym (times-nil x))
place_stands x i (y ∷ ys) = found (eqb y x) i (position_from (λ z. z == x) (i + 1) ys)
    ∙ behind x y ys (is_some (position_from (λ z. z == x) (i + 1) ys)) (place_stands x (i + 1) ys)

-- what a search for a name's place says of how often the name stands
pub placed : (x : ℕ) (xs : List ℕ) (j : ℕ) → position_from (λ y. y == x) 0 xs ≡ Some j
    → IsTrue true ↔ (0 < times x xs)
placed x xs j e = (
  (λ t. ltb-true 0 (times x xs) (sym (place_stands x 0 xs) ∙ ap is_some e)),
  (λ h. refl),
)

pub unplaced : (x : ℕ) (xs : List ℕ) → position_from (λ y. y == x) 0 xs ≡ None
    → IsTrue false ↔ (0 < times x xs)
unplaced x xs e = (
  (λ t. absurd (cc)),
  (λ h. sym (ap is_some e) ∙ place_stands x 0 xs
      ∙ lt-ltb 0 (times x xs) h),
)
