-- Names in a list, and a name that stands twice.
use Rattle.std.proofs.Common.{◌≡◌, Bool, true, false, ◌||◌, List, [], ◌∷◌, ◌++◌, nat_eq, ℕ, ◌+◌}
use Rattle.std.proofs.Common.{suc, ◌<◌, length, get_or, refl, sym, ◌∙◌, ap, arith, inl, inr}
use Rattle.std.specs.Str.{bytes_eq}
use Rattle.std.proofs.lemmas.List.{length-append, get_or_append_left}
use Rattle.std.proofs.Math.Seq.{get_or-append_seam}
use Rattle.std.proofs.lemmas.Slice.Eq.{bytes_eq-Decides}
use Rattle.std.proofs.lemmas.List.Folds.{list_any-append}
use Rattle.std.proofs.lemmas.Bool.{cases_eq, cases_Bool, or_parts, or_cases, ne_eqb, eq-eqb}
use Rattle.std.proofs.lemmas.Bool.{true≢false}
use Rattle.eqc_netlist.specs.Names.{is_named, has_twice}
use Rattle.eqc_netlist.specs.Names.{StandsTwice}

nat_eq-sym : (a b : ℕ) → nat_eq a b ≡ nat_eq b a
nat_eq-sym a b = elim (cases_eq a b) [
  | inl same ↦ rw (eq-eqb a b same, eq-eqb b a (sym same)) refl
  | inr other ↦ rw (ne_eqb a b other, ne_eqb b a (λ e. other (sym e))) refl
]

pub bytes_eq-sym : (xs ys : List ℕ) → bytes_eq xs ys ≡ bytes_eq ys xs
bytes_eq-sym [] [] = refl
bytes_eq-sym [] (y ∷ ys) = refl
bytes_eq-sym (x ∷ xs) [] = refl
bytes_eq-sym (x ∷ xs) (y ∷ ys) = rw (nat_eq-sym x y, bytes_eq-sym xs ys) refl

pub named_append : (names more : List (List ℕ)) (name : List ℕ) → is_named (names ++ more) name
    ≡ (is_named names name || is_named more name)
named_append names more name = list_any-append (λ other. bytes_eq name other) names more

-- a new name at the end of names none of which stands twice
pub once_more : (names : List (List ℕ)) (name : List ℕ) → has_twice names ≡ false
    → is_named names name ≡ false → has_twice (names ++ name ∷ []) ≡ false
once_more [] name once fresh = refl
once_more (x ∷ xs) name once fresh =
    let parts = or_parts (is_named xs x) (has_twice xs) once in
    let others = or_parts (bytes_eq name x) (is_named xs name) fresh in
    rw (
      named_append xs (name ∷ []) x,
      parts.0,
      bytes_eq-sym x name,
      others.0,
      once_more xs name parts.1 others.1,
    ) refl

-- a name that is among those before it stands twice
pub twice_there : (names more : List (List ℕ)) (name : List ℕ) → is_named names name ≡ true
    → has_twice (names ++ name ∷ more) ≡ true
twice_there [] more name e = absurd (true≢false (sym e))
twice_there (x ∷ xs) more name e = elim (or_cases (bytes_eq name x) (is_named xs name) e) [
  | inl here ↦ rw (named_append xs (name ∷ more) x, bytes_eq-sym x name, here)
      (first_of_or (is_named xs x) (is_named more x) (has_twice (xs ++ name ∷ more)))
  | inr there ↦ rw (twice_there xs more name there) (last_of_or (is_named (xs ++ name ∷ more) x))
]
  where
    first_of_or : (a b c : Bool) → ((a || (true || b)) || c) ≡ true
    first_of_or true b c = refl
    first_of_or false b c = refl

    last_of_or : (a : Bool) → (a || true) ≡ true
    last_of_or true = refl
    last_of_or false = refl

-- a name of a list stands at a place of it
place_of : (names : List (List ℕ)) (name : List ℕ) → is_named names name ≡ true → (k : ℕ)
    × (k < length names) × (get_or names k [] ≡ name)
place_of [] name there = cc
place_of (x ∷ xs) name there = elim (cases_Bool (bytes_eq name x)) [
  | inl here ↦ (0, omega arith, sym ((bytes_eq-Decides name x).0 here))
  | inr other ↦ let behind = place_of xs name (rw other at there) in
      (suc behind.0, omega (arith, behind.1), behind.2)
]

-- a word that is among the names before it stands twice
pub twice_at : (names ws rest all : List (List ℕ)) (word name : List ℕ) → names ++ ws ≡ all
    → ws ≡ word ∷ rest → name ≡ word → is_named names name ≡ true → StandsTwice all name
twice_at names ws rest all word name are cut is there =
    let first = place_of names name there in
    let list : all ≡ names ++ name ∷ rest = sym are
    ∙ (ap (λ more. names ++ more) (cut ∙ ap (λ w. w ∷ rest) (sym is))) in
    let long : length all ≡ length names + suc (length rest) = ap length list
    ∙ length-append names (name ∷ rest) in (
      first.0,
      length names,
      first.1,
      omega (arith, long),
      ap (λ l. get_or l first.0 []) list
          ∙ (get_or_append_left names (name ∷ rest) [] first.0 first.1 ∙ first.2),
      ap (λ l. get_or l (length names) []) list ∙ get_or-append_seam names name rest [],
    )
