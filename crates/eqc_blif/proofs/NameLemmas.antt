-- Names in a list, and a name that stands twice.
use Rattle.std.proofs.Common.{
  ◌≡◌,
  Bool,
  true,
  false,
  not,
  cond,
  ◌||◌,
  List,
  [],
  ◌∷◌,
  ◌++◌,
  nat_eq,
  ℕ,
  ◌+◌,
  suc,
  ◌<◌,
  length,
  take,
  drop,
  get_or,
  Option,
  Some,
  None,
  refl,
  sym,
  ◌∙◌,
  ap,
  arith,
  inl,
  inr,
}
use Rattle.std.specs.Str.{bytes_eq}
use Rattle.std.specs.Option.{option_map}
use Rattle.std.proofs.lemmas.List.{take_more, drop_more, take-append-drop, length-append}
use Rattle.std.proofs.lemmas.List.{append-nil, get_or_append_left}
use Rattle.std.proofs.Math.Seq.{get_or-append_seam}
use Rattle.std.proofs.lemmas.Slice.Eq.{bytes_eq-Decides}
use Rattle.std.proofs.lemmas.List.Folds.{list_any-append}
use Rattle.std.proofs.lemmas.Bool.{cases_eq, cases_Bool, or_parts, or_cases, ne_eqb, eq-eqb}
use Rattle.std.proofs.lemmas.Bool.{not-true, true≢false}
use Rattle.indexmap.specs.IndexSet.{insert_key}
use Rattle.eqc_netlist.specs.Names.{is_named, has_twice}
use Rattle.eqc_blif.specs.Steps.{few_or_many}
use Rattle.eqc_netlist.proofs.NameLemmas.{once_more, twice_there}

-- a set of names has no name twice after one is inserted
pub inserted_once : (names : List (List ℕ)) (name : List ℕ) → has_twice names ≡ false
    → has_twice (insert_key bytes_eq names name) ≡ false
inserted_once names name once = elim (cases_Bool (is_named names name)) [
  | inl there ↦ rw there once
  | inr fresh ↦ rw fresh (once_more names name once fresh)
]

-- nor have names to which one was added that was new
pub added_once : (names new : List (List ℕ)) (name : List ℕ) (fresh : Bool)
    → has_twice names ≡ false
    → fresh ≡ not (is_named names name) → new ≡ cond fresh (names ++ name ∷ []) names
    → has_twice new ≡ false
added_once names new name true once is added =
    rw added (once_more names name once (not-true _ (sym is)))
added_once names new name false once is added = rw added once

-- what an insertion leaves, by whether the name was new
pub inserted_is : (names : List (List ℕ)) (name : List ℕ) → insert_key bytes_eq names name
    ≡ cond (not (is_named names name)) (names ++ name ∷ []) names
inserted_is names name = elim (cases_Bool (is_named names name)) [
  | inl there ↦ rw there refl
  | inr fresh ↦ rw fresh refl
]

-- where an option is none, the few names are the names
none_mapped : {A : Type 0} (f : A → List (List ℕ)) (o : Option A) → ((x : A) → o ≡ Some x → ⊥)
    → option_map f o ≡ None
none_mapped f None other = refl
none_mapped f (Some x) other = absurd (other x refl)

pub few_once : {A : Type 0} (f : A → List (List ℕ)) (o : Option A) (few : List (List ℕ))
    → ((x : A) → o ≡ Some x → ⊥) → has_twice (few_or_many few (option_map f o)) ≡ false
    → has_twice few ≡ false
few_once f o few other once = rw (none_mapped f o other) at once

-- a new name behind the few
pub few_pushed : {A : Type 0} (f : A → List (List ℕ)) (o : Option A) (few new : List (List ℕ))
    (name : List ℕ)
    → ((x : A) → o ≡ Some x → ⊥) → has_twice (few_or_many few (option_map f o)) ≡ false
    → is_named few name ≡ false
    → new ≡ few ++ name ∷ [] → has_twice (few_or_many new (option_map f o)) ≡ false
few_pushed f o few new name other once fresh is =
    rw (none_mapped f o other, is) (once_more few name (few_once f o few other once) fresh)

-- a set of the first names takes the next
pub set_more : (names : List (List ℕ)) (i : ℕ) (keys new : List (List ℕ)) (copy : List ℕ)
    → has_twice names ≡ false
    → i < length names → keys ≡ take i names → copy ≡ get_or names i copy
    → new ≡ insert_key bytes_eq keys copy
    → new ≡ take (i + 1) names
set_more names i keys new copy once within so_far is inserted =
    let cut : names ≡ take i names ++ copy ∷ drop (i + 1) names =
    sym (take-append-drop i names)
    ∙ ap (λ rest. take i names ++ rest) (drop_more names i copy within
    ∙ ap (λ name. name ∷ drop (i + 1) names) (sym is)) in
    let next : take (i + 1) names ≡ take i names ++ copy ∷ [] = take_more names i copy within
    ∙ ap (λ name. take i names ++ name ∷ []) (sym is) in
    elim (cases_Bool (is_named (take i names) copy)) [
      | inl there ↦ absurd (true≢false (sym (twice_there (take i names) (drop (i + 1) names) copy
          there) ∙ (ap has_twice (sym cut) ∙ once)))
      | inr fresh ↦ inserted ∙ rw (so_far, fresh, next) refl
    ]

-- where a name is known to stand twice, a word is left
pub word_left : (names ws all : List (List ℕ)) → names ++ ws ≡ all → has_twice all ≡ true
    → has_twice names ≡ false → ws ≡ [] → ⊥
word_left names ws all are twice once none = true≢false (sym twice
    ∙ (ap has_twice (sym are ∙ (ap (λ more. names ++ more) none ∙ append-nil names)) ∙ once))
