-- The model that is chosen by its name, or by its place.
use Rattle.std.proofs.Common.{◌≡◌, inl, inr, ℕ, ◌<◌, true, false, nat_lt, List, [], ◌∷◌, length}
use Rattle.std.proofs.Common.{map, get_or, Option, Some, None, Result, Ok, Err, sym, ap, refl, ◌∙◌}
use Rattle.std.proofs.Common.{arith, subst}
use Rattle.std.specs.Str.{bytes_eq}
use Rattle.std.proofs.lemmas.Bool.{cases_Bool, cases_lt, lt-ltb, le-ltb}
use Rattle.std.proofs.lemmas.List.{get_or-map, length-map}
use Rattle.std.proofs.lemmas.List.Sums.{passes_at_first}
use Rattle.eqc_netlist.specs.Names.{has_twice}
use Rattle.eqc_blif.specs.Netlist.{ModelOf, no_model}
use Rattle.eqc_blif.specs.Reading.{outcome}
use Rattle.eqc_blif.proofs.TwiceLaws.{libraries_have_no_name_twice}
use Rattle.eqc_hierarchy.specs.Hierarchy.{model, model_number}
use Rattle.eqc_pair.specs.Matched.{position_of}
use Rattle.eqc_case.specs.Answer.{MainOf, chosen_number, chosen, main_of}
use Rattle.eqc_case.specs.AnswerLaws.{main_or_none, IsChoice, ModelIsChosen}
use Rattle.eqc_pair.proofs.PlaceLemmas.{same_bytes, place_itself}

-- a model is chosen where its number is below the number of models
chosen_there : (models : List ModelOf) (name : Option (List ℕ)) (place : ℕ) (m : MainOf)
    → chosen models name place ≡ Ok m →
    (m.0 ≡ models) × (m.1 < length models) × (m.1 ≡ chosen_number models name place)
chosen_there models name place m e =
    elim (cases_lt (chosen_number models name place) (length models)) [
      | inl inside ↦
          let is : chosen models name place ≡ Ok (models, chosen_number models name place) =
          rw (lt-ltb (chosen_number models name place) (length models) inside) refl in
          let same : m ≡ (models, chosen_number models name place) = ap main_or_none (sym e ∙ is) in (
            ap (λ (x : MainOf). x.0) same,
            subst (λ (x : MainOf). x.1 < length models) (sym same) inside,
            ap (λ (x : MainOf). x.1) same,
          )
      | inr past ↦
          let is : chosen models name place ≡ Err (0, 13) =
          rw (le-ltb (chosen_number models name place) (length models) past) refl in
          let clash : ◌≡◌ {A = Result MainOf (ℕ × ℕ)} (Ok m) (Err (0, 13)) = sym e ∙ is in
          absurd cc
    ]

there_chosen : (models : List ModelOf) (name : Option (List ℕ)) (place : ℕ) (m : MainOf)
    → m.0 ≡ models → m.1 < length models → m.1 ≡ chosen_number models name place
    → chosen models name place ≡ Ok m
there_chosen models name place m same inside is =
    let below : nat_lt (chosen_number models name place) (length models) ≡ true =
    lt-ltb (chosen_number models name place) (length models)
    (subst (λ (n : ℕ). n < length models) is inside) in
    let found : chosen models name place ≡ Ok (models, chosen_number models name place) =
    rw below refl in
    found ∙ pairs models (chosen_number models name place) m same is
  where
    pairs : (models : List ModelOf) (n : ℕ) (m : MainOf) → m.0 ≡ models → m.1 ≡ n
        → ◌≡◌ {A = Result MainOf (ℕ × ℕ)} (Ok (models, n)) (Ok m)
    pairs models n m same is = rw (← same, ← is) refl

-- the number of a name is the place of the name among the models' names
number_mapped : (models : List ModelOf) (name : List ℕ) → model_number models name
    ≡ position_of (map (λ (m : ModelOf). m.name) models) name
number_mapped [] name = refl
number_mapped (m ∷ models) name = elim (cases_Bool (bytes_eq name m.name)) [
  | inl same ↦ rw same refl
  | inr other ↦ rw (other, number_mapped models name) refl
]

named_number : (models : List ModelOf) (name : List ℕ) (i : ℕ)
    → has_twice (map (λ (m : ModelOf). m.name) models) ≡ false → i < length models →
    (model models i).name ≡ name → i ≡ model_number models name
named_number models name i once inside named =
    let names = map (λ (m : ModelOf). m.name) models in
    let at : get_or names i [] ≡ name = get_or-map (λ (m : ModelOf). m.name) models i no_model []
    inside ∙ named in
    sym (number_mapped models name ∙ (ap (position_of names) (sym at)
    ∙ place_itself names i once (omega (arith, length-map models (λ (m : ModelOf). m.name)))))

number_named : (models : List ModelOf) (name : List ℕ) → model_number models name < length models
    → (model models (model_number models name)).name ≡ name
number_named models name inside =
    sym (same_bytes name (model models (model_number models name)).name
    (passes_at_first (λ (m : ModelOf). bytes_eq name m.name) models no_model inside))

choice : (models : List ModelOf) (name : Option (List ℕ)) (place : ℕ) (m : MainOf)
    → chosen models name place ≡ Ok m → IsChoice models name place m
choice models None place m e = chosen_there models None place m e
choice models (Some name) place m e =
    let there = chosen_there models (Some name) place m e in
    let inside : model_number models name < length models = subst (λ (n : ℕ). n < length models)
    there.2 there.1 in (
      there.0,
      there.1,
      ap (λ (n : ℕ). (model models n).name) there.2
          ∙ number_named models name inside,
    )

chosen_from : (models : List ModelOf) (name : Option (List ℕ)) (place : ℕ) (m : MainOf) →
    has_twice (map (λ (m : ModelOf). m.name) models) ≡ false → IsChoice models name place m
    → chosen models name place ≡ Ok m
chosen_from models None place m once is = there_chosen models None place m is.0 is.1 is.2
chosen_from models (Some name) place m once is = there_chosen models (Some name) place m is.0 is.1
    (named_number models name m.1 once is.1 is.2)

pub model_is_chosen : ModelIsChosen
model_is_chosen limit text models name place m e =
    let at : main_of (outcome limit text) name place ≡ chosen models name place =
    ap (λ o. main_of o name place) e in (
      λ is. choice models name place m (sym at ∙ is),
      λ is. at ∙ chosen_from models name place m (libraries_have_no_name_twice limit text models
          e).0 is,
    )
