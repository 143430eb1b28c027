-- Values of outputs where each input has the value that is assigned to its name, and where a list
-- has the values.
use Rattle.std.proofs.Common.{◌≡◌, ℕ, zero, suc, ◌<◌, nat_lt, if◌then◌else◌, Bool, true, false}
use Rattle.std.proofs.Common.{List, [], ◌∷◌, length, map, zip, get_or, sym, ap, refl, ◌∙◌, arith}
use Rattle.std.proofs.Common.{Option, Some, None, IfSome, All, Ok, Err}
use Rattle.std.specs.Option.{option_map}
use Rattle.std.proofs.lemmas.List.Elements.{All-from_get_or, All-get_or}
use Rattle.std.specs.Prelude.{unwrap_or}
use Rattle.std.proofs.lemmas.Bool.{not-true, and_parts, true≢false}
use Rattle.std.proofs.lemmas.List.{length-map, get_or-map, get_or_default, same_lists}
use Rattle.eqc_blif.specs.Netlist.{ModelOf}
use Rattle.eqc_netlist.specs.Names.{is_named, has_twice}
use Rattle.eqc_blif.specs.Reading.{Outcome, outcome}
use Rattle.eqc_blif.specs.Laws.{lists_are_distinct}
use Rattle.eqc_blif.proofs.TwiceLaws.{libraries_have_no_name_twice}
use Rattle.eqc_hierarchy.specs.Hierarchy.{model}
use Rattle.eqc_hierarchy.specs.Signals.{signals, output_value}
use Rattle.eqc_flat.proofs.InputLaws.{values_depend_on_inputs_alone}
use Rattle.eqc_pair.specs.Matched.{position_of}
use Rattle.eqc_compare.specs.Verdict.{NetlistOf, is_different, values_for, first_value}
use Rattle.eqc_compare.specs.Verdict.{second_value, is_allowed}
use Rattle.eqc_case.specs.Answer.{TextsOf, one_text, two_texts, MainOf, chosen_number, chosen}
use Rattle.eqc_case.specs.Answer.{main_of, inputs_of, outputs_of, netlist_of_model}
use Rattle.eqc_case.specs.AnswerLaws.{main_or_none, first_main, assumption_main, HaveSameNames}
use Rattle.eqc_case.specs.AnswerLaws.{value_under, IsAllowedBy}
use Rattle.eqc_pair.proofs.PlaceLemmas.{place_itself, place_below, name_at, named_index}

-- no input of a model stands twice
once_at : (models : List ModelOf) (m : ℕ) → lists_are_distinct models ≡ true
    → has_twice (model models m).inputs ≡ false
once_at [] m e = refl
once_at (m ∷ models) zero e = not-true (has_twice m.inputs) (and_parts _ _ (and_parts _ _ e).0).0
once_at (m ∷ models) (suc k) e = once_at models k (and_parts _ _ e).1

once_chosen : (models : List ModelOf) (name : Option (List ℕ)) (place : ℕ)
    → lists_are_distinct models ≡ true
    → has_twice (inputs_of (main_or_none (chosen models name place))) ≡ false
once_chosen models name place e = by (nat_lt (chosen_number models name place) (length models))
  where
    by : (there : Bool) → has_twice
        (inputs_of (main_or_none (if there then Ok (models, chosen_number models name place) else
        Err (0, 13)))) ≡ false
    by true = once_at models (chosen_number models name place) e
    by false = refl

once_read : (limit : ℕ) (text : List ℕ) (o : Outcome) (name : Option (List ℕ)) (place : ℕ)
    → outcome limit text ≡ o → has_twice (inputs_of (main_or_none (main_of o name place))) ≡ false
once_read limit text (Ok models) name place e =
    once_chosen models name place (libraries_have_no_name_twice limit text models e).1
once_read limit text (Err fault) name place e = refl

pub inputs_once : (limit : ℕ) (texts : TextsOf) → has_twice (inputs_of (first_main limit texts))
    ≡ false
inputs_once limit (one_text names text) = once_read limit text (outcome limit text) names.first 0
    refl
inputs_once limit (two_texts names first second) = once_read limit first (outcome limit first)
    names.first 0 refl

-- the values that an assignment gives declared names, as those of inputs with names among them
named_value : (declared names : List (List ℕ)) (assigned : List ℕ → Bool) (k : ℕ)
    → is_named declared (get_or names k []) ≡ true →
    values_for declared (map assigned declared) names k ≡ assigned (get_or names k [])
named_value declared names assigned k e =
    get_or-map assigned declared (position_of declared (get_or names k [])) [] false
    (place_below declared (get_or names k []) e)
    ∙ ap assigned (name_at declared (get_or names k []) e)

value_same : (m : MainOf) (a b : ℕ → Bool) (output : List ℕ) → ((k : ℕ) → k < length (inputs_of m)
    → a k ≡ b k) → output_value m.0 m.1 a output ≡ output_value m.0 m.1 b output
unfolding output_value
value_same m a b output same = ap (λ o. unwrap_or o false) (values_depend_on_inputs_alone m.0 m.1 a
    b same (length (signals m.0 m.1)) (record { path = []; name = output }))

pub first_under : (m : MainOf) (assigned : List ℕ → Bool) (output : List ℕ)
    → first_value (netlist_of_model m) output (map assigned (inputs_of m)) ≡ value_under m assigned
    output
first_under m assigned output =
    value_same m (values_for (inputs_of m) (map assigned (inputs_of m)) (inputs_of m))
    (λ i. assigned (get_or (inputs_of m) i [])) output
    (λ k inside. named_value (inputs_of m) (inputs_of m) assigned k (named_index (inputs_of m) k
    inside))

-- of a netlist whose inputs are among those of the first
pub named_under : (m n : MainOf) (assigned : List ℕ → Bool) (output : List ℕ)
    → All (λ name. is_named (inputs_of m) name ≡ true) (inputs_of n)
    → second_value (netlist_of_model m) (netlist_of_model n) output (map assigned (inputs_of m))
    ≡ value_under n assigned output
named_under m n assigned output known =
    value_same n (values_for (inputs_of m) (map assigned (inputs_of m)) (inputs_of n))
    (λ i. assigned (get_or (inputs_of n) i [])) output
    (λ k inside. named_value (inputs_of m) (inputs_of n) assigned k
    (All-get_or (λ name. is_named (inputs_of m) name ≡ true) (inputs_of n) k [] inside known))

pub second_under : (m n : MainOf) (assigned : List ℕ → Bool) (output : List ℕ)
    → HaveSameNames (inputs_of m) (inputs_of n) →
    second_value (netlist_of_model m) (netlist_of_model n) output (map assigned (inputs_of m))
    ≡ value_under n assigned output
second_under m n assigned output same =
    named_under m n assigned output
    (All-from_get_or (λ name. is_named (inputs_of m) name ≡ true) (inputs_of n) []
    (λ k inside. same (get_or (inputs_of n) k []) ∙ named_index (inputs_of n) k inside))

-- the assignment of names that a list of the inputs' values gives
abbrev pub by_position : List (List ℕ) → List Bool → List ℕ → Bool
by_position inputs a name = get_or a (position_of inputs name) false

pub positions_back : (inputs : List (List ℕ)) (a : List Bool) → has_twice inputs ≡ false
    → length a ≡ length inputs → map (by_position inputs a) inputs ≡ a
positions_back inputs a once long =
    same_lists (map (by_position inputs a) inputs) a (length-map inputs (by_position inputs a)
    ∙ sym long)
    (λ k d inside.
    let within : k < length inputs = omega (arith, length-map inputs (by_position inputs a)) in
    get_or-map (by_position inputs a) inputs k [] d within
    ∙ ap (λ p. get_or a p false) (place_itself inputs k once within)
    ∙ get_or_default a k false d (omega (arith, within, long)))

pub zip_assigned : (inputs : List (List ℕ)) (assigned : List ℕ → Bool)
    → map (λ name. (name, assigned name)) inputs ≡ zip inputs (map assigned inputs)
zip_assigned [] assigned = refl
zip_assigned (x ∷ inputs) assigned = ap (λ l. (x, assigned x) ∷ l) (zip_assigned inputs assigned)

-- ---- outputs that never differ

pub not_different : (x y : Bool) → is_different x y ≡ false → x ≡ y
not_different true true e = refl
not_different true false e = absurd (true≢false e)
not_different false true e = absurd (true≢false e)
not_different false false e = refl

pub same_value : (x y : Bool) → x ≡ y → is_different x y ≡ false
same_value true true e = refl
same_value true false e = absurd (true≢false e)
same_value false true e = absurd (true≢false (sym e))
same_value false false e = refl

-- ---- what is allowed

-- the assumption as a netlist, whose text may have so many bytes
abbrev pub assumed : ℕ → Option (List ℕ) → Option NetlistOf
assumed limit assume = option_map (λ text. netlist_of_model (assumption_main limit text)) assume

-- its inputs are among those of a model
abbrev pub AreKnown : ℕ → MainOf → Option (List ℕ) → Type 0
AreKnown limit m assume = IfSome assume (λ text. All (λ name. is_named (inputs_of m) name ≡ true)
    (inputs_of (assumption_main limit text)))

pub allowed_from : (limit : ℕ) (m : MainOf) (assume : Option (List ℕ)) (assigned : List ℕ → Bool)
    → AreKnown limit m assume
    → is_allowed (netlist_of_model m) (assumed limit assume) (map assigned (inputs_of m)) ≡ true
    → IsAllowedBy limit assume assigned
allowed_from limit m None assigned known e = tt
allowed_from limit m (Some text) assigned known e =
    let h = assumption_main limit text in
    sym (named_under m h assigned (get_or (outputs_of h) 0 []) known) ∙ e

pub allowed_to : (limit : ℕ) (m : MainOf) (assume : Option (List ℕ)) (assigned : List ℕ → Bool)
    → AreKnown limit m assume
    → IsAllowedBy limit assume assigned → is_allowed (netlist_of_model m) (assumed limit assume)
    (map assigned (inputs_of m)) ≡ true
allowed_to limit m None assigned known e = refl
allowed_to limit m (Some text) assigned known e =
    let h = assumption_main limit text in
    named_under m h assigned (get_or (outputs_of h) 0 []) known ∙ e
