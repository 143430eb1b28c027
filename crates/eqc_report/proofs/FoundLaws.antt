-- The report on what was found.
use Rattle.std.proofs.Common.{◌≡◌, ℕ, zero, suc, ◌+◌, ◌<◌, Bool, true, false, not, List, [], ◌∷◌}
use Rattle.std.proofs.Common.{◌++◌, length, take, get_or, refl, sym, ◌∙◌, ap, arith, true≢false}
use Rattle.std.proofs.Common.{subst, Vec, Global}
use Rattle.std.specs.Prelude.{map, drop, if◌then◌else◌}
use Rattle.std.specs.List.{zip, All}
use Rattle.std.proofs.lemmas.Bool.{and_parts}
use Rattle.std.proofs.lemmas.List.{map-append}
use Rattle.std.proofs.lemmas.List.Elements.{All-nil, All-head, All-tail, All-cons}
use Rattle.eqc_netlist.specs.Graph.{FlatOf, IsFlat, value_of}
use Rattle.eqc_pair.specs.PairOf.{PairOf}
use Rattle.eqc_pair.specs.Matched.{chosen_outputs}
use Rattle.eqc_compare.specs.Verdict.{VerdictOf, values_for, is_different, first_value}
use Rattle.eqc_compare.specs.Verdict.{second_value, allows_none, told}
use Rattle.eqc_compare.specs.Verdict as verdicts
use Rattle.eqc_compare.specs.VerdictLaws.{IsLeastDifference}
use Rattle.eqc_compare.specs.declared.outcome.Difference.{Difference}
use Rattle.eqc_compare.specs.declared.outcome.Outcome.{Outcome}
use Rattle.eqc_compare.specs.declared.outcome.Outcome.TheVariants as kind
use Rattle.eqc_report.specs.Report.{DifferenceOf, equivalent, differs, shown, differences_report}
use Rattle.eqc_report.specs.Report.{verdict_report}
use Rattle.eqc_report.specs.PairReport.{IsFoundOf, shown_of, pair_report}
use Rattle.eqc_netlist.specs.Evaluating.{values_of}
use Rattle.eqc_compare.proofs.CompareLaws.{value_agrees}
use Rattle.eqc_compare.proofs.VerdictLemmas.{each_difference}
use Rattle.eqc_compare.specs.Comparing.{netlist_of, assumption_of, differences_in, found_in}
use Rattle.eqc_compare.specs.Comparing.{found_differences, outcome_of, IsOutcome}
use Rattle.eqc_pair.proofs.PlaceLemmas.{place_itself}

-- one more name with its value
pub zipped_more : {A B : Type 0} (xs : List A) (ys : List B) (i : ℕ) (d : A) (e : B) → i < length xs
    → i < length ys →
    zip (take (i + 1) xs) (take (i + 1) ys) ≡ zip (take i xs) (take i ys)
    ++ (get_or xs i d, get_or ys i e) ∷ []
zipped_more [] ys i d e h k = absurd (omega arith)
zipped_more (x ∷ xs) [] i d e h k = absurd (omega arith)
zipped_more (x ∷ xs) (y ∷ ys) zero d e h k = refl
zipped_more (x ∷ xs) (y ∷ ys) (suc i) d e h k =
    rw (suc_one i) (ap (λ ps. (x, y) ∷ ps) (zipped_more xs ys i d e (omega arith) (omega arith)))
  where
    suc_one : (i : ℕ) → suc i + 1 ≡ suc (i + 1)
    suc_one i = omega arith

pub pairs_more : (xs : List (List ℕ)) (ys : List Bool) (i : ℕ) (x name : List ℕ)
    (old new : List (List ℕ × Bool)) → i < length xs →
    i < length ys → x ≡ get_or xs i x → name ≡ x → old ≡ zip (take i xs) (take i ys)
    → new ≡ old ++ (name, get_or ys i false) ∷ [] →
    new ≡ zip (take (i + 1) xs) (take (i + 1) ys)
pairs_more xs ys i x name old new h k is same o n =
    rw (n, o, same, is) (sym (zipped_more xs ys i x false h k))

-- an output's value under values of the inputs in their order
pub own_value : (f : FlatOf) (a : List Bool) (o : ℕ) → IsFlat f → o < length f.outputs
    → first_value (netlist_of f) (get_or f.outputs o []) a ≡ value_of f (values_of a)
    (get_or f.output_signals o 0)
own_value f a o h inside =
    ap (λ k. value_of f (values_for f.inputs a f.inputs) (get_or f.output_signals k 0))
    (place_itself f.outputs o h.outputs_differ inside)
    ∙ value_agrees f (values_for f.inputs a f.inputs) (values_of a) (get_or f.output_signals o 0) h
    (λ p within. ap (λ k. get_or a k false) (place_itself f.inputs p h.inputs_differ within))
    (h.outputs_within o inside)

opposite : (x y : Bool) → is_different x y ≡ true → not x ≡ y
opposite true true e = absurd (true≢false (sym e))
opposite true false e = refl
opposite false true e = refl
opposite false false e = absurd (true≢false (sym e))

-- an output with the least assignment under which it differs
abbrev IsLeastOf : PairOf → List ℕ × List Bool → Type 0
IsLeastOf p q = IsLeastDifference (netlist_of p.first) (netlist_of p.second) (assumption_of p) q.0
    q.1

abbrev IsWithin : PairOf → Difference → Type 0
IsWithin p d = d.output < length p.first.outputs

-- a difference that was found is there, and its values differ
found_of : (p : PairOf) (found : List Difference) (all : List (List ℕ × List Bool))
    → All (IsWithin p) found → found_in p.first found ≡ all → All (IsLeastOf p) all
    → All (IsFoundOf p) found
found_of p [] all within is least = All-nil (IsFoundOf p)
found_of p (d ∷ found) [] within is least = let clash : ◌≡◌ {A = List (List ℕ × List Bool)}
    ((get_or p.first.outputs d.output [], d.values.items) ∷ found_in p.first found) [] = is in cc
found_of p (d ∷ found) (q ∷ all) within is least =
    let first : IsLeastOf p (get_or p.first.outputs d.output [], d.values.items) =
    subst (IsLeastOf p) (sym (ap (λ (l : List (List ℕ × List Bool)). get_or l 0 q) is))
    (All-head (IsLeastOf p) q all least) in
    All-cons (IsFoundOf p) d found
    (record {
      within = All-head (IsWithin p) d found within;
      size = first.long;
      differs =
          (and_parts _ _ first.passes).1;
    })
    (found_of p found all (All-tail (IsWithin p) d found within) (ap (drop 1) is)
    (All-tail (IsLeastOf p) q all least))

-- what is told of differences are some of them
told_least : (every : Bool) (P : List ℕ × List Bool → Type 0) (all : List (List ℕ × List Bool))
    → All P all → All P (told every all)
told_least true P all h = h
told_least false P [] h = All-nil P
told_least false P (q ∷ all) h = All-cons P q [] (All-head P q all h) (All-nil P)

-- the differences that a verdict tells
told_by : VerdictOf → List (List ℕ × List Bool)
told_by verdicts.vacuous = []
told_by (verdicts.compared ds) = ds

pub outcome_found : (p : PairOf) (every : Bool) (outcome : Outcome) → IsOutcome p every outcome
    → All (IsFoundOf p) (found_differences outcome)
unfolding told_by
outcome_found p every kind.Vacuous is = All-nil (IsFoundOf p)
outcome_found p every (kind.Compared found) is =
    by (allows_none (netlist_of p.first) (assumption_of p)) is.found
  where
    by : (none : Bool) → verdicts.compared (found_in p.first found.items)
        ≡ (if none then verdicts.vacuous else verdicts.compared (told every (differences_in p)))
        → All (IsFoundOf p) found.items
    by true e = let clash : verdicts.compared (found_in p.first found.items) ≡ verdicts.vacuous =
        e in cc
    by false e =
        found_of p found.items (told every (differences_in p)) is.within (ap told_by e)
        (told_least every (IsLeastOf p) (differences_in p) (each_difference (netlist_of p.first)
        (netlist_of p.second) (assumption_of p) (chosen_outputs p.chosen p.first.outputs)).1)

-- a difference that is shown has the other netlist's value
pub difference_shown : (p : PairOf) (found : Difference) (d : DifferenceOf) → IsFoundOf p found
    → d ≡ record {
      output = get_or p.first.outputs found.output [];
      inputs = zip p.first.inputs found.values.items;
      first = first_value (netlist_of p.first) (get_or p.first.outputs found.output [])
          found.values.items;
      second = not (first_value (netlist_of p.first) (get_or p.first.outputs found.output [])
          found.values.items);
    }
    → d ≡ shown_of p found
difference_shown p found d is e =
    let output = get_or p.first.outputs found.output [] in
    let a = found.values.items in
    let other = opposite (first_value (netlist_of p.first) output a)
    (second_value (netlist_of p.first) (netlist_of p.second) output a) is.differs in
    e ∙ ap (λ b. record {
      output = output;
      inputs = zip p.first.inputs a;
      first =
          first_value (netlist_of p.first) output a;
      second = b;
    }) other

-- one more
pub shown_next : {A B C : Type 0} (of : A → C) (at : B → C) (old new : List A) (a : A)
    (found : List B) (b : B) → map of old ≡ map at found →
    new ≡ old ++ a ∷ [] → of a ≡ at b → map of new ≡ map at (found ++ b ∷ [])
shown_next of at old new a found b before grown same =
    ap (map of) grown ∙ (map-append of old (a ∷ []) ∙ (ap (λ l. l ++ of a ∷ []) before
    ∙ (ap (λ c. map at found ++ c ∷ []) same ∙ sym (map-append at found (b ∷ [])))))

-- outputs that were found, as they are shown
pub all_found : (p : PairOf) (found : List Difference) → map (shown_of p) found
    ≡ map (shown (netlist_of p.first) (netlist_of p.second)) (found_in p.first found)
all_found p [] = refl
all_found p (d ∷ found) = ap (λ ds. shown_of p d ∷ ds) (all_found p found)

-- the report on what was found
pub outcome_reported : (p : PairOf) (every : Bool) (outcome : Outcome) → IsOutcome p every outcome
    → verdict_report (netlist_of p.first) (netlist_of p.second) (outcome_of p.first outcome)
    ≡ pair_report every p
outcome_reported p every outcome is = ap (verdict_report (netlist_of p.first) (netlist_of p.second))
    is.found

-- nothing was found
pub none_reported : (p : PairOf) (every : Bool) (found : Vec Difference Global)
    → IsOutcome p every (kind.Compared found) → found.items ≡ [] → equivalent ≡ pair_report every p
none_reported p every found is e =
    sym (ap (λ l. differences_report (map (shown (netlist_of p.first) (netlist_of p.second))
    (found_in p.first l))) e) ∙ outcome_reported p every (kind.Compared found) is

-- something was
pub some_reported : (p : PairOf) (every : Bool) (found : Vec Difference Global)
    (ds : List DifferenceOf) →
    IsOutcome p every (kind.Compared found) → (found.items ≡ [] → ⊥)
    → ds ≡ map (shown_of p) found.items → differs ds ≡ pair_report every p
some_reported p every found ds is some e =
    ap differs (e ∙ all_found p found.items) ∙ (by found.items some
    ∙ outcome_reported p every (kind.Compared found) is)
  where
    by : (l : List Difference) → (l ≡ [] → ⊥) →
        differs (map (shown (netlist_of p.first) (netlist_of p.second)) (found_in p.first l))
        ≡ differences_report (map (shown (netlist_of p.first) (netlist_of p.second))
        (found_in p.first l))
    by [] some = absurd (some refl)
    by (d ∷ l) some = refl
