-- Outputs that differ, by assignments of values to names.
use Rattle.std.proofs.Common.{◌≡◌, ◌≢◌, ◌⊎◌, inl, inr, ℕ, Bool, true, false, ◌&&◌, List, [], ◌∷◌}
use Rattle.std.proofs.Common.{length, map, zip, Option, Some, None, sym, ap, refl, ◌∙◌, arith}
use Rattle.std.proofs.Common.{subst}
use Rattle.std.proofs.lemmas.Bool.{cases_Bool, and_parts, and_from, true≢false}
use Rattle.std.proofs.lemmas.List.{length-map}
use Rattle.eqc_compare.specs.Verdict.{NetlistOf, is_different, is_allowed, has_two_values}
use Rattle.eqc_compare.specs.Verdict.{differs_under, least_difference, with_difference, differences}
use Rattle.eqc_compare.specs.VerdictLaws.{IsBelow, IsLeastDifference, NeverDiffers}
use Rattle.eqc_report.specs.Report.{DifferenceOf, shown}
use Rattle.eqc_case.specs.Answer.{GivenOf, inputs_of, netlist_of_model}
use Rattle.eqc_case.specs.AnswerLaws.{first_main, second_main, HaveSameNames, value_under}
use Rattle.eqc_case.specs.AnswerLaws.{IsAllowed, IsAlwaysEqual, IsShown, AreShown, none_left, equal}
use Rattle.eqc_case.specs.AnswerLaws.{differing}
use Rattle.eqc_compare.proofs.LeastLemmas.{not_both_below, found_least, least_found}
use Rattle.eqc_compare.proofs.VerdictLemmas.{never_found, never_differs}
use Rattle.eqc_case.proofs.NamedValueLemmas.{inputs_once, first_under, second_under, by_position}
use Rattle.eqc_case.proofs.NamedValueLemmas.{positions_back, zip_assigned, not_different}
use Rattle.eqc_case.proofs.NamedValueLemmas.{same_value, assumed, AreKnown, allowed_from}
use Rattle.eqc_case.proofs.NamedValueLemmas.{allowed_to}

-- values that differ are not equal
unequal : (x y : Bool) → is_different x y ≡ true → x ≢ y
unequal x y e same = true≢false (sym e ∙ same_value x y same)

different_from : (x y : Bool) → x ≢ y → is_different x y ≡ true
different_from true true h = absurd (h refl)
different_from true false h = refl
different_from false true h = refl
different_from false false h = absurd (h refl)

-- of two assignments one is below the other, or they are one
cases_below : (a b : List Bool) → length b ≡ length a → (b ≡ a) ⊎ (IsBelow a b ⊎ IsBelow b a)
cases_below [] [] long = inl refl
cases_below [] (y ∷ b) long = absurd (omega arith)
cases_below (x ∷ a) [] long = absurd (omega arith)
cases_below (false ∷ a) (true ∷ b) long = inr (inl tt)
cases_below (true ∷ a) (false ∷ b) long = inr (inr tt)
cases_below (false ∷ a) (false ∷ b) long = elim (cases_below a b (omega arith)) [
  | inl e ↦
      inl (ap (λ l. false ∷ l) e)
  | inr l ↦ inr l
]
cases_below (true ∷ a) (true ∷ b) long = elim (cases_below a b (omega arith)) [
  | inl e ↦
      inl (ap (λ l. true ∷ l) e)
  | inr l ↦ inr l
]

-- the two main models and the assumption as netlists
abbrev pub first_of : GivenOf → NetlistOf
first_of given = netlist_of_model (first_main given.options.bytes given.texts)

abbrev pub second_of : GivenOf → NetlistOf
second_of given = netlist_of_model (second_main given.options.bytes given.texts)

abbrev pub assumed_of : GivenOf → Option NetlistOf
assumed_of given = assumed given.options.bytes given.assume

abbrev pub first_inputs : GivenOf → List (List ℕ)
first_inputs given = inputs_of (first_main given.options.bytes given.texts)

-- their names fit
pub record Fit (given : GivenOf) : Type 0 where
  pub same : HaveSameNames (first_inputs given)
      (inputs_of (second_main given.options.bytes given.texts))
  pub known : AreKnown given.options.bytes (first_main given.options.bytes given.texts) given.assume

-- an output whose values differ differs where the assignment is allowed
differs_parts : (given : GivenOf) (output : List ℕ) (a : List Bool)
    → differs_under (first_of given) (second_of given) (assumed_of given) output a ≡ true
    → (is_allowed (first_of given) (assumed_of given) a ≡ true)
    × (has_two_values (first_of given) (second_of given) output a ≡ true)
differs_parts given output a e = and_parts _ _ e

-- an output that never differs is equal under every allowed assignment
pub never_always : (given : GivenOf) (output : List ℕ) → Fit given
    → NeverDiffers (first_of given) (second_of given) (assumed_of given) output
    → IsAlwaysEqual given output
never_always given output fit never assigned allowed =
    let m = first_main given.options.bytes given.texts in
    let a : List Bool = map assigned (inputs_of m) in
    let is : is_allowed (first_of given) (assumed_of given) a ≡ true =
    allowed_to given.options.bytes m given.assume assigned fit.known allowed in
    let same : has_two_values (first_of given) (second_of given) output a ≡ false =
    rw is at (never a (length-map (inputs_of m) assigned)) in
    sym (first_under m assigned output) ∙ not_different _ _ same
    ∙ second_under m (second_main given.options.bytes given.texts) assigned output fit.same

-- and the other way round
pub always_never : (given : GivenOf) (output : List ℕ) → Fit given → IsAlwaysEqual given output
    → NeverDiffers (first_of given) (second_of given) (assumed_of given) output
always_never given output fit always a long =
    let m = first_main given.options.bytes given.texts in
    let back : map (by_position (inputs_of m) a) (inputs_of m) ≡ a =
    positions_back (inputs_of m) a (inputs_once given.options.bytes given.texts) long in
    elim (cases_Bool (is_allowed (first_of given) (assumed_of given) a)) [
      | inr forbidden ↦ rw forbidden refl
      | inl is ↦
          let allowed : IsAllowed given (by_position (inputs_of m) a) =
          allowed_from given.options.bytes m given.assume (by_position (inputs_of m) a) fit.known
          (ap (is_allowed (first_of given) (assumed_of given)) back ∙ is) in
          and_right_false (is_allowed (first_of given) (assumed_of given) a) _
          (same_value _ _ (always (by_position (inputs_of m) a) allowed))
    ]
  where
    and_right_false : (x y : Bool) → y ≡ false → (x && y) ≡ false
    and_right_false true y e = e
    and_right_false false y e = refl

-- under an allowed assignment below the least the output has equal values
equal_below : (given : GivenOf) (output : List ℕ) (a : List Bool) (assigned : List ℕ → Bool)
    → Fit given → IsLeastDifference (first_of given) (second_of given) (assumed_of given) output a
    → IsBelow (map assigned (first_inputs given)) a → IsAllowed given assigned
    → value_under (first_main given.options.bytes given.texts) assigned output
    ≡ value_under (second_main given.options.bytes given.texts) assigned output
equal_below given output a assigned fit least below allowed =
    let m = first_main given.options.bytes given.texts in
    let b : List Bool = map assigned (inputs_of m) in
    let is : is_allowed (first_of given) (assumed_of given) b ≡ true =
    allowed_to given.options.bytes m given.assume assigned fit.known allowed in
    elim (cases_Bool (has_two_values (first_of given) (second_of given) output b)) [
      | inr same ↦ sym (first_under m assigned output) ∙ not_different _ _ same
          ∙ second_under m (second_main given.options.bytes given.texts) assigned output fit.same
      | inl differs ↦ elim (least.below b (length-map (inputs_of m) assigned)
          (and_from _ _ is differs)) [
            | inl e ↦ (let itself : IsBelow a a = subst (λ (l : List Bool). IsBelow l a) e below in
                absurd (not_both_below a a itself itself))
            | inr above ↦ absurd (not_both_below a b above below)
          ]
    ]

-- an output with its least assignment, by names
pub found_shown : (given : GivenOf) (output : List ℕ) (a : List Bool) → Fit given →
    IsLeastDifference (first_of given) (second_of given) (assumed_of given) output a →
    IsShown given output (shown (first_of given) (second_of given) (output, a))
found_shown given output a fit least =
    let m = first_main given.options.bytes given.texts in
    let back : map (by_position (inputs_of m) a) (inputs_of m) ≡ a =
    positions_back (inputs_of m) a (inputs_once given.options.bytes given.texts) least.long in
    let parts = differs_parts given output a least.passes in
    record {
      named = refl;
      assigned = by_position (inputs_of m) a;
      allowed = allowed_from given.options.bytes m given.assume (by_position (inputs_of m) a)
          fit.known (ap (is_allowed (first_of given) (assumed_of given)) back ∙ parts.0);
      inputs = zip_assigned (inputs_of m) (by_position (inputs_of m) a)
          ∙ ap (zip (inputs_of m)) back;
      first_value = refl;
      second_value = refl;
      different = unequal _ _ parts.1;
      least = λ smaller below allowed. equal_below given output a smaller fit least
          (subst (λ (l : List Bool). IsBelow (map smaller (inputs_of m)) l) back below) allowed;
    }

-- an assignment that makes an output differ is above the least
differing_above : (given : GivenOf) (output : List ℕ) (d : DifferenceOf) → Fit given
    → (s : IsShown given output d) (b : List Bool) → length b ≡ length (first_inputs given)
    → differs_under (first_of given) (second_of given) (assumed_of given) output b ≡ true
    → (b ≡ map s.assigned (first_inputs given)) ⊎ IsBelow (map s.assigned (first_inputs given)) b
differing_above given output d fit s b long e =
    let m = first_main given.options.bytes given.texts in
    let a : List Bool = map s.assigned (inputs_of m) in
    let parts = differs_parts given output b e in
    elim (cases_below a b (long ∙ sym (length-map (inputs_of m) s.assigned))) [
      | inl same ↦ inl same
      | inr (inl above) ↦ inr above
      | inr (inr below) ↦
          let back : map (by_position (inputs_of m) b) (inputs_of m) ≡ b =
          positions_back (inputs_of m) b (inputs_once given.options.bytes given.texts) long in
          let allowed : IsAllowed given (by_position (inputs_of m) b) =
          allowed_from given.options.bytes m given.assume (by_position (inputs_of m) b) fit.known
          (ap (is_allowed (first_of given) (assumed_of given)) back ∙ parts.0) in
          absurd (unequal _ _ parts.1 (s.least (by_position (inputs_of m) b)
          (subst (λ (l : List Bool). IsBelow l a) (sym back) below) allowed))
    ]

-- and the other way round
pub shown_least : (given : GivenOf) (output : List ℕ) (d : DifferenceOf) → Fit given
    → (s : IsShown given output d) →
    IsLeastDifference (first_of given) (second_of given) (assumed_of given) output
    (map s.assigned (first_inputs given))
shown_least given output d fit s =
    let m = first_main given.options.bytes given.texts in
    let n = second_main given.options.bytes given.texts in
    let values : value_under m s.assigned output ≢ value_under n s.assigned output =
    λ e. s.different (sym s.first_value ∙ e ∙ s.second_value) in
    record {
      long = length-map (inputs_of m) s.assigned;
      passes = and_from _ _ (allowed_to given.options.bytes m given.assume s.assigned fit.known
          s.allowed)
          (different_from _ _ (λ e. values (sym (first_under m s.assigned output) ∙ e
          ∙ second_under m n s.assigned output fit.same)));
      below = differing_above given output d fit s;
    }

-- differences with the same parts are one
same_difference : (d e : DifferenceOf) → d.output ≡ e.output → d.inputs ≡ e.inputs
    → d.first ≡ e.first → d.second ≡ e.second → d ≡ e
same_difference d e a b c f = by d.output d.inputs d.first d.second a b c f
  where
    by : (o : List ℕ) (i : List (List ℕ × Bool)) (x y : Bool) → o ≡ e.output → i ≡ e.inputs
        → x ≡ e.first → y ≡ e.second
        → ◌≡◌ {A = DifferenceOf} (record { output = o; inputs = i; first = x; second = y }) e
    by o i x y a b c f = rw (a, b, c, f) refl

-- it is shown
pub shown_is : (given : GivenOf) (output : List ℕ) (d : DifferenceOf) → Fit given
    → (s : IsShown given output d) →
    shown (first_of given) (second_of given) (output, map s.assigned (first_inputs given)) ≡ d
shown_is given output d fit s =
    let m = first_main given.options.bytes given.texts in
    same_difference (shown (first_of given) (second_of given) (
      output,
      map s.assigned (first_inputs given),
    )) d (sym s.named)
    (sym (zip_assigned (inputs_of m) s.assigned) ∙ s.inputs)
    (first_under m s.assigned output ∙ s.first_value)
    (second_under m (second_main given.options.bytes given.texts) s.assigned output fit.same
    ∙ s.second_value)

-- ---- all outputs that differ

-- the differences of outputs, as they are shown
abbrev pub all_of : GivenOf → List (List ℕ) → List DifferenceOf
all_of given outputs = map (shown (first_of given) (second_of given)) (differences (first_of given)
    (second_of given) (assumed_of given) outputs)

pub all_shown : (given : GivenOf) (outputs : List (List ℕ)) → Fit given
    → AreShown given outputs (all_of given outputs)
all_shown given [] fit = none_left
all_shown given (output ∷ outputs) fit =
    by (least_difference (first_of given) (second_of given) (assumed_of given) output) refl
    (all_shown given outputs fit)
  where
    by : (l : Option (List Bool)) → least_difference (first_of given) (second_of given)
        (assumed_of given) output ≡ l → AreShown given outputs (all_of given outputs)
        → AreShown given (output ∷ outputs) (map (shown (first_of given) (second_of given))
        (with_difference output l (differences (first_of given) (second_of given)
        (assumed_of given) outputs)))
    by None e rest = equal output outputs _ (never_always given output fit
        (never_differs (first_of given) (second_of given) (assumed_of given) output e)) rest
    by (Some a) e rest =
        differing output outputs _ _
        (found_shown given output a fit (found_least (length (first_inputs given))
        (differs_under (first_of given) (second_of given) (assumed_of given) output) a e)) rest

pub shown_all : (given : GivenOf) (outputs : List (List ℕ)) (ds : List DifferenceOf) → Fit given
    → AreShown given outputs ds → all_of given outputs ≡ ds
shown_all given _ _ fit none_left = refl
shown_all given _ _ fit (equal output outputs ds always rest) =
    ap (λ l. map (shown (first_of given) (second_of given)) (with_difference output l
    (differences (first_of given) (second_of given) (assumed_of given) outputs)))
    (never_found (first_of given) (second_of given) (assumed_of given) output
    (always_never given output fit always))
    ∙ shown_all given outputs ds fit rest
shown_all given _ _ fit (differing output outputs d ds s rest) =
    let a : List Bool = map s.assigned (first_inputs given) in
    let found = least_found (length (first_inputs given)) (differs_under (first_of given)
    (second_of given) (assumed_of given) output) a (shown_least given output d fit s) in
    ap (λ l. map (shown (first_of given) (second_of given)) (with_difference output l
    (differences (first_of given) (second_of given) (assumed_of given) outputs))) found
    ∙ (ap (λ x. x ∷ all_of given outputs) (shown_is given output d fit s)
    ∙ ap (λ all. d ∷ all) (shown_all given outputs ds fit rest))
