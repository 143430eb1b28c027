-- The first output that differs, all of them, and verdicts that agree.
use Rattle.std.proofs.Common.{◌≡◌, ◌≢◌, ◌↔◌, ℕ, zero, suc, ◌<◌, Bool, true, false, true≢false, ◌&&◌}
use Rattle.std.proofs.Common.{List, [], ◌∷◌, ◌++◌, length, map, filter, find, take, replicate}
use Rattle.std.proofs.Common.{get_or, Option, Some, None, option_map, option_to_list, is_none, All}
use Rattle.std.proofs.Common.{sym, ap, ap₂, refl, ◌∙◌, arith, suc-le-suc, if◌then◌else◌}
use Rattle.std.specs.Option.{option_or}
use Rattle.std.proofs.lemmas.Option.{some_pair_parts}
use Rattle.std.proofs.lemmas.List.Elements.{All-nil, All-cons, All-head, All-tail}
use Rattle.eqc_tree.specs.Assigned.{assignments}
use Rattle.eqc_compare.specs.Verdict.{NetlistOf, vacuous, compared, first_value, second_value}
use Rattle.eqc_compare.specs.Verdict.{is_different, is_allowed, allows_none, differs_under}
use Rattle.eqc_compare.specs.Verdict.{least_difference, first_difference, with_difference}
use Rattle.eqc_compare.specs.Verdict.{differences, told, verdict}
use Rattle.eqc_compare.specs.VerdictLaws.{IsLeastDifference, NeverDiffers, IsFirstDifference}
use Rattle.eqc_compare.specs.VerdictLaws.{differs_ever}
use Rattle.std.proofs.lemmas.List.{length-replicate}
use Rattle.eqc_tree.proofs.FindLemmas.{find_none, none_found, find_agrees, option_or_none}
use Rattle.eqc_tree.proofs.FindLemmas.{option_map_none}
use Rattle.eqc_compare.proofs.LeastLemmas.{found_least, least_found}

-- where an output never differs nothing is found
pub never_found : (f g : NetlistOf) (h : Option NetlistOf) (output : List ℕ)
    → NeverDiffers f g h output → least_difference f g h output ≡ None
never_found f g h output never = find_none (length f.inputs) (differs_under f g h output) never

-- where nothing is found an output never differs
pub never_differs : (f g : NetlistOf) (h : Option NetlistOf) (output : List ℕ)
    → least_difference f g h output ≡ None → NeverDiffers f g h output
never_differs f g h output none = none_found (length f.inputs) (differs_under f g h output) none

-- the outputs before the first and one before them
before_more : (f g : NetlistOf) (h : Option NetlistOf) (o : List ℕ) (outputs : List (List ℕ))
    (position : ℕ) → NeverDiffers f g h o →
    ((k : ℕ) → k < position → NeverDiffers f g h (get_or outputs k [])) → (k : ℕ) → k < suc position
    → NeverDiffers f g h (get_or (o ∷ outputs) k [])
before_more f g h o outputs position never before zero lt = never
before_more f g h o outputs position never before (suc k) lt = let less : k < position =
    omega arith in before k less

-- an output before others that has a difference, or has none
first_by : (f g : NetlistOf) (h : Option NetlistOf) (o : List ℕ) (outputs : List (List ℕ))
    (output : List ℕ) (a : List Bool) (l : Option (List Bool)) →
    least_difference f g h o ≡ l → (first_difference f g h outputs ≡ Some (output, a)
    → IsFirstDifference f g h outputs output a) →
    option_or (option_map (λ b. (o, b)) l) (first_difference f g h outputs) ≡ Some (output, a)
    → IsFirstDifference f g h (o ∷ outputs) output a
first_by f g h o outputs output a (Some b) e later found =
    let parts : (o ≡ output) × (b ≡ a) = some_pair_parts o output b a found in
    let least : IsLeastDifference f g h o b = found_least (length f.inputs) (differs_under f g h o)
    b e in
    record {
      position = zero;
      within = omega arith;
      there = parts.0;
      before = λ k lt. absurd (omega arith);
      least = rw (sym parts.0, sym parts.1) least;
    }
first_by f g h o outputs output a None e later found =
    let rest : IsFirstDifference f g h outputs output a = later found in
    record {
      position = suc rest.position;
      within = suc-le-suc rest.within;
      there = rest.there;
      before = before_more f g h o outputs rest.position (never_differs f g h o e) rest.before;
      least = rest.least;
    }

-- the output that is found is the first that differs
pub found_is_first : (f g : NetlistOf) (h : Option NetlistOf) (outputs : List (List ℕ))
    (output : List ℕ) (a : List Bool) →
    first_difference f g h outputs ≡ Some (output, a) → IsFirstDifference f g h outputs output a
found_is_first f g h [] output a e = cc
found_is_first f g h (o ∷ outputs) output a e =
    first_by f g h o outputs output a (least_difference f g h o) refl (found_is_first f g h outputs
    output a) e

-- the output at a position before which none differs
at_position : (f g : NetlistOf) (h : Option NetlistOf) (outputs : List (List ℕ)) (position : ℕ)
    (output : List ℕ) (a : List Bool) →
    position < length outputs → get_or outputs position [] ≡ output → ((k : ℕ) → k < position
    → NeverDiffers f g h (get_or outputs k [])) →
    IsLeastDifference f g h output a → first_difference f g h outputs ≡ Some (output, a)
at_position f g h [] position output a within there before least = absurd (omega arith)
at_position f g h (o ∷ outputs) zero output a within there before least =
    let found : least_difference f g h output ≡ Some a =
    least_found (length f.inputs) (differs_under f g h output) a least in
    ap (λ x. option_or (option_map (λ b. (x, b)) (least_difference f g h x)) (first_difference f g h
    outputs)) there
    ∙ ap (λ l. option_or (option_map (λ b. (output, b)) l) (first_difference f g h outputs)) found
at_position f g h (o ∷ outputs) (suc position) output a within there before least =
    let none : least_difference f g h o ≡ None = never_found f g h o (before zero (omega arith)) in
    let less : position < length outputs = omega arith in
    ap (λ l. option_or (option_map (λ b. (o, b)) l) (first_difference f g h outputs)) none
    ∙ at_position f g h outputs position output a less there (λ k lt. before (suc k)
    (suc-le-suc lt)) least

-- the first output that differs is found
pub first_is_found : (f g : NetlistOf) (h : Option NetlistOf) (outputs : List (List ℕ))
    (output : List ℕ) (a : List Bool) →
    IsFirstDifference f g h outputs output a → first_difference f g h outputs ≡ Some (output, a)
first_is_found f g h outputs output a first = at_position f g h outputs first.position output a
    first.within first.there first.before first.least

-- where no output is found none ever differs
pub none_ever_differs : (f g : NetlistOf) (h : Option NetlistOf) (outputs : List (List ℕ))
    → first_difference f g h outputs ≡ None → All (NeverDiffers f g h) outputs
none_ever_differs f g h [] none = All-nil (NeverDiffers f g h)
none_ever_differs f g h (o ∷ outputs) none =
    let both : (option_map (λ b. (o, b)) (least_difference f g h o) ≡ None)
    × (first_difference f g h outputs ≡ None) =
    option_or_none (option_map (λ b. (o, b)) (least_difference f g h o)) (first_difference f g h
    outputs) none in
    All-cons (NeverDiffers f g h) o outputs
    (never_differs f g h o (option_map_none (λ b. (o, b)) (least_difference f g h o) both.0))
    (none_ever_differs f g h outputs both.1)

-- where no output ever differs none is found
pub none_is_found : (f g : NetlistOf) (h : Option NetlistOf) (outputs : List (List ℕ))
    → All (NeverDiffers f g h) outputs → first_difference f g h outputs ≡ None
none_is_found f g h [] never = refl
none_is_found f g h (o ∷ outputs) never =
    ap (λ l. option_or (option_map (λ b. (o, b)) l) (first_difference f g h outputs))
    (never_found f g h o (All-head (NeverDiffers f g h) o outputs never))
    ∙ none_is_found f g h outputs (All-tail (NeverDiffers f g h) o outputs never)

-- an output has two values in two pairs of netlists under the same assignments of the inputs of the
-- first, and the same ones
-- are allowed
pub record DiffersAlike (f g : NetlistOf) (h : Option NetlistOf) (k m : NetlistOf)
    (n : Option NetlistOf) (output : List ℕ) : Type 0 where
  pub alike : (a : List Bool) → length a ≡ length f.inputs → differs_under f g h output a
      ≡ differs_under k m n output a

pub record AllowsAlike (f : NetlistOf) (h : Option NetlistOf) (k : NetlistOf)
    (n : Option NetlistOf) : Type 0 where
  pub alike : (a : List Bool) → length a ≡ length f.inputs → is_allowed f h a ≡ is_allowed k n a

module _ (f g : NetlistOf) (h : Option NetlistOf) (k m : NetlistOf) (n : Option NetlistOf)
    (size : length f.inputs ≡ length k.inputs) where
  -- pairs of as many inputs, in which an output differs alike, have one least difference
  pub least_agrees : (output : List ℕ) → DiffersAlike f g h k m n output
      → least_difference f g h output ≡ least_difference k m n output
  least_agrees output differs =
      find_agrees (length f.inputs) (differs_under f g h output) (differs_under k m n output)
      differs.alike
      ∙ ap (λ i. find (differs_under k m n output) (assignments i)) size

  -- pairs in which each of these outputs differs alike have the same differences
  pub differences_agree : (outputs : List (List ℕ)) → All (DiffersAlike f g h k m n) outputs
      → differences f g h outputs ≡ differences k m n outputs
  differences_agree [] differs = refl
  differences_agree (o ∷ outputs) differs =
      ap₂ (with_difference o)
      (least_agrees o (All-head (DiffersAlike f g h k m n) o outputs differs))
      (differences_agree outputs (All-tail (DiffersAlike f g h k m n) o outputs differs))

  -- where the same assignments are allowed, too, the verdict is one
  pub verdict_agrees : (every : Bool) (outputs : List (List ℕ)) → AllowsAlike f h k n
      → All (DiffersAlike f g h k m n) outputs → verdict every f g h outputs
      ≡ verdict every k m n outputs
  verdict_agrees every outputs allows differs =
      ap₂ (λ none found. if none then vacuous else compared (told every found))
      (ap is_none (find_agrees (length f.inputs) (is_allowed f h) (is_allowed k n) allows.alike
      ∙ ap (λ i. find (is_allowed k n) (assignments i)) size))
      (differences_agree outputs differs)

-- ---- what is allowed

-- no assignment is where each is forbidden
pub none_allowed : (f : NetlistOf) (h : Option NetlistOf)
    → ((a : List Bool) → length a ≡ length f.inputs → is_allowed f h a ≡ false)
    → allows_none f h ≡ true
none_allowed f h forbids = ap is_none (find_none (length f.inputs) (is_allowed f h) forbids)

pub each_forbidden : (f : NetlistOf) (h : Option NetlistOf) → allows_none f h ≡ true
    → (a : List Bool) → length a ≡ length f.inputs → is_allowed f h a ≡ false
each_forbidden f h none = by (find (is_allowed f h) (assignments (length f.inputs))) refl none
  where
    by : (o : Option (List Bool)) → find (is_allowed f h) (assignments (length f.inputs)) ≡ o
        → is_none o ≡ true → (a : List Bool) → length a ≡ length f.inputs → is_allowed f h a ≡ false
    by None e is = none_found (length f.inputs) (is_allowed f h) e
    by (Some a) e is = absurd (true≢false (sym is))

-- some is allowed where not each is forbidden
pub some_allowed : (f : NetlistOf) (h : Option NetlistOf)
    → (((a : List Bool) → length a ≡ length f.inputs → is_allowed f h a ≡ false) → ⊥)
    → allows_none f h ≡ false
some_allowed f h some = by (find (is_allowed f h) (assignments (length f.inputs))) refl
  where
    by : (o : Option (List Bool)) → find (is_allowed f h) (assignments (length f.inputs)) ≡ o
        → is_none o ≡ false
    by None e = absurd (some (none_found (length f.inputs) (is_allowed f h) e))
    by (Some a) e = refl

-- without an assumption all are
pub all_allowed : (f : NetlistOf) → allows_none f None ≡ false
all_allowed f = some_allowed f None (λ forbids. true≢false
    (forbids (replicate (length f.inputs) false) (length-replicate (length f.inputs) false)))

-- ---- all differences

pub differences-append : (f g : NetlistOf) (h : Option NetlistOf) (xs ys : List (List ℕ))
    → differences f g h (xs ++ ys) ≡ differences f g h xs ++ differences f g h ys
differences-append f g h [] ys = refl
differences-append f g h (x ∷ xs) ys = by (least_difference f g h x) (differences-append f g h xs
    ys)
  where
    by : (o : Option (List Bool)) → differences f g h (xs ++ ys) ≡ differences f g h xs
        ++ differences f g h ys →
        with_difference x o (differences f g h (xs ++ ys))
        ≡ with_difference x o (differences f g h xs) ++ differences f g h ys
    by None e = e
    by (Some a) e = ap (λ l. (x, a) ∷ l) e

-- the first of them alone is the first difference
pub first_alone : (f g : NetlistOf) (h : Option NetlistOf) (outputs : List (List ℕ))
    → told false (differences f g h outputs) ≡ option_to_list (first_difference f g h outputs)
first_alone f g h [] = refl
first_alone f g h (o ∷ outputs) = by (least_difference f g h o) (first_alone f g h outputs)
  where
    by : (l : Option (List Bool)) → take 1 (differences f g h outputs)
        ≡ option_to_list (first_difference f g h outputs) →
        take 1 (with_difference o l (differences f g h outputs))
        ≡ option_to_list (option_or (option_map (λ a. (o, a)) l) (first_difference f g h
        outputs))
    by None e = e
    by (Some a) e = refl

-- they are those of the outputs that differ
pub each_difference : (f g : NetlistOf) (h : Option NetlistOf) (outputs : List (List ℕ)) →
    (map (λ q. q.0) (differences f g h outputs) ≡ filter (differs_ever f g h) outputs)
    × All (λ q. IsLeastDifference f g h q.0 q.1) (differences f g h outputs)
each_difference f g h [] = (refl, All-nil (λ q. IsLeastDifference f g h q.0 q.1))
each_difference f g h (o ∷ outputs) = by (least_difference f g h o) refl (each_difference f g h
    outputs)
  where
    by : (l : Option (List Bool)) → least_difference f g h o ≡ l →
        (map (λ q. q.0) (differences f g h outputs) ≡ filter (differs_ever f g h) outputs)
        × All (λ q. IsLeastDifference f g h q.0 q.1) (differences f g h outputs)
        → (map (λ q. q.0) (with_difference o (least_difference f g h o) (differences f g h outputs))
        ≡ filter (differs_ever f g h) (o ∷ outputs)) × All
        (λ q. IsLeastDifference f g h q.0 q.1) (with_difference o (least_difference f g h o)
        (differences f g h outputs))
    by None e rest = rw e rest
    by (Some a) e rest =
        rw e (
          ap (λ l. o ∷ l) rest.0,
          All-cons (λ q. IsLeastDifference f g h q.0 q.1) (o, a)
              (differences f g h outputs) (found_least (length f.inputs) (differs_under f g h o) a e)
              rest.1,
        )

-- ---- when an output differs

-- where it is allowed and has two values
pub differs_where : (f g : NetlistOf) (h : Option NetlistOf) (output : List ℕ) (a : List Bool) →
    (differs_under f g h output a ≡ true) ↔ ((is_allowed f h a ≡ true)
    × (first_value f output a ≢ second_value f g output a))
differs_where f g h output a = by (is_allowed f h a) (first_value f output a)
    (second_value f g output a)
  where
    by : (allowed x y : Bool) → ((allowed && is_different x y) ≡ true) ↔ ((allowed ≡ true)
        × (x ≢ y))
    by true true true = (λ e. absurd (true≢false (sym e)), λ w. absurd (w.1 refl))
    by true true false = (λ e. (refl, true≢false), λ w. refl)
    by true false true = (λ e. (refl, λ same. true≢false (sym same)), λ w. refl)
    by true false false = (λ e. absurd (true≢false (sym e)), λ w. absurd (w.1 refl))
    by false x y = (λ e. absurd (true≢false (sym e)), λ w. absurd (true≢false (sym w.0)))
