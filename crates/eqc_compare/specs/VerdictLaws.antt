-- What the verdict's definitions mean: an output differs where its values are different and the
-- assignment is allowed, the
-- assignment that is found is below every other that makes the output differ, and the outputs that
-- are found are those that
-- differ, in their order.
use Rattle.std.specs.Prelude.{◌≡◌, ◌≢◌, ◌↔◌, ◌⊎◌, ℕ, ◌<◌, Bool, true, false, List, [], ◌∷◌, length}
use Rattle.std.specs.Prelude.{map, filter, Option, Some, None, slice_index_or, option_to_list}
use Rattle.std.specs.List.{All}
use Rattle.std.specs.Option.{is_some}
use Rattle.eqc_netlist.specs.Names.{has_twice}
use Rattle.eqc_compare.specs.Verdict.{NetlistOf, values_for, first_value, second_value, is_allowed}
use Rattle.eqc_compare.specs.Verdict.{allows_none, differs_under, least_difference}
use Rattle.eqc_compare.specs.Verdict.{first_difference, differences, told}

-- an assignment is below another where it is false at the first place where they differ
abbrev pub IsBelow : List Bool → List Bool → Type 0
IsBelow [] b = ⊥
IsBelow (x ∷ a) [] = ⊥
IsBelow (false ∷ a) (false ∷ b) = IsBelow a b
IsBelow (false ∷ a) (true ∷ b) = Unit {0}
IsBelow (true ∷ a) (false ∷ b) = ⊥
IsBelow (true ∷ a) (true ∷ b) = IsBelow a b

-- an assignment of n inputs passes a test, and is below every other that does
pub record IsLeast (n : ℕ) (test : List Bool → Bool) (a : List Bool) : Type 0 where
  pub long : length a ≡ n
  pub passes : test a ≡ true
  pub below : (b : List Bool) → length b ≡ n → test b ≡ true → (b ≡ a) ⊎ IsBelow a b

-- an assignment is the least under which an output differs
abbrev pub IsLeastDifference : NetlistOf → NetlistOf → Option NetlistOf → List ℕ → List Bool
    → Type 0
IsLeastDifference f g h output a = IsLeast (length f.inputs) (differs_under f g h output) a

-- an output differs under no assignment
abbrev pub NeverDiffers : NetlistOf → NetlistOf → Option NetlistOf → List ℕ → Type 0
NeverDiffers f g h output = (a : List Bool) → length a ≡ length f.inputs
    → differs_under f g h output a ≡ false

-- an output is the first that differs, with the least assignment under which it does
pub record IsFirstDifference (f g : NetlistOf) (h : Option NetlistOf) (outputs : List (List ℕ))
    (output : List ℕ) (a : List Bool) : Type 0 where
  pub position : ℕ
  pub within : position < length outputs
  pub there : slice_index_or outputs position [] ≡ output
  pub before : (k : ℕ) → k < position → NeverDiffers f g h (slice_index_or outputs k [])
  pub least : IsLeastDifference f g h output a

-- an output differs under an assignment exactly where that is allowed and the output has different
-- values in the two netlists
abbrev pub DifferenceLaw : Type 0
DifferenceLaw =
    (f g : NetlistOf) (h : Option NetlistOf) (output : List ℕ) (a : List Bool) →
    (differs_under f g h output a ≡ true) ↔ ((is_allowed f h a ≡ true)
    × (first_value f output a ≢ second_value f g output a))

-- an input has the value that an assignment gives the declared input of its name
abbrev pub MatchingLaw : Type 0
MatchingLaw =
    (declared names : List (List ℕ)) (a : List Bool) (i p : ℕ) → has_twice declared ≡ false
    → i < length declared →
    slice_index_or declared i [] ≡ slice_index_or names p [] → values_for declared a names p
    ≡ slice_index_or a i false

-- an assumption allows no assignment exactly where its output is 0 under each
abbrev pub VacuousLaw : Type 0
VacuousLaw = (f : NetlistOf) (h : Option NetlistOf) → (allows_none f h ≡ true) ↔ ((a : List Bool)
    → length a ≡ length f.inputs → is_allowed f h a ≡ false)

-- the assignment that is found is the least under which the output differs, and the least is found
abbrev pub LeastLaw : Type 0
LeastLaw =
    (f g : NetlistOf) (h : Option NetlistOf) (output : List ℕ) (a : List Bool)
    → (least_difference f g h output ≡ Some a) ↔ IsLeastDifference f g h output a

-- no assignment is found exactly where the output differs under none
abbrev pub NoneLaw : Type 0
NoneLaw = (f g : NetlistOf) (h : Option NetlistOf) (output : List ℕ)
    → (least_difference f g h output ≡ None) ↔ NeverDiffers f g h output

-- there is one least assignment at most
abbrev pub UniqueLaw : Type 0
UniqueLaw =
    (f g : NetlistOf) (h : Option NetlistOf) (output : List ℕ) (a b : List Bool)
    → IsLeastDifference f g h output a → IsLeastDifference f g h output b → a ≡ b

-- the output that is found is the first that differs
abbrev pub FirstLaw : Type 0
FirstLaw =
    (f g : NetlistOf) (h : Option NetlistOf) (outputs : List (List ℕ)) (output : List ℕ)
    (a : List Bool) →
    (first_difference f g h outputs ≡ Some (output, a)) ↔ IsFirstDifference f g h outputs output a

-- no output is found exactly where none of them ever differs
abbrev pub EquivalentLaw : Type 0
EquivalentLaw = (f g : NetlistOf) (h : Option NetlistOf) (outputs : List (List ℕ))
    → (first_difference f g h outputs ≡ None) ↔ All (NeverDiffers f g h) outputs

-- of all differences the first alone is the first difference
abbrev pub FirstAloneLaw : Type 0
FirstAloneLaw = (f g : NetlistOf) (h : Option NetlistOf) (outputs : List (List ℕ))
    → told false (differences f g h outputs) ≡ option_to_list (first_difference f g h outputs)

-- all differences are the outputs that differ, in their order, each with its least assignment
abbrev pub differs_ever : NetlistOf → NetlistOf → Option NetlistOf → List ℕ → Bool
differs_ever f g h output = is_some (least_difference f g h output)

abbrev pub EachLaw : Type 0
EachLaw =
    (f g : NetlistOf) (h : Option NetlistOf) (outputs : List (List ℕ))
    → (map (λ q. q.0) (differences f g h outputs) ≡ filter (differs_ever f g h) outputs)
    × All (λ q. IsLeastDifference f g h q.0 q.1) (differences f g h outputs)
