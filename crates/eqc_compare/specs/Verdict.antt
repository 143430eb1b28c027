-- When two netlists differ: an output differs under an assignment of the inputs where its values in
-- the two netlists differ,
-- inputs and outputs being matched by name, and the assignment is allowed. An assumption allows
-- those under which its one output
-- is 1, its inputs being matched by name with those of the first netlist; without an assumption all
-- are allowed. An output's
-- least difference is the least such assignment in lexicographic order over the inputs as the first
-- netlist declares them, 0
-- before 1. The order of variables plays no part.
use Rattle.std.specs.Prelude.{ℕ, Bool, true, false, not, ◌&&◌, List, [], ◌∷◌, length, find, take}
use Rattle.std.specs.Prelude.{Option, Some, None, slice_index_or, if◌then◌else◌}
use Rattle.std.specs.Option.{option_map, option_or, is_none}
use Rattle.eqc_tree.specs.Assigned.{assignments}
use Rattle.eqc_pair.specs.Matched.{position_of}

-- a netlist as its user sees it: its inputs, its outputs, and the value of the output of a name
-- under values
-- of the inputs by position
pub record NetlistOf : Type 0 where
  pub inputs : List (List ℕ)
  pub outputs : List (List ℕ)
  pub value : List ℕ → (ℕ → Bool) → Bool

-- an assignment of declared inputs as values of inputs with these names, by their position
abbrev pub values_for : List (List ℕ) → List Bool → List (List ℕ) → ℕ → Bool
values_for declared a names p = slice_index_or a (position_of declared (slice_index_or names p []))
    false

abbrev pub is_different : Bool → Bool → Bool
is_different true b = not b
is_different false b = b

-- the value of an output in the first netlist, and in the second, under an assignment of the first
-- one's inputs
abbrev pub first_value : NetlistOf → List ℕ → List Bool → Bool
first_value f output a = f.value output (values_for f.inputs a f.inputs)

abbrev pub second_value : NetlistOf → NetlistOf → List ℕ → List Bool → Bool
second_value f g output a = g.value output (values_for f.inputs a g.inputs)

-- whether an output has different values in the two netlists under an assignment
abbrev pub has_two_values : NetlistOf → NetlistOf → List ℕ → List Bool → Bool
has_two_values f g output a = is_different (first_value f output a) (second_value f g output a)

-- whether an assignment of the first netlist's inputs is allowed
abbrev pub is_allowed : NetlistOf → Option NetlistOf → List Bool → Bool
is_allowed f None a = true
is_allowed f (Some h) a = h.value (slice_index_or h.outputs 0 []) (values_for f.inputs a h.inputs)

-- whether no assignment is
abbrev pub allows_none : NetlistOf → Option NetlistOf → Bool
allows_none f h = is_none (find (is_allowed f h) (assignments (length f.inputs)))

-- whether an output differs under an assignment
abbrev pub differs_under : NetlistOf → NetlistOf → Option NetlistOf → List ℕ → List Bool → Bool
differs_under f g h output a = is_allowed f h a && has_two_values f g output a

-- the least assignment under which an output differs
abbrev pub least_difference : NetlistOf → NetlistOf → Option NetlistOf → List ℕ → Option (List Bool)
least_difference f g h output = find (differs_under f g h output) (assignments (length f.inputs))

-- the first of these outputs that differs, with its least assignment
abbrev pub first_difference : NetlistOf → NetlistOf → Option NetlistOf → List (List ℕ)
    → Option (List ℕ × List Bool)
first_difference f g h [] = None
first_difference f g h (output ∷ outputs) =
    option_or (option_map (λ a. (output, a)) (least_difference f g h output))
    (first_difference f g h outputs)

-- an output with its least assignment before others that differ, or these alone where it never
-- differs
abbrev pub with_difference : List ℕ → Option (List Bool) → List (List ℕ × List Bool)
    → List (List ℕ × List Bool)
with_difference output None others = others
with_difference output (Some a) others = (output, a) ∷ others

-- each of these outputs that differs, with its least assignment, in their order
abbrev pub differences : NetlistOf → NetlistOf → Option NetlistOf → List (List ℕ)
    → List (List ℕ × List Bool)
differences f g h [] = []
differences f g h (output ∷ outputs) = with_difference output (least_difference f g h output)
    (differences f g h outputs)

-- the differences that are told: each, or the first alone
abbrev pub told : Bool → List (List ℕ × List Bool) → List (List ℕ × List Bool)
told true all = all
told false all = take 1 all

-- what a comparison of outputs says: that no assignment is allowed, or which of them differ; none
-- do where the list is empty
pub data VerdictOf : Type 0 where
  vacuous : VerdictOf
  compared : (found : List (List ℕ × List Bool)) → VerdictOf

abbrev pub verdict : Bool → NetlistOf → NetlistOf → Option NetlistOf → List (List ℕ) → VerdictOf
verdict every f g h outputs = if allows_none f h then vacuous else compared
    (told every (differences f g h outputs))
