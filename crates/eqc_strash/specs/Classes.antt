-- Classes of the signals of two netlists: signals of equal structure are one class.
use Rattle.std.specs.Prelude.{◌≡◌, ℕ, ◌+◌, ◌<◌, ◌≤◌, Bool, List, length, slice_index}
use Rattle.eqc_netlist.specs.Graph.{FlatOf, value_of}
use Rattle.eqc_strash.specs.Structure.{Structure, structure_of}

-- the number of the class of each signal of the first netlist and of the second; and how many
-- classes there are
pub record ClassesOf : Type 0 where
  pub first : List ℕ
  pub second : List ℕ
  pub count : ℕ

-- the values of inputs under values of variables: an input at a position has the value of its
-- variable
abbrev pub inputs_under : List ℕ → (ℕ → Bool) → ℕ → Bool
inputs_under variables a position = a (slice_index variables position)

-- numbers of signals are equal exactly where their structures are
pub record TellStructures (structures others : ℕ → Structure) (numbers other_numbers : List ℕ) :
    Type 0 where
  pub no_other : (s t : ℕ) → s < length numbers → t < length other_numbers → slice_index numbers s
      ≡ slice_index other_numbers t → structures s ≡ others t
  pub all : (s t : ℕ) → s < length numbers → t < length other_numbers → structures s ≡ others t
      → slice_index numbers s ≡ slice_index other_numbers t

-- each signal of two netlists, whose inputs have these variables, has the number of its class
pub record AreClasses (f g : FlatOf) (variables others : List ℕ) (c : ClassesOf) : Type 0 where
  pub first_size : length c.first ≡ length f.drivers
  pub second_size : length c.second ≡ length g.drivers
  pub first_within : (s : ℕ) → s < length c.first → slice_index c.first s < c.count
  pub second_within : (t : ℕ) → t < length c.second → slice_index c.second t < c.count
  pub few : c.count ≤ length f.drivers + length g.drivers
  pub in_first : TellStructures (structure_of f variables) (structure_of f variables) c.first
      c.first
  pub in_second : TellStructures (structure_of g others) (structure_of g others) c.second c.second
  pub across : TellStructures (structure_of f variables) (structure_of g others) c.first c.second

-- signals with equal numbers have equal values under values of the inputs
abbrev pub HaveOneValue : FlatOf → FlatOf → (ℕ → Bool) → (ℕ → Bool) → List ℕ → List ℕ → Type 0
HaveOneValue f g a b numbers others =
    (s t : ℕ) → s < length f.drivers → t < length g.drivers → slice_index numbers s
    ≡ slice_index others t → value_of f a s ≡ value_of g b t

-- signals of one class have equal values, whatever the values of the variables
pub record HaveOneValueEach (f g : FlatOf) (variables others : List ℕ) (c : ClassesOf) : Type 0
  where
    pub in_first : (a : ℕ → Bool) → HaveOneValue f f (inputs_under variables a)
        (inputs_under variables a) c.first c.first
    pub in_second : (a : ℕ → Bool) → HaveOneValue g g (inputs_under others a) (inputs_under others a)
        c.second c.second
    pub across : (a : ℕ → Bool) → HaveOneValue f g (inputs_under variables a) (inputs_under others a)
        c.first c.second
