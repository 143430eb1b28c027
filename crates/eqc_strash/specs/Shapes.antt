-- For the proofs alone: shapes, by which classes are told. A shape is a variable, a constant, or a
-- gate over classes.
use Rattle.std.specs.Prelude.{ℕ, ◌<◌, Bool, false, ◌&&◌, ◌==◌, List, [], ◌++◌, length, map}
use Rattle.std.specs.Prelude.{slice_index, slice_index_or}
use Rattle.std.specs.Str.{bytes_eq}
use Rattle.std.specs.Bool.{beq}
use Rattle.std.specs.Hash.{u8, u16, u32, bool, slice}
use Rattle.eqc_strash.specs.Structure.{Structure, variable, constant, gate, in_row}
use Rattle.eqc_strash.specs.declared.shape.Shape.{Shape}
use Rattle.eqc_strash.specs.declared.shape.Shape.TheVariants.{Variable, Constant, Gate}

-- whether two shapes are equal
abbrev pub same_shape : Shape → Shape → Bool
same_shape (Variable v) (Variable w) = v == w
same_shape (Constant b) (Constant c) = beq b c
same_shape (Gate rows columns) (Gate others classes) = (rows == others) && bytes_eq columns classes
same_shape _ _ = false

-- what of a shape a hasher is fed
abbrev pub shape_input : Shape → List (List ℕ)
shape_input (Variable v) = u8 0 ++ u16 v
shape_input (Constant b) = u8 1 ++ bool b
shape_input (Gate rows columns) = u32 rows ++ slice u32 columns

-- the structure of a class, or a constant where there is no such class
abbrev pub structure_at : List Structure → ℕ → Structure
structure_at structures c = slice_index_or structures c (constant false)

-- what a shape over rows by their numbers and over classes of these structures is
abbrev pub grown : List (List (List ℕ)) → List Structure → Shape → Structure
grown rows structures (Variable v) = variable v
grown rows structures (Constant b) = constant b
grown rows structures (Gate r columns) =
    gate (slice_index_or rows r []) (in_row (map (structure_at structures) columns))

-- whether a shape speaks of so many rows and classes
abbrev pub IsShapeWithin : ℕ → ℕ → Shape → Type 0
IsShapeWithin rows classes (Variable v) = Unit {0}
IsShapeWithin rows classes (Constant b) = Unit {0}
IsShapeWithin rows classes (Gate r columns) = (r < rows) × ((k : ℕ) → k < length columns
    → slice_index columns k < classes)
