-- A truth table in two parts at one of its columns.
use Rattle.std.specs.Prelude.{ℕ, ◌≤◌, Bool, not, ◌&&◌, List}
use Rattle.eqc_tree.specs.Operation.{operate}
use Rattle.eqc_cover.specs.declared.split.Gate.{Gate}
use Rattle.eqc_cover.specs.declared.split.Gate.TheVariants.{Function, Column, Both, OnlyColumn}
use Rattle.eqc_cover.specs.declared.split.Gate.TheVariants.{OnlyFunction}
use Rattle.eqc_cover.specs.declared.split.Part.{Part}
use Rattle.eqc_cover.specs.declared.split.Parts.{Parts}
use Rattle.eqc_cover.specs.Table.{table_value, DependsOnOpen}

-- what a gate makes of a column's value and of a function's
abbrev pub gate_value : Gate → Bool → Bool → Bool
gate_value Function x v = v
gate_value Column x v = x
gate_value Both x v = x && v
gate_value OnlyColumn x v = x && not v
gate_value OnlyFunction x v = v && not x

-- what a part says where the column has this value, and all columns have these
abbrev pub part_value : Part → Bool → List Bool → Bool
part_value p x vs = gate_value p.gate x (table_value p.table vs)

-- what both parts say together
abbrev pub parts_value : Parts → Bool → List Bool → Bool
parts_value s x vs = operate s.op (part_value s.front x vs) (part_value s.back x vs)

-- a table depends on no other columns than two tables do
pub record StaysOpen (high low t : ℕ) : Type 0 where
  pub depends : (n : ℕ) → n ≤ 6 → (opens : List Bool) → DependsOnOpen high n opens
      → DependsOnOpen low n opens → DependsOnOpen t n opens
