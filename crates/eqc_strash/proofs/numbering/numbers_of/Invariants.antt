use Rattle.std.proofs.Common.{◌≡◌, false}
use Rattle.eqc_strash.specs.Structure.{constant}
use Rattle.eqc_strash.specs.Tables.{Grows, structures_in}
use Rattle.eqc_strash.specs.Numbering.{AreNumbered}
use Rattle.eqc_strash.proofs.numbering.numbers_of.Given as goal

abbrev pub invariant-loop-k : goal.invariant-loop-k
invariant-loop-k l = record {
  rows : l.table.0 ≡ l.initial.table.0;
  grown : Grows (constant false) (structures_in l.initial.table) (structures_in l.table) l.k;
  numbered : AreNumbered l.flat l.variables (structures_in l.table) l.numbers.items l.k;
}
