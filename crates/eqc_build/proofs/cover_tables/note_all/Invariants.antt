use Rattle.eqc_build.specs.CoverTables.{AreTablesOf}
use Rattle.eqc_build.proofs.cover_tables.note_all.Given as goal

abbrev pub invariant-loop-s : goal.invariant-loop-s
invariant-loop-s l = AreTablesOf l.flat l.tables.entries
