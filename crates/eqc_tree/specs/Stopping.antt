-- The number that a report shows for a stop.
use Rattle.std.specs.Prelude.{ℕ}
use Rattle.eqc_tree.specs.declared.stopping.Stop.{Stop}
use Rattle.eqc_tree.specs.declared.stopping.Stop.TheVariants.{NodeLimit, Memory, References}
use Rattle.eqc_tree.specs.declared.stopping.Stop.TheVariants.{Threads}

-- the number of a stop in a report
abbrev pub code_of : Stop → ℕ
code_of NodeLimit = 71
code_of Memory = 72
code_of References = 73
code_of Threads = 74
