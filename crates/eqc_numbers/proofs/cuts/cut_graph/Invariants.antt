use Rattle.std.specs.Prelude.{◌≡◌, length}
use Rattle.eqc_numbers.proofs.CutLaws.{IsCutTo}
use Rattle.eqc_numbers.proofs.cuts.cut_graph.Given as goal

abbrev pub invariant-nodes : goal.invariant-nodes
invariant-nodes l = record { part : IsCutTo l.graph l.k l.part; size : length l.part ≡ l.k }
