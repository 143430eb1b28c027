use Rattle.std.specs.Prelude.{◌≡◌, length}
use Rattle.eqc_xag.specs.Graph.{IsGraph}
use Rattle.eqc_numbers.proofs.CasesLaws.{IsPartOf}
use Rattle.eqc_numbers.proofs.cofactor.cofactor.Given as goal

abbrev pub invariant-nodes : goal.invariant-nodes
invariant-nodes l = record {
  part : IsPartOf l.graph l.variable l.value l.k l.part;
  size : length l.part ≡ l.k;
}
