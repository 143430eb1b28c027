use Rattle.eqc_datapath.proofs.AddingLaws.{IsAsking}
use Rattle.eqc_datapath.proofs.adding.literals_of.Given as goal

abbrev pub invariant-outputs : goal.invariant-outputs
invariant-outputs l = record {
  asking : IsAsking l.steps l.literals l.word l.firsts.items l.seconds.items l.k;
}
