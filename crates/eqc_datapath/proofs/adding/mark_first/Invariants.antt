use Rattle.eqc_datapath.proofs.AddingLaws.{IsMarking}
use Rattle.eqc_datapath.proofs.adding.mark_first.Given as goal

abbrev pub invariant-loop-k : goal.invariant-loop-k
invariant-loop-k l = IsMarking l.word l.count l.initial.alike l.alike l.k
