use Rattle.eqc_sums.specs.Adding.{AreEqualWords}
use Rattle.eqc_pair.specs.PairOf.{PairOf}
use Rattle.eqc_gates.specs.Entering.{AreLiterals}
use Rattle.eqc_datapath.proofs.inner.note_word.Given as goal

abbrev pub invariant-bits : goal.invariant-bits
invariant-bits l = (p : PairOf) → AreEqualWords l.graph l.word.firsts.items l.word.seconds.items
    → AreLiterals p l.graph l.literals → AreLiterals p l.graph l.initial.shown.items
    → AreLiterals p l.graph l.shown.items
