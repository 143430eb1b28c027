use Rattle.eqc_pair.specs.PairOf.{PairOf}
use Rattle.eqc_gates.specs.Entering.{AreLiterals}
use Rattle.eqc_datapath.proofs.inner.shown_of.Given as goal

abbrev pub invariant-words : goal.invariant-words
invariant-words g l = (p : PairOf) → AreLiterals p l.graph l.literals
    → AreLiterals p l.graph l.shown.items
