use Rattle.eqc_literals.proofs.LiteralLaws.{tell_equal}
use Rattle.eqc_datapath.proofs.inner.shown_of.Goals as goal
use Rattle.eqc_datapath.proofs.inner.shown_of.Goals.{then-some, else-some}

pub returns : goal.returns
returns g c = λ p are. elim c.if-some.branch [
  | then-some w ↦ rw w.result-is (tell_equal p c.args.graph.now c.words.shown.items
      (c.words.invariant p are))
  | else-some w ↦ rw w.result-is (record {})
]
