use Rattle.std.proofs.Common.{subst, sym}
use Rattle.std.proofs.lemmas.Result.{IfOk-weaker}
use Rattle.eqc_sweep.specs.Copying.{AreCopies}
use Rattle.eqc_datapath.proofs.adding.chained.Goals as goal

pub returns : goal.returns
returns c =
    let plain = c.args.plain.now in
    let swept = c.copy_shaped.new.sweep in
    let table = c.deref-2.result.now in
    let first : AreCopies c.graph.result.now swept table =
    subst (AreCopies c.graph.result.now swept) (sym c.deref-2.ensures.value)
    c.in_ok-table.ensures.copies in
    let copies : AreCopies plain swept table = subst (λ nodes. AreCopies nodes swept table)
    c.graph.ensures first in
    IfOk-weaker c.moved.result _ _ (λ all are. record {
      lawful = c.requires.inside.lawful;
      values =
          are;
    })
    (c.moved.ensures c.args.task.now.steps.now.pair plain swept c.requires.inside.values copies)
