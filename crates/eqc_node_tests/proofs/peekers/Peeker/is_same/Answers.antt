use Rattle.std.proofs.Common.{ap, sym, ◌∙◌, ◌<◌, arith}
use mathlib.Core.Option.{some}
use Rattle.eqc_core.proofs.Lists.{get_at}
use Rattle.eqc_node_tests.proofs.Peeking.{each_out}
use Rattle.eqc_node_tests.proofs.peekers.Peeker.is_same.Goals as goal

pub peek_same-requires-clause-out : goal.peek_same-requires-clause-out
peek_same-requires-clause-out g c =
    let s = c.args.self.now in
    let p = c.index.result.now in
    each_out s.references.items s.snapshots.items s.worker s.peeking c.args.place p
    (get_at s.snapshots.items c.args.place p (omega arith) ∙ ap some (sym c.index.ensures))
