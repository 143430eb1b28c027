use Rattle.std.proofs.Common.{◌≡◌, ◌+◌, ◌<◌, ap, sym, subst, arith}
use Rattle.eqc_core.specs.declared.sizes.Sizes.{Sizes}
use Rattle.eqc_core.specs.Words.{announced_words}
use Rattle.eqc_core.specs.Making.{MayRead}
use Rattle.eqc_guard.specs.Rule.{nodes_from}
use Rattle.eqc_guard.specs.Standing.{Standing}
use Rattle.eqc_guard.proofs.Making.{node_allows}
use Rattle.eqc_guard.proofs.Copying.{below}
use Rattle.eqc_guard.proofs.worker.Worker.read_node.Goals as goal

pub node_word-word-requires : goal.node_word-word-requires
node_word-word-requires c =
    let known = c.self.invariant.worker.known in
    let may : MayRead c.self.inside.seat.me.0.core c.args.node.now.number =
    subst (λ (s : Standing). MayRead s.known.core c.args.node.now.number) (sym c.self.view_is)
    c.requires in
    subst (λ (s : Standing). c.args.node.now.number < s.known.core.sizes.names) c.self.view_is
    (below c.self.inside.seat.me.0 c.args.node.now.number known (known.slots c.args.node.now.number
    may.1) may.1)

pub load-requires : goal.load-requires
load-requires c =
    let is = c.self.invariant in
    let me = c.self.inside.seat.me in
    let v = sym c.self.view_is in
    let known = is.worker.known in
    let at : c.node_word-word.result ≡ nodes_from me.0.core.sizes + c.args.node.now.number =
    subst (λ (s : Standing). c.node_word-word.result ≡ nodes_from s.known.core.sizes
    + c.args.node.now.number) v c.node_word-word.ensures in
    let may : MayRead me.0.core c.args.node.now.number =
    subst (λ (s : Standing). MayRead s.known.core c.args.node.now.number) v c.requires in (
      rw c.deref.ensures is.one_table,
      rw (c.deref.ensures, is.worker.words)
          (let there = below me.0 c.args.node.now.number known (known.slots c.args.node.now.number
          may.1) may.1 in
          let e = ap announced_words is.worker.sizes in
          let f = ap (λ (z : Sizes). z.names) is.worker.sizes in
          omega arith),
      node_allows c.deref.result.now.shared.key.sizes c.deref.result.now.shared.table_id.slots
          c.self.inside.seat.id c.node_word-word.result me is.worker.active c.args.node.now.number
          at may,
    )
