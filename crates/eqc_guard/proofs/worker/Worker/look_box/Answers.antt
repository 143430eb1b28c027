use Rattle.std.proofs.Common.{◌≡◌, ◌+◌, ap, sym, subst, arith}
use Rattle.eqc_core.specs.declared.sizes.Sizes.{Sizes}
use Rattle.eqc_core.specs.Sharing.{MayLookBox}
use Rattle.eqc_guard.specs.Rule.{boxes_from}
use Rattle.eqc_guard.specs.Standing.{Standing}
use Rattle.eqc_guard.proofs.Stepping.{read_allows}
use Rattle.eqc_guard.proofs.worker.Worker.look_box.Goals as goal

pub load-requires : goal.load-requires
load-requires c =
    let is = c.self.invariant in
    let me = c.self.inside.seat.me in
    let v = sym c.self.view_is in
    let at : c.box_word-word.result ≡ boxes_from me.0.core.sizes + c.args.b =
    subst (λ (s : Standing). c.box_word-word.result ≡ boxes_from s.known.core.sizes + c.args.b)
    v c.box_word-word.ensures in
    let may : MayLookBox me.0.core c.args.b =
    subst (λ (s : Standing). MayLookBox s.known.core c.args.b) v c.requires in (
      rw c.deref.ensures is.one_table,
      rw (c.deref.ensures, is.worker.words) (let there = may.1 in let e =
          ap boxes_from is.worker.sizes in let f = ap (λ (z : Sizes). z.workers) is.worker.sizes in
          omega arith),
      read_allows c.deref.result.now.shared.key.sizes c.deref.result.now.shared.table_id.slots
          c.self.inside.seat.id c.box_word-word.result me is.worker.active,
    )
