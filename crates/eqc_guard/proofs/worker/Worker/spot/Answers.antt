use Rattle.std.proofs.Common.{◌≡◌, ◌+◌, ◌<◌, ap, sym, subst, arith}
use Rattle.eqc_core.specs.declared.sizes.Sizes.{Sizes}
use Rattle.eqc_core.specs.Words.{announced_words}
use Rattle.eqc_guard.specs.Standing.{Standing}
use Rattle.eqc_guard.specs.Rule.{counts_from}
use Rattle.eqc_guard.proofs.Making.{spot_allows}
use Rattle.eqc_guard.proofs.worker.Worker.spot.Goals as goal

pub load-requires : goal.load-requires
load-requires c =
    let is = c.self.invariant in
    let me = c.self.inside.seat.me in
    let v = sym c.self.view_is in
    let at : c.count_word-at.result ≡ counts_from me.0.core.sizes + c.args.x =
    subst (λ (s : Standing). c.count_word-at.result ≡ counts_from s.known.core.sizes + c.args.x) v
    c.count_word-at.ensures in
    let there : c.args.x < me.0.core.sizes.names =
    subst (λ (s : Standing). c.args.x < s.known.core.sizes.names) v c.requires in (
      rw c.deref.ensures is.one_table,
      rw (c.deref.ensures, is.worker.words) (let e = ap announced_words is.worker.sizes in let f =
          ap (λ (z : Sizes). z.names) is.worker.sizes in omega arith),
      spot_allows c.deref.result.now.shared.key.sizes c.deref.result.now.shared.table_id.slots
          c.self.inside.seat.id c.count_word-at.result me is.worker.active c.args.x at,
    )
