use Rattle.std.proofs.Common.{◌≡◌, [], sym, subst, arith}
use Rattle.eqc_guard.specs.Standing.{Standing}
use Rattle.eqc_guard.proofs.Stepping.{alone_allows}
use Rattle.eqc_guard.proofs.worker.Worker.copy_words.Goals as goal

pub load-requires : goal.load-requires
load-requires c =
    let is = c.self.invariant in
    let me = c.self.inside.seat.me in
    let v = sym c.self.view_is in
    let first : me.0.core.number ≡ 0 = subst (λ (s : Standing). s.known.core.number ≡ 0) v
    c.requires.first in
    let none : me.0.core.out ≡ [] = subst (λ (s : Standing). s.known.core.out ≡ []) v
    c.requires.none in (
      rw c.deref.ensures is.one_table,
      rw (c.deref.ensures, is.worker.words) (omega arith),
      alone_allows c.deref.result.now.shared.key.sizes c.deref.result.now.shared.table_id.slots
          c.self.inside.seat.id 0 me is.worker.active first none,
    )
