use Rattle.std.proofs.Common.{ℕ, ◌*◌, ◌≤◌, ◌^◌, length, ap, sym, subst, arith}
use Rattle.eqc_core.specs.Words.{announced_words}
use Rattle.eqc_core.specs.Scanning.{MayScan}
use Rattle.eqc_guard.specs.Standing.{Standing}
use Rattle.eqc_guard.proofs.Moves.{scan_allows}
use Rattle.eqc_guard.proofs.worker.Worker.scan_one.Goals as goal

pub load-name-requires : goal.load-name-requires
load-name-requires c =
    let is = c.self.invariant in
    let me = c.self.inside.seat.me in
    let v = sym c.self.view_is in
    let may : MayScan me.0.core = subst (λ (s : Standing). MayScan s.known.core) v c.requires.may in
    let room : length me.0.core.held ≤ 2 ^ 39 = subst (λ (s : Standing). length s.known.core.held
    ≤ 2 ^ 39) v c.requires.room in (
      rw c.deref.ensures is.one_table,
      rw (c.deref.ensures, is.worker.words) (let p = is.position_is in let place =
          is.worker.known.place in let e = ap announced_words is.worker.sizes in omega arith),
      scan_allows c.deref.result.now.shared.key.sizes c.deref.result.now.shared.table_id.slots
          c.self.inside.seat.id (2 * c.self.inside.position) me is.worker.active
          (ap (λ (n : ℕ). 2 * n) is.position_is) may room,
    )
