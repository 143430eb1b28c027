use Rattle.std.proofs.Common.{◌≡◌, ◌+◌, ◌<◌, ap, sym, subst, arith}
use Rattle.eqc_core.specs.declared.sizes.Sizes.{Sizes}
use Rattle.eqc_guard.specs.Rule.{cells_from}
use Rattle.eqc_guard.specs.Standing.{Standing}
use Rattle.eqc_guard.proofs.Stepping.{read_allows}
use Rattle.eqc_guard.proofs.worker.Worker.load_cell.Goals as goal

pub load-requires : goal.load-requires
load-requires c =
    let is = c.self.invariant in
    let me = c.self.inside.seat.me in
    let v = sym c.self.view_is in
    let at : c.cell_word-at.result ≡ cells_from me.0.core.sizes + c.args.cell =
    subst (λ (s : Standing). c.cell_word-at.result ≡ cells_from s.known.core.sizes + c.args.cell) v
    c.cell_word-at.ensures in
    let there : c.args.cell < me.0.core.sizes.cells = subst (λ (s : Standing). c.args.cell
    < s.known.core.sizes.cells) v c.requires in (
      rw c.deref.ensures is.one_table,
      rw (c.deref.ensures, is.worker.words) (let e = ap cells_from is.worker.sizes in let f =
          ap (λ (z : Sizes). z.cells) is.worker.sizes in omega arith),
      read_allows c.deref.result.now.shared.key.sizes c.deref.result.now.shared.table_id.slots
          c.self.inside.seat.id c.cell_word-at.result me is.worker.active,
    )
