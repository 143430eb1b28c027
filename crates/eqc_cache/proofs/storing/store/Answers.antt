use Rattle.std.proofs.Common.{Some, ap, inl, inr}
use Rattle.eqc_core.specs.View.{View}
use Rattle.eqc_guard.specs.Filling.{entry_names, word_of}
use Rattle.eqc_guard.proofs.Copying.{sets_after}
use Rattle.eqc_cache.proofs.Trading.{as_before, came_and_went}
use Rattle.eqc_cache.proofs.Cells.{stores}
use Rattle.eqc_cache.proofs.storing.store.Goals as goal

pub returns-in-Some-clause-before : goal.returns-in-Some-clause-before
returns-in-Some-clause-before c =
    as_before c.args.worker.now c.replace.new.worker c.cells.ensures.known
    (came_and_went (entry_names (Some c.in-Some.filled)) c.args.worker.now c.entry.new.worker
    c.replace.new.worker c.cells.ensures.known c.in-Some.ensures.some c.replace.ensures.trades)

pub returns-in_default-clause-before : goal.returns-in_default-clause-before
returns-in_default-clause-before c = as_before c.args.worker.now c.entry.new.worker
    c.cells.ensures.known (c.entry.ensures.none c.in_default.is)

pub returns-in-Some-clause-stored : goal.returns-in-Some-clause-stored
returns-in-Some-clause-stored c =
    let sizes = ap (λ (v : View). v.sizes) c.in-Some.ensures.some.core in
    inl
    (stores c.args.op c.args.f.now.number c.args.g.now.number c.args.r.now.number c.number.result
    c.number-2.result c.number-3.result
    c.cells.result c.place-cell.result (word_of (Some c.in-Some.filled)) c.ordered-first.result
    c.args.worker.now.known
    c.replace.new.worker.known
    c.number.ensures c.number-2.ensures c.number-3.ensures c.cells.ensures.cells
    c.ordered-first.ensures.order c.place-cell.ensures.place c.in-Some.ensures.word
    (sets_after c.args.worker.now.known c.entry.new.worker.known c.replace.new.worker.known
    c.place-cell.result (word_of (Some c.in-Some.filled)) sizes c.in-Some.ensures.cells
    c.replace.ensures.sets))

pub returns-in_default-clause-stored : goal.returns-in_default-clause-stored
returns-in_default-clause-stored c = inr (
  c.entry.ensures.full c.in_default.is,
  c.entry.ensures.cells,
)
