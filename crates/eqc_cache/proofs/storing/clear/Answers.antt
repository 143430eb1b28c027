use Rattle.std.proofs.Common.{◌≡◌, ℕ, [], None, arith, ap, subst}
use Rattle.eqc_core.specs.View.{View}
use Rattle.eqc_cache.proofs.Trading.{stays, after_room, as_before, may_replace, lengths_now}
use Rattle.eqc_cache.specs.Placing.{AreEmpty}
use Rattle.eqc_cache.proofs.Cells.{none_empty, one_empty}
use Rattle.eqc_cache.proofs.storing.clear.Goals as goal

pub loop-cell-init : goal.loop-cell-init
loop-cell-init c = record {
  trades = stays c.args.worker.now c.cells-cell-end.ensures.known
      c.requires.may.3;
  empty = none_empty c.args.worker.now.known;
}

pub replace-requires : goal.replace-requires
replace-requires c =
    may_replace c.loop-cell.cell None [] c.args.worker.now c.loop-cell.worker c.requires.may.0
    (let lt = c.loop-cell-test.true in let end = c.cells-cell-end.ensures.cells in omega arith)
    c.loop-cell.invariant.trades tt
    (let room = c.requires.room in
    omega (
      arith,
      lengths_now [] [] c.args.worker.now c.loop-cell.worker
          c.loop-cell.invariant.trades,
    ))

pub loop-cell-preserved : goal.loop-cell-preserved
loop-cell-preserved c = record {
  trades = after_room [] c.args.worker.now c.loop-cell.worker c.replace.new.worker
      c.cells-cell-end.ensures.known c.loop-cell.invariant.trades c.replace.ensures.trades;
  empty =
      one_empty c.loop-cell.cell c.args.worker.now.known c.loop-cell.worker.known
      c.replace.new.worker.known
      (ap (λ (v : View). v.sizes) c.loop-cell.invariant.trades.core) c.loop-cell.invariant.empty
      c.replace.ensures.sets;
}

pub returns-clause-before : goal.returns-clause-before
returns-clause-before c = as_before c.args.worker.now c.loop-cell.worker
    c.cells-cell-end.ensures.known c.loop-cell.invariant.trades

pub returns-clause-empty : goal.returns-clause-empty
returns-clause-empty c =
    let over = c.loop-cell-test.false in
    let least = c.loop-cell.auto.cell-end in
    let end = c.cells-cell-end.ensures.cells in
    let all : c.loop-cell.cell ≡ c.args.worker.now.known.core.sizes.cells = omega arith in
    subst (λ (n : ℕ). AreEmpty n c.args.worker.now.known c.loop-cell.worker.known) all
    c.loop-cell.invariant.empty
