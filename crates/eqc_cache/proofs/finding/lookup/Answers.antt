use Rattle.std.proofs.Common.{sym, subst, arith, refl, inr}
use Rattle.eqc_core.specs.View.{View}
use Rattle.eqc_guard.specs.Known.{IsHeld}
use Rattle.eqc_cache.specs.Placing.{in_order, kept_word}
use Rattle.eqc_cache.proofs.Cells.{seen_word, entry_here}
use Rattle.eqc_cache.proofs.Hits.{ordered_held, small_operands}
use Rattle.eqc_cache.proofs.Loading.{may_on, passes, passed_on, hits_on, load_leaves, cells_after}
use Rattle.eqc_cache.proofs.Loading.{results_after, missed_after}
use Rattle.eqc_cache.proofs.finding.lookup.Goals as goal

-- the operands fit their fields of a word
pub result_in-requires-clause-first : goal.result_in-requires-clause-first
result_in-requires-clause-first c =
    (small_operands c.args.op c.args.f.now.number c.args.g.now.number c.number.result
    c.number-2.result c.ordered-first.result
    c.args.worker.now.known c.cells.ensures.known c.requires.first c.requires.second
    c.number.ensures c.number-2.ensures
    c.ordered-first.ensures.either).0

pub result_in-requires-clause-second : goal.result_in-requires-clause-second
result_in-requires-clause-second c =
    (small_operands c.args.op c.args.f.now.number c.args.g.now.number c.number.result
    c.number-2.result c.ordered-first.result
    c.args.worker.now.known c.cells.ensures.known c.requires.first c.requires.second
    c.number.ensures c.number-2.ensures
    c.ordered-first.ensures.either).1

-- a word that is no entry is a miss, and nothing else has changed
pub returns-in_err-result_in-clause-miss : goal.returns-in_err-result_in-clause-miss
returns-in_err-result_in-clause-miss c = λ e. passes c.args.worker.now c.load_cell-loaded.new.self
    c.load_cell-loaded.ensures.step c.requires.may.3

pub returns-in_err-result_in-clause-cells : goal.returns-in_err-result_in-clause-cells
returns-in_err-result_in-clause-cells c = load_leaves c.args.worker.now c.load_cell-loaded.new.self
    c.load_cell-loaded.ensures.step _ c.load_cell-loaded.result c.load_cell-loaded.ensures.copies

pub returns-in_err-result_in-clause-missed : goal.returns-in_err-result_in-clause-missed
returns-in_err-result_in-clause-missed c = λ e. inr (λ ws has entry.
    let s =
    seen_word c.args.op c.args.f.now.number c.args.g.now.number c.number.result c.number-2.result
    c.cells.result c.place-cell.result
    c.load_cell-loaded.result c.ordered-first.result c.args.worker.now.known
    c.load_cell-loaded.new.self.known
    c.number.ensures c.number-2.ensures c.cells.ensures.cells c.ordered-first.ensures.order
    c.place-cell.ensures.place c.load_cell-loaded.ensures.copies ws has in
    c.in_err-result_in.ensures.other refl
    (entry_here c.args.op c.ordered-first.result (in_order c.args.op c.args.f.now.number
    c.args.g.now.number) c.load_cell-loaded.result
    (kept_word c.args.op c.args.f.now.number c.args.g.now.number c.args.worker.now.known ws) s.1 s.0
    entry))

-- a word that is one lets the look begin
pub seek-requires-clause-may : goal.seek-requires-clause-may
seek-requires-clause-may c =
    let there = c.place-cell.ensures.within in
    let all = c.cells.ensures.cells in
    may_on c.args.worker.now c.load_cell-loaded.new.self c.load_cell-loaded.ensures.step
    c.place-cell.result c.requires.may (omega arith)

pub seek-requires-clause-first : goal.seek-requires-clause-first
seek-requires-clause-first c =
    (small_operands c.args.op c.args.f.now.number c.args.g.now.number c.number.result
    c.number-2.result c.ordered-first.result
    c.args.worker.now.known c.cells.ensures.known c.requires.first c.requires.second
    c.number.ensures c.number-2.ensures
    c.ordered-first.ensures.either).0

pub seek-requires-clause-second : goal.seek-requires-clause-second
seek-requires-clause-second c =
    (small_operands c.args.op c.args.f.now.number c.args.g.now.number c.number.result
    c.number-2.result c.ordered-first.result
    c.args.worker.now.known c.cells.ensures.known c.requires.first c.requires.second
    c.number.ensures c.number-2.ensures
    c.ordered-first.ensures.either).1

pub seek-requires-clause-first_held : goal.seek-requires-clause-first_held
seek-requires-clause-first_held c =
    subst (λ (v : View). IsHeld v c.ordered-first.result.0)
    (sym c.load_cell-loaded.ensures.step.known.core)
    (ordered_held c.args.op c.args.f.now.number c.args.g.now.number c.number.result
    c.number-2.result c.ordered-first.result
    c.args.worker.now.known.core c.number.ensures c.number-2.ensures c.requires.first
    c.requires.second c.ordered-first.ensures.either).0

pub seek-requires-clause-second_held : goal.seek-requires-clause-second_held
seek-requires-clause-second_held c =
    subst (λ (v : View). IsHeld v c.ordered-first.result.1)
    (sym c.load_cell-loaded.ensures.step.known.core)
    (ordered_held c.args.op c.args.f.now.number c.args.g.now.number c.number.result
    c.number-2.result c.ordered-first.result
    c.args.worker.now.known.core c.number.ensures c.number-2.ensures c.requires.first
    c.requires.second c.ordered-first.ensures.either).1

-- what it tells is so of the worker before the load
pub returns-clause-hit : goal.returns-clause-hit
returns-clause-hit c =
    let held =
    ordered_held c.args.op c.args.f.now.number c.args.g.now.number c.number.result c.number-2.result
    c.ordered-first.result
    c.args.worker.now.known.core c.number.ensures c.number-2.ensures c.requires.first
    c.requires.second c.ordered-first.ensures.either in
    hits_on c.args.worker.now c.load_cell-loaded.new.self c.load_cell-loaded.ensures.step c.args.op
    c.args.f.now.number c.args.g.now.number
    c.number.result c.number-2.result c.ordered-first.result c.seek.new.worker c.seek.result
    c.number.ensures c.number-2.ensures
    c.ordered-first.ensures.either held.0 held.1 c.seek.ensures.hit

pub returns-clause-miss : goal.returns-clause-miss
returns-clause-miss c = λ e. passed_on c.args.worker.now c.load_cell-loaded.new.self
    c.load_cell-loaded.ensures.step c.seek.new.worker (c.seek.ensures.miss e)

pub returns-clause-cells : goal.returns-clause-cells
returns-clause-cells c =
    cells_after c.args.worker.now c.load_cell-loaded.new.self c.load_cell-loaded.ensures.step _
    c.load_cell-loaded.result c.load_cell-loaded.ensures.copies c.seek.new.worker
    c.seek.ensures.cells

pub returns-clause-found : goal.returns-clause-found
returns-clause-found c =
    results_after c.args.worker.now c.load_cell-loaded.new.self c.load_cell-loaded.ensures.step _
    c.load_cell-loaded.result
    c.load_cell-loaded.ensures.copies c.args.op c.args.f.now.number c.args.g.now.number
    c.number.result c.number-2.result c.cells.result
    c.place-cell.result c.ordered-first.result c.number.ensures c.number-2.ensures
    c.ordered-first.ensures.order c.cells.ensures.cells
    c.place-cell.ensures.place c.seek.result c.seek.ensures.found

pub returns-clause-missed : goal.returns-clause-missed
returns-clause-missed c =
    λ none.
    missed_after c.args.worker.now c.load_cell-loaded.new.self c.load_cell-loaded.ensures.step _
    c.load_cell-loaded.result
    c.load_cell-loaded.ensures.copies c.args.op c.args.f.now.number c.args.g.now.number
    c.number.result c.number-2.result c.cells.result
    c.place-cell.result c.ordered-first.result c.number.ensures c.number-2.ensures
    c.ordered-first.ensures.order c.cells.ensures.cells
    c.place-cell.ensures.place (c.seek.ensures.missed none)
