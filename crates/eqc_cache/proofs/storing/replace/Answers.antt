use Rattle.std.proofs.Common.{◌≡◌, [], ◌∷◌, ap, ◌∙◌}
use Rattle.eqc_core.specs.View.{View}
use Rattle.eqc_guard.specs.Filling.{entry_names, word_of}
use Rattle.eqc_guard.proofs.Copying.{sets_after, stays_set, cell_sets}
use Rattle.eqc_cache.proofs.Trading.{may_swap, swap_gives, swap_gives_none, gives_back, came_held}
use Rattle.eqc_cache.proofs.Trading.{after_room}
use Rattle.eqc_cache.proofs.Cells.{down_keeps}
use Rattle.eqc_cache.proofs.storing.replace.Goals as goal

pub swap_cell-requires : goal.swap_cell-requires
swap_cell-requires c = may_swap c.args.cell c.args.filled c.args.worker.now
    c.scan_when_full.new.worker c.requires c.scan_when_full.ensures.same
    c.scan_when_full.ensures.few

pub down-requires-clause-held : goal.down-requires-clause-held
down-requires-clause-held c =
    let may = may_swap c.args.cell c.args.filled c.args.worker.now c.scan_when_full.new.worker
    c.requires c.scan_when_full.ensures.same c.scan_when_full.ensures.few in
    let is = c.in-Some.ensures in
    let two =
    swap_gives c.args.cell is.0 c.in-Some.f.number c.in-Some.g.number c.args.filled
    c.scan_when_full.new.worker c.swap_cell.new.self c.scan_when_full.ensures.same.known may
    is.1 is.3.0 is.3.1 in
    came_held (entry_names c.args.filled) (c.in-Some.g.number ∷ []) c.in-Some.f.number
    c.scan_when_full.new.worker c.swap_cell.new.self two

pub down-requires-in-Some-clause-held : goal.down-requires-in-Some-clause-held
down-requires-in-Some-clause-held c =
    let may = may_swap c.args.cell c.args.filled c.args.worker.now c.scan_when_full.new.worker
    c.requires c.scan_when_full.ensures.same c.scan_when_full.ensures.few in
    let is = c.in-Some.ensures in
    let two =
    swap_gives c.args.cell is.0 c.in-Some.f.number c.in-Some.g.number c.args.filled
    c.scan_when_full.new.worker c.swap_cell.new.self c.scan_when_full.ensures.same.known may
    is.1 is.3.0 is.3.1 in
    let one =
    gives_back (entry_names c.args.filled) (c.in-Some.g.number ∷ []) c.in-Some.f.number
    c.scan_when_full.new.worker c.swap_cell.new.self
    c.down.new.self two c.down.ensures.constant c.down.ensures.step in
    came_held (entry_names c.args.filled) [] c.in-Some.g.number c.scan_when_full.new.worker
    c.down.new.self one

pub returns-in-Some-clause-trades : goal.returns-in-Some-clause-trades
returns-in-Some-clause-trades c =
    let may = may_swap c.args.cell c.args.filled c.args.worker.now c.scan_when_full.new.worker
    c.requires c.scan_when_full.ensures.same c.scan_when_full.ensures.few in
    let is = c.in-Some.ensures in
    let two =
    swap_gives c.args.cell is.0 c.in-Some.f.number c.in-Some.g.number c.args.filled
    c.scan_when_full.new.worker c.swap_cell.new.self c.scan_when_full.ensures.same.known may
    is.1 is.3.0 is.3.1 in
    let one =
    gives_back (entry_names c.args.filled) (c.in-Some.g.number ∷ []) c.in-Some.f.number
    c.scan_when_full.new.worker c.swap_cell.new.self
    c.down.new.self two c.down.ensures.constant c.down.ensures.step in
    let none =
    gives_back (entry_names c.args.filled) [] c.in-Some.g.number c.scan_when_full.new.worker
    c.down.new.self c.down-in-Some.new.self one
    c.down-in-Some.ensures.constant c.down-in-Some.ensures.step in
    after_room (entry_names c.args.filled) c.args.worker.now c.scan_when_full.new.worker
    c.down-in-Some.new.self c.requires.known c.scan_when_full.ensures.same none

pub returns-in_default-clause-trades : goal.returns-in_default-clause-trades
returns-in_default-clause-trades c =
    let may = may_swap c.args.cell c.args.filled c.args.worker.now c.scan_when_full.new.worker
    c.requires c.scan_when_full.ensures.same c.scan_when_full.ensures.few in
    let empty =
    swap_gives_none c.args.cell c.swap_cell.ensures.0 c.args.filled c.scan_when_full.new.worker
    c.swap_cell.new.self
    c.scan_when_full.ensures.same.known may c.swap_cell.ensures.1 (c.swap_cell.ensures.2.0
    c.in_default.is) in
    after_room (entry_names c.args.filled) c.args.worker.now c.scan_when_full.new.worker
    c.swap_cell.new.self c.requires.known c.scan_when_full.ensures.same empty

pub returns-in-Some-clause-sets : goal.returns-in-Some-clause-sets
returns-in-Some-clause-sets c =
    let may = may_swap c.args.cell c.args.filled c.args.worker.now c.scan_when_full.new.worker
    c.requires c.scan_when_full.ensures.same c.scan_when_full.ensures.few in
    let is = c.in-Some.ensures in
    let two =
    swap_gives c.args.cell is.0 c.in-Some.f.number c.in-Some.g.number c.args.filled
    c.scan_when_full.new.worker c.swap_cell.new.self c.scan_when_full.ensures.same.known may
    is.1 is.3.0 is.3.1 in
    let one =
    gives_back (entry_names c.args.filled) (c.in-Some.g.number ∷ []) c.in-Some.f.number
    c.scan_when_full.new.worker c.swap_cell.new.self
    c.down.new.self two c.down.ensures.constant c.down.ensures.step in
    let room : c.scan_when_full.new.worker.known.core.sizes ≡ c.args.worker.now.known.core.sizes =
    ap (λ (v : View). v.sizes) c.scan_when_full.ensures.same.core in
    let swapped : c.swap_cell.new.self.known.core.sizes ≡ c.args.worker.now.known.core.sizes =
    ap (λ (v : View). v.sizes) is.1.known.core ∙ room in
    let set = sets_after c.args.worker.now.known c.scan_when_full.new.worker.known
    c.swap_cell.new.self.known c.args.cell (word_of c.args.filled) room
    c.scan_when_full.ensures.cells
    (cell_sets c.scan_when_full.new.worker.known c.swap_cell.new.self.known c.args.cell is.0
    (word_of c.args.filled) c.scan_when_full.ensures.same.known may.there is.4) in
    let first =
    down_keeps c.in-Some.f.number c.swap_cell.new.self c.down.new.self is.1.known.known
    (came_held (entry_names c.args.filled) (c.in-Some.g.number ∷ []) c.in-Some.f.number
    c.scan_when_full.new.worker c.swap_cell.new.self two)
    c.down.ensures.constant c.down.ensures.step c.down.ensures.copies in
    let second =
    down_keeps c.in-Some.g.number c.down.new.self c.down-in-Some.new.self one.known
    (came_held (entry_names c.args.filled) [] c.in-Some.g.number c.scan_when_full.new.worker
    c.down.new.self one)
    c.down-in-Some.ensures.constant c.down-in-Some.ensures.step c.down-in-Some.ensures.copies in
    stays_set c.args.worker.now.known c.down.new.self.known c.down-in-Some.new.self.known
    c.args.cell (word_of c.args.filled) (first.1 ∙ swapped)
    (stays_set c.args.worker.now.known c.swap_cell.new.self.known c.down.new.self.known c.args.cell
    (word_of c.args.filled) swapped set first.0)
    second.0

pub returns-in_default-clause-sets : goal.returns-in_default-clause-sets
returns-in_default-clause-sets c =
    let may = may_swap c.args.cell c.args.filled c.args.worker.now c.scan_when_full.new.worker
    c.requires c.scan_when_full.ensures.same c.scan_when_full.ensures.few in
    let room : c.scan_when_full.new.worker.known.core.sizes ≡ c.args.worker.now.known.core.sizes =
    ap (λ (v : View). v.sizes) c.scan_when_full.ensures.same.core in
    sets_after c.args.worker.now.known c.scan_when_full.new.worker.known c.swap_cell.new.self.known
    c.args.cell (word_of c.args.filled) room c.scan_when_full.ensures.cells
    (cell_sets c.scan_when_full.new.worker.known c.swap_cell.new.self.known c.args.cell
    c.swap_cell.ensures.0 (word_of c.args.filled)
    c.scan_when_full.ensures.same.known may.there c.swap_cell.ensures.4)
