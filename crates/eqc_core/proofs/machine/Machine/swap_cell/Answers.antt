use Rattle.std.proofs.Common.{arith, set, ap, refl, ◌∙◌}
use Rattle.std.proofs.lemmas.List.{get_or_read}
use Rattle.eqc_core.specs.View.{view_at}
use Rattle.eqc_core.specs.Machine.{state_of}
use Rattle.eqc_core.specs.Caching.{swapped}
use Rattle.eqc_core.proofs.Stored.{turned, stepped, cell_there, phases_there}
use Rattle.eqc_core.proofs.machine.Machine.swap_cell.Goals as goal

pub index-old-requires : goal.index-old-requires
index-old-requires c = let h = cell_there c.args.self.now c.args.id c.args.c c.requires.turn
    c.requires.may.1 in omega arith

pub swap_cell-requires : goal.swap_cell-requires
swap_cell-requires c =
    let h = phases_there c.args.self.now c.args.id c.index_mut-worker.result.now c.requires.turn
    c.index_mut-worker.ensures.value in
    let some_words = c.requires.turn.kept.lawful.sized.some_announcements in
    omega arith

pub returns : goal.returns
returns c =
    let m = c.args.self.now in
    let vs = (state_of m).views in
    let t =
    turned m.sizes m.workers.items c.args.id c.index_mut-worker.result.now c.swap_cell.new.self
    (λ v. swapped v c.index-old.result.now c.args.word) c.requires.turn.there
    c.index_mut-worker.ensures.value c.requires.turn.active
    c.in_ok-swap_cell.ensures in
    let old = get_or_read m.cells.items c.args.c c.index-old.result.now (cell_there m c.args.id
    c.args.c c.requires.turn c.requires.may.1) c.index-old.ensures 0 in
    stepped (state_of m) _ _ _ _ refl (t
    ∙ ap (λ n. set vs c.args.id (swapped (view_at vs c.args.id) n c.args.word)) old)
