use Rattle.std.proofs.Common.{ap}
use Rattle.eqc_core.specs.View.{View}
use Rattle.eqc_guard.specs.Sharing.{parcel_names, parcel_word}
use Rattle.eqc_guard.proofs.Copying.{box_sets, box_set_stays}
use Rattle.eqc_arena.specs.Changing.{Exchanges}
use Rattle.eqc_arena.proofs.Unboxing.{swaps, put_held, comes_held, came_went}
use Rattle.eqc_arena.proofs.boxes.put.Goals as goal

pub give_parcel-requires-clause-held : goal.give_parcel-requires-clause-held
give_parcel-requires-clause-held c =
    let got = c.swap_box-came in
    comes_held got.result
    (swaps got.result c.args.parcel c.args.worker.now got.new.self got.ensures.whole.1
    got.ensures.whole.0 (put_held c.args.worker.now.known c.args.b c.args.parcel c.requires)
    got.ensures.step)

pub returns-clause-changes : goal.returns-clause-changes
returns-clause-changes c =
    let got = c.swap_box-came in
    came_went
    (swaps got.result c.args.parcel c.args.worker.now got.new.self got.ensures.whole.1
    got.ensures.whole.0 (put_held c.args.worker.now.known c.args.b c.args.parcel c.requires)
    got.ensures.step)
    c.give_parcel.ensures.changes

pub returns-clause-sets : goal.returns-clause-sets
returns-clause-sets c =
    let got = c.swap_box-came in
    box_set_stays c.args.worker.now.known got.new.self.known c.give_parcel.new.worker.known c.args.b
    (parcel_word c.args.parcel) (ap (λ (v : View). v.sizes) got.ensures.step.known.core)
    (box_sets c.args.worker.now.known got.new.self.known c.args.b (parcel_word got.result)
    (parcel_word c.args.parcel) c.recall_laws.ensures c.requires.there got.ensures.copies)
    c.give_parcel.ensures.cells
