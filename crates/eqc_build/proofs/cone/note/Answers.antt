use Rattle.std.proofs.Common.{refl, sym, ◌∙◌}
use Rattle.std.specs.BinaryHeap.{heap_items}
use Rattle.eqc_build.specs.Listed.{moment_in}
use Rattle.eqc_build.proofs.ConeLaws.{noted_now, noted_one}
use Rattle.eqc_build.proofs.cone.note.Goals as goal

pub returns-in_ok-push-clause-noted : goal.returns-in_ok-push-clause-noted
returns-in_ok-push-clause-noted c =
    noted_one c.args.step c.args.at (moment_in c.args.last.now) (heap_items c.args.heap.now)
    (moment_in c.insert.new.self)
    (heap_items c.push.new.self) c.requires.some (sym c.moment_in.ensures ∙ c.if-moment_in-eq0.true)
    (noted_now c.args.last.now c.insert.new.self c.args.step c.args.step c.args.at refl
    c.in_ok-insert.ensures.updates.0)
    c.in_ok-push.ensures.permutation
