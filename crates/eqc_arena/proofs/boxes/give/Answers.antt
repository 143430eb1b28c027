use Rattle.eqc_cache.proofs.Cells.{down_keeps}
use Rattle.eqc_arena.proofs.References.{gives}
use Rattle.eqc_arena.proofs.boxes.give.Goals as goal

pub returns-clause-changes : goal.returns-clause-changes
returns-clause-changes c = gives c.args.f.number c.args.worker.now c.down.new.self
    c.recall_laws.ensures c.requires.held c.down.ensures.constant c.down.ensures.step

pub returns-clause-cells : goal.returns-clause-cells
returns-clause-cells c = (down_keeps c.args.f.number c.args.worker.now c.down.new.self
    c.recall_laws.ensures c.requires.held c.down.ensures.constant c.down.ensures.step
    c.down.ensures.copies).0
