use Rattle.eqc_arena.proofs.References.{gives}
use Rattle.eqc_arena.proofs.nodes.give_back.Goals as goal

pub returns : goal.returns
returns c = gives c.args.f.number c.args.worker.now c.down.new.self c.recall_laws.ensures
    c.requires.held c.down.ensures.constant c.down.ensures.step
