use Rattle.eqc_arena.proofs.Taking.{may_clear, quiet_cleared, cleared}
use Rattle.eqc_arena.proofs.sweeping.empty_cells.Goals as goal

pub clear-requires-clause-may : goal.clear-requires-clause-may
clear-requires-clause-may c = may_clear c.args.worker.now.known c.recall_laws.ensures
    c.requires.rest c.requires.cells

pub scan-requires-clause-may : goal.scan-requires-clause-may
scan-requires-clause-may c = quiet_cleared c.args.worker.now c.clear.new.worker c.requires.rest
    c.clear.ensures.before

pub returns : goal.returns
returns c = record {
  changes = cleared c.args.worker.now c.clear.new.worker c.scan.new.self
      c.requires.rest c.clear.ensures.before c.scan.ensures;
}
