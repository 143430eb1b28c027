use Rattle.std.proofs.Common.{arith}
use Rattle.eqc_arena.proofs.References.{counts_none, counted, trees_kept, read_kept}
use Rattle.eqc_arena.proofs.nodes.count.Goals as goal

pub returns-then-x-lt2-clause-counted : goal.returns-then-x-lt2-clause-counted
returns-then-x-lt2-clause-counted c = counts_none c.args.x c.args.worker.now c.recall_laws.ensures
    c.if-x-lt2.true

pub returns-clause-counted : goal.returns-clause-counted
returns-clause-counted c = counted c.args.x c.args.worker.now c.up.new.self c.up.result (let n =
    c.if-x-lt2.false in omega arith) c.up.ensures.step

pub returns-clause-trees : goal.returns-clause-trees
returns-clause-trees c = trees_kept c.args.x c.args.worker.now c.up.new.self c.up.result
    c.recall_laws.ensures c.up.ensures.step

pub returns-clause-read : goal.returns-clause-read
returns-clause-read c = read_kept c.args.x c.args.worker.now c.up.new.self c.up.result
    c.recall_laws.ensures c.up.ensures.step
