use Rattle.std.proofs.Common.{arith}
use Rattle.eqc_apply.proofs.Once.{few_held}
use Rattle.eqc_apply.proofs.Absorbing.{absorbed_has, has_taken_in}
use Rattle.eqc_apply.proofs.joining.take_in.Goals as goal

pub absorb-requires-clause-room : goal.absorb-requires-clause-room
absorb-requires-clause-room c = omega (
  arith,
  few_held c.requires.mine.1 c.recall_laws.ensures,
  few_held c.requires.theirs.1 c.recall_laws-2.ensures,
)

pub merge-requires-clause-has : goal.merge-requires-clause-has
merge-requires-clause-has c = (
  c.requires.mine.0,
  absorbed_has c.requires.mine.0 c.requires.theirs.0 c.args.counts.now.items c.args.more.items
      c.args.worker.now c.args.other
      c.absorb.new.self c.requires.mine.1 c.requires.theirs.1 c.absorb.ensures,
)

pub returns-clause-has : goal.returns-clause-has
returns-clause-has c =
    λ n h. c.merge.ensures.has n (absorbed_has n c.requires.theirs.0 c.args.counts.now.items
    c.args.more.items c.args.worker.now c.args.other c.absorb.new.self h c.requires.theirs.1
    c.absorb.ensures)

pub returns-clause-taken : goal.returns-clause-taken
returns-clause-taken c =
    has_taken_in c.requires.mine.0 c.requires.theirs.0 c.args.counts.now.items c.args.more.items
    c.args.worker.now c.args.other c.absorb.new.self
    c.requires.mine.1 c.requires.theirs.1 c.absorb.ensures c.merge.new.worker
    c.merge.new.counts.items c.merge.ensures.merged
