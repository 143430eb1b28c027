use Rattle.std.proofs.Common.{arith}
use Rattle.eqc_tree.specs.declared.operation.Op.TheVariants.{Or}
use Rattle.eqc_plain.proofs.Deciding.{two_nodes}
use Rattle.eqc_plain.proofs.terminal.decide_or.Goals as goal

pub returns-clause-undecided : goal.returns-clause-undecided
returns-clause-undecided c x d = two_nodes Or c.args.f c.args.g x (omega arith) (omega arith)
    c.if-f-g.false d
