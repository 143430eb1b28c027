use Rattle.std.proofs.Common.{arith}
use Rattle.eqc_plain.proofs.Deciding.{and_not_undecided}
use Rattle.eqc_plain.proofs.terminal.decide_and_not.Goals as goal

pub returns-clause-undecided : goal.returns-clause-undecided
returns-clause-undecided c x d = and_not_undecided c.args.f c.args.g x c.if-f-g.false (omega arith)
    (omega arith) d
