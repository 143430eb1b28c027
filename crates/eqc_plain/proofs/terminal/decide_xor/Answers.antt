use Rattle.std.proofs.Common.{arith}
use Rattle.eqc_plain.proofs.Deciding.{xor_undecided}
use Rattle.eqc_plain.proofs.terminal.decide_xor.Goals as goal

pub returns-clause-undecided : goal.returns-clause-undecided
returns-clause-undecided c x d = xor_undecided c.args.f c.args.g x c.if-f-g.false (omega arith)
    (omega arith) d
