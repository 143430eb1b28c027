use Rattle.std.proofs.Common.{arith}
use Rattle.eqc_cover.proofs.SplitLaws.{implied}
use Rattle.eqc_cover.proofs.split.implies.Goals as goal

pub returns : goal.returns
returns c = implied c.args.table c.args.other (omega arith)
