use Rattle.std.proofs.Common.{subst}
use Rattle.eqc_report.specs.Left.{IsTold}
use Rattle.eqc_engine.proofs.course.decide_pair.Goals as goal

pub returns-in-Err-clause-left : goal.returns-in-Err-clause-left
returns-in-Err-clause-left g c =
    subst (λ m. IsTold c.args.comparison.now.pair.now m c.take_unmarked.new.self.left)
    c.deref.ensures.value c.take_unmarked.ensures.left
