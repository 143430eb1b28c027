use Rattle.std.proofs.Common.{subst}
use Rattle.eqc_report.specs.declared.report.Report.TheVariants.{Stopped}
use Rattle.eqc_case.specs.Left.{IsLeftBeside}
use Rattle.eqc_check.proofs.running.tell_left.Goals as goal

pub undecided-requires : goal.undecided-requires
undecided-requires g c =
    subst (λ case. IsLeftBeside case (Stopped c.args.stop) c.args.reported.now.left) c.in-Some.is
    c.requires
