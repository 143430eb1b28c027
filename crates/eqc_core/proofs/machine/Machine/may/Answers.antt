use Rattle.std.proofs.Common.{ap, ◌∙◌}
use mathlib.Core.Option.{some}
use Rattle.eqc_core.proofs.Stored.{turn_there, turn_view}
use Rattle.eqc_core.proofs.machine.Machine.may.Goals as goal

pub worker_may-requires-clause-stands : goal.worker_may-requires-clause-stands
worker_may-requires-clause-stands c =
    let m = c.args.self.now in (
      c.args.id,
      turn_there m c.args.id c.requires
          ∙ ap some (turn_view m c.args.id c.index.result.now c.requires c.index.ensures),
    )
