use Rattle.std.proofs.Common.{refl}
use Rattle.eqc_guard.specs.Splitting.{IsCopied}
use Rattle.eqc_guard.proofs.Closing.{tallies}
use Rattle.eqc_guard.proofs.worker.Worker.close.Goals as goal

pub returns-clause-closed : goal.returns-clause-closed
returns-clause-closed c =
    let copied : IsCopied c.args.self c.alone.new.self = c.if-not-alone.ensures.copy refl in (
      c.if-not-alone.ensures.answer.0 refl,
      c.if-not-is_silent.ensures.0 refl,
      tallies c.args.self c.alone.new.self c.tally-counted.result copied copied.step.known.known
          c.tally-counted.ensures,
    )
