use Rattle.eqc_apply.proofs.Handing.{operands_held}
use Rattle.eqc_apply.proofs.boxes.own_result.Goals as goal

pub give_parcel-requires-2-clause-held : goal.give_parcel-requires-2-clause-held
give_parcel-requires-2-clause-held c = operands_held c.args.worker.now.known.core c.args.op
    c.args.filled c.requires.held
