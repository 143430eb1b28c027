use Rattle.eqc_apply.proofs.Handing.{noted_met, met_stays}
use Rattle.eqc_apply.proofs.boxes.own_stop.Goals as goal

pub returns-then-own-clause-stop : goal.returns-then-own-clause-stop
returns-then-own-clause-stop c =
    met_stays c.args.stop c.args.worker.now.known.core c.give_parcel.new.worker.known.core
    c.give_parcel.ensures.marks
    (noted_met c.args.stop c.args.first c.args.second c.args.worker.now.known.core c.requires.other
    c.requires.noted)
