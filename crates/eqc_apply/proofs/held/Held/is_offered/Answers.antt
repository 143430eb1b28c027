use Rattle.std.proofs.Common.{refl}
use Rattle.eqc_apply.proofs.Once.{changes_before, seat_of}
use Rattle.eqc_apply.proofs.Handing.{looked}
use Rattle.eqc_plain.proofs.Spending.{spends_refl}
use Rattle.eqc_apply.proofs.held.Held.is_offered.Goals as goal

pub returns : goal.returns
returns c =
    let t = looked c.args.self.now.worker c.look_box-word.new.self c.look_box-word.ensures.step in
    record {
      forest = t.forest;
      seat = seat_of t;
      variables = refl;
      references = λ y. refl;
      before =
          changes_before t;
      turns = spends_refl c.args.self.now.turns;
    }
