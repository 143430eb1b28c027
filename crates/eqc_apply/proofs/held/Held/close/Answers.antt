use Rattle.std.proofs.Common.{ℕ, subst, arith}
use Rattle.eqc_apply.specs.Closing.{IsTold}
use Rattle.eqc_apply.proofs.Once.{few_held}
use Rattle.eqc_apply.proofs.Emptied.{alone_stays, left_nothing}
use Rattle.eqc_apply.proofs.Telling.{told_at_end, none_held}
use Rattle.eqc_apply.proofs.held.Held.close.Goals as goal

pub finish-requires-clause-alone : goal.finish-requires-clause-alone
finish-requires-clause-alone g c = alone_stays c.args.self.worker.known.core
    c.give_up.new.self.worker.known.core c.give_up.ensures.stays.seat.number
    c.give_up.ensures.stays.seat.out c.requires

pub finish-requires-clause-room : goal.finish-requires-clause-room
finish-requires-clause-room g c =
    omega (arith, few_held c.give_up.new.self.once c.recall_laws.ensures)

pub returns : goal.returns
returns g c =
    let told : IsTold c.finish.result.counted c.args.self =
    told_at_end c.args.self c.give_up.new.self c.give_up.ensures.stays c.recall_laws.ensures
    c.give_up.ensures.none c.finish.result.counted c.finish.ensures.left in
    record {
      told = told;
      some = λ zero. none_held c.args.self (subst (λ (m : ℕ). IsTold m c.args.self) zero told);
      none = λ none. c.finish.ensures.none (left_nothing c.args.self c.give_up.new.self
          c.give_up.ensures.stays c.recall_laws.ensures c.give_up.ensures.none none);
    }
