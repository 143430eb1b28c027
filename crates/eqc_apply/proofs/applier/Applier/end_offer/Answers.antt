use Rattle.eqc_apply.proofs.applier.Applier.end_offer.Goals as goal

pub invariant_of-self : goal.invariant_of-self
invariant_of-self c = record { cached = c.args.self.now.cached }
