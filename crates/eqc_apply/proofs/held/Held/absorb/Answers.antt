use Rattle.eqc_apply.proofs.Absorbing.{few_both, names_join, names_take}
use Rattle.eqc_apply.proofs.held.Held.absorb.Goals as goal

pub take_in-requires-clause-few : goal.take_in-requires-clause-few
take_in-requires-clause-few c = few_both c.args.self.now c.args.other c.give_up.new.self
    c.give_up-2.new.self c.give_up.ensures.stays c.give_up-2.ensures.stays c.requires.few

pub invariant_of-self : goal.invariant_of-self
invariant_of-self c = record {
  once = c.take_in.ensures.has c.give_up.new.self.variables
      c.give_up.new.self.once;
}

pub returns-clause-joins : goal.returns-clause-joins
returns-clause-joins c =
    names_join c.args.self.now c.args.other c.give_up.new.self c.give_up-2.new.self
    c.give_up.ensures.stays c.give_up-2.ensures.stays
    c.take_in.new.worker c.take_in.new.counts.items c.take_in.ensures.taken

pub returns-clause-takes : goal.returns-clause-takes
returns-clause-takes c =
    names_take c.args.self.now c.args.other c.give_up.new.self c.give_up-2.new.self
    c.give_up.ensures.stays c.give_up-2.ensures.stays
    c.take_in.new.worker c.take_in.new.counts.items c.take_in.ensures.taken
