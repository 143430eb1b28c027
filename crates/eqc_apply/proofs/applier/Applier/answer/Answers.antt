use Rattle.eqc_apply.proofs.Answering.{answer_is, extends_stays, stays_trans}
use Rattle.eqc_apply.proofs.applier.Applier.answer.Goals as goal

pub returns-in-Err-NodeLimit-clause-names : goal.returns-in-Err-NodeLimit-clause-names
returns-in-Err-NodeLimit-clause-names g c =
    let first =
    stays_trans c.args.self.now.names c.make_way.new.self.names c.combine.new.self.names
    c.make_way.ensures.names
    (extends_stays c.make_way.new.self.names c.combine.new.self.names c.combine.ensures.names) in
    let second = stays_trans c.args.self.now.names c.combine.new.self.names c.give_up.new.self.names
    first c.give_up.ensures.names in
    stays_trans c.args.self.now.names c.give_up.new.self.names
    c.combine-in-Err-NodeLimit.new.self.names second
    (extends_stays c.give_up.new.self.names c.combine-in-Err-NodeLimit.new.self.names
    c.combine-in-Err-NodeLimit.ensures.names)

pub returns-in-Err-NodeLimit-clause-ok : goal.returns-in-Err-NodeLimit-clause-ok
returns-in-Err-NodeLimit-clause-ok g c =
    let first =
    stays_trans c.args.self.now.names c.make_way.new.self.names c.combine.new.self.names
    c.make_way.ensures.names
    (extends_stays c.make_way.new.self.names c.combine.new.self.names c.combine.ensures.names) in
    let second = stays_trans c.args.self.now.names c.combine.new.self.names c.give_up.new.self.names
    first c.give_up.ensures.names in
    answer_is c.args.op c.args.self.now.names c.give_up.new.self.names
    c.combine-in-Err-NodeLimit.new.self.names c.args.f c.args.g
    c.combine-in-Err-NodeLimit.result second c.combine-in-Err-NodeLimit.ensures.names c.requires.f
    c.requires.g
    c.combine-in-Err-NodeLimit.ensures.ok

pub returns-in_default-clause-names : goal.returns-in_default-clause-names
returns-in_default-clause-names g c =
    let a = c.make_way.new.self.names in
    stays_trans c.args.self.now.names a c.combine.new.self.names c.make_way.ensures.names
    (extends_stays a c.combine.new.self.names c.combine.ensures.names)

pub returns-in_default-2-clause-names : goal.returns-in_default-2-clause-names
returns-in_default-2-clause-names g c =
    let a = c.make_way.new.self.names in
    stays_trans c.args.self.now.names a c.combine.new.self.names c.make_way.ensures.names
    (extends_stays a c.combine.new.self.names c.combine.ensures.names)

pub returns-in_default-3-clause-names : goal.returns-in_default-3-clause-names
returns-in_default-3-clause-names g c =
    let a = c.make_way.new.self.names in
    stays_trans c.args.self.now.names a c.combine.new.self.names c.make_way.ensures.names
    (extends_stays a c.combine.new.self.names c.combine.ensures.names)

pub returns-in_default-4-clause-names : goal.returns-in_default-4-clause-names
returns-in_default-4-clause-names g c =
    let a = c.make_way.new.self.names in
    stays_trans c.args.self.now.names a c.combine.new.self.names c.make_way.ensures.names
    (extends_stays a c.combine.new.self.names c.combine.ensures.names)

pub returns-in_default-4-clause-ok : goal.returns-in_default-4-clause-ok
returns-in_default-4-clause-ok g c =
    let a = c.make_way.new.self.names in
    answer_is c.args.op c.args.self.now.names a c.combine.new.self.names c.args.f c.args.g
    c.combine.result
    c.make_way.ensures.names c.combine.ensures.names c.requires.f c.requires.g c.combine.ensures.ok
