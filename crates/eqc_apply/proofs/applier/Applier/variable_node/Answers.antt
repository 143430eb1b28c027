use Rattle.eqc_apply.proofs.Kept.{cells_stay}
use Rattle.eqc_apply.proofs.Answering.{extends_stays, stays_trans}
use Rattle.eqc_apply.proofs.applier.Applier.variable_node.Goals as goal

pub invariant_of-self : goal.invariant_of-self
invariant_of-self g c = record {
  cached = cells_stay c.make_way.new.self.names c.node.new.self
      c.make_way.new.self.cells.cells.items c.node.ensures.names c.make_way.new.self.cached;
}

pub invariant_of-self-then-self : goal.invariant_of-self-then-self
invariant_of-self-then-self g c =
    record {
      cached = cells_stay c.give_up.new.self.names c.node-in-Err-NodeLimit.new.self
          c.give_up.new.self.cells.cells.items c.node-in-Err-NodeLimit.ensures.names
          c.give_up.new.self.cached;
    }

pub returns-in-Err-NodeLimit-clause-names : goal.returns-in-Err-NodeLimit-clause-names
returns-in-Err-NodeLimit-clause-names g c =
    let n = c.args.self.now.names in
    let a = c.make_way.new.self.names in
    let b = c.node.new.self in
    let d = c.give_up.new.self.names in
    let e = c.node-in-Err-NodeLimit.new.self in
    let first = stays_trans n a b c.make_way.ensures.names (extends_stays a b c.node.ensures.names)
    in
    stays_trans n d e (stays_trans n b d first c.give_up.ensures.names)
    (extends_stays d e c.node-in-Err-NodeLimit.ensures.names)

pub returns-in_default-clause-names : goal.returns-in_default-clause-names
returns-in_default-clause-names g c =
    let a = c.make_way.new.self.names in
    stays_trans c.args.self.now.names a c.node.new.self c.make_way.ensures.names
    (extends_stays a c.node.new.self c.node.ensures.names)

pub returns-in_default-2 : goal.returns-in_default-2
returns-in_default-2 g c =
    let a = c.make_way.new.self.names in
    record {
      names = stays_trans c.args.self.now.names a c.node.new.self c.make_way.ensures.names
          (extends_stays a c.node.new.self c.node.ensures.names);
      ok = tt;
      all = c.in_default.ensures.all;
      only = c.in_default.ensures.only;
    }

pub returns-in_default-3-clause-names : goal.returns-in_default-3-clause-names
returns-in_default-3-clause-names g c =
    let a = c.make_way.new.self.names in
    stays_trans c.args.self.now.names a c.node.new.self c.make_way.ensures.names
    (extends_stays a c.node.new.self c.node.ensures.names)
