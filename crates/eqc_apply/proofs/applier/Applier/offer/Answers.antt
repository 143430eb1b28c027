use Rattle.eqc_apply.proofs.Meanings.{extends_trans}
use Rattle.eqc_apply.proofs.Kept.{cells_stay}
use Rattle.eqc_apply.proofs.applier.Applier.offer.Goals as goal

pub invariant_of-self-then-not-offer : goal.invariant_of-self-then-not-offer
invariant_of-self-then-not-offer c =
    record {
      cached = cells_stay c.known.new.self.names c.offer.new.self
          c.known.new.self.cells.cells.items c.offer.ensures c.known.new.self.cached;
    }

pub invariant_of-self-else-not-offer : goal.invariant_of-self-else-not-offer
invariant_of-self-else-not-offer c =
    record {
      cached = cells_stay c.known.new.self.names c.offer.new.self
          c.known.new.self.cells.cells.items c.offer.ensures c.known.new.self.cached;
    }

pub returns-then-is_err-clause-names : goal.returns-then-is_err-clause-names
returns-then-is_err-clause-names c = extends_trans c.args.self.now.names
    c.withdraw_late.new.self.names c.known.new.self.names c.withdraw_late.ensures.names
    c.known.ensures.names

pub returns-then-is_some-clause-names : goal.returns-then-is_some-clause-names
returns-then-is_some-clause-names c = extends_trans c.args.self.now.names
    c.withdraw_late.new.self.names c.known.new.self.names c.withdraw_late.ensures.names
    c.known.ensures.names

pub returns-then-not-offer-clause-names : goal.returns-then-not-offer-clause-names
returns-then-not-offer-clause-names c =
    let n = c.args.self.now.names in
    extends_trans n c.known.new.self.names c.offer.new.self
    (extends_trans n c.withdraw_late.new.self.names c.known.new.self.names
    c.withdraw_late.ensures.names c.known.ensures.names) c.offer.ensures

pub returns-else-not-offer-clause-names : goal.returns-else-not-offer-clause-names
returns-else-not-offer-clause-names c =
    let n = c.args.self.now.names in
    extends_trans n c.known.new.self.names c.offer.new.self
    (extends_trans n c.withdraw_late.new.self.names c.known.new.self.names
    c.withdraw_late.ensures.names c.known.ensures.names) c.offer.ensures
