use Rattle.std.proofs.Common.{arith, inl, inr}
use Rattle.eqc_plain.proofs.Laws.{weight_le}
use Rattle.eqc_apply.specs.Referring.{entry_of}
use Rattle.eqc_plain.proofs.Spending.{spends_trans, spent_stays}
use Rattle.eqc_apply.proofs.diagrams.ApplierDiagrams.ite.Goals as goal

pub returns-in-Err-clause-nodes : goal.returns-in-Err-clause-nodes
returns-in-Err-clause-nodes g c e =
    elim (c.in-Err.ensures.nodes e) [
      | inl full ↦ inl (rw c.give_back.ensures.still full)
      | inr spent ↦ inr (spent_stays c.apply-2.new.self.names.turns c.give_back.new.self.names.turns
          c.give_back.ensures.turns spent)
    ]

pub returns-in-Err-clause-references : goal.returns-in-Err-clause-references
returns-in-Err-clause-references g c e =
    elim (c.in-Err.ensures.references e) [
      | inl taken ↦ inl (rw c.give_back.ensures.still taken)
      | inr x ↦ inr (
        x.0,
        omega (
          arith,
          x.1,
          c.in_ok-both.ensures.ok.held x.0,
          weight_le (entry_of c.in_ok-both.both) x.0,
        ),
      )
    ]

pub returns-clause-nodes : goal.returns-clause-nodes
returns-clause-nodes g c e =
    elim (c.apply-either.ensures.nodes e) [
      | inl full ↦ inl (rw (c.give_back-3.ensures.still, c.give_back-2.ensures.still) full)
      | inr spent ↦ inr (spent_stays c.apply-either.new.self.names.turns
          c.give_back-3.new.self.names.turns (spends_trans c.give_back-2.ensures.turns
          c.give_back-3.ensures.turns) spent)
    ]

pub returns-clause-references : goal.returns-clause-references
returns-clause-references g c e =
    elim (c.apply-either.ensures.references e) [
      | inl taken ↦ inl (rw (c.give_back-3.ensures.still, c.give_back-2.ensures.still) taken)
      | inr x ↦ inr (
        x.0,
        omega (
          arith,
          x.1,
          c.in_ok-both.ensures.ok.held x.0,
          c.in-Ok.ensures.ok.held x.0,
          weight_le (entry_of c.in_ok-both.both) x.0,
          weight_le (entry_of c.in-Ok.other) x.0,
        ),
      )
    ]

pub returns-in-Err-clause-turns : goal.returns-in-Err-clause-turns
returns-in-Err-clause-turns g c = spends_trans c.apply.ensures.turns
    (spends_trans c.apply-2.ensures.turns c.give_back.ensures.turns)

pub returns-clause-turns : goal.returns-clause-turns
returns-clause-turns g c =
    let made = spends_trans c.apply.ensures.turns (spends_trans c.apply-2.ensures.turns
    c.apply-either.ensures.turns) in
    spends_trans made (spends_trans c.give_back-2.ensures.turns c.give_back-3.ensures.turns)
