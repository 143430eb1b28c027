use Rattle.std.proofs.Common.{[], refl, arith}
use Rattle.eqc_apply.proofs.Once.{few_held, has_after, changes_before, seat_of}
use Rattle.eqc_plain.proofs.Spending.{spends_refl}
use Rattle.eqc_apply.proofs.held.Held.withdraw.Goals as goal

pub empty-requires-clause-few : goal.empty-requires-clause-few
empty-requires-clause-few c = let f = few_held c.args.self.now.once c.recall_laws.ensures in
    omega arith

pub returns-in-Some-clause-names : goal.returns-in-Some-clause-names
returns-in-Some-clause-names c =
    let t = c.empty.ensures.changes in
    record {
      forest = t.forest;
      seat = seat_of t;
      variables = refl;
      references = λ y. refl;
      before =
          changes_before t;
      turns = spends_refl c.args.self.now.turns;
    }

pub invariant_of-self : goal.invariant_of-self
invariant_of-self c = record {
  once = has_after c.empty.ensures.changes [] []
      c.args.self.now.variables c.args.self.now.counts.items (λ y. omega arith) c.args.self.now.once;
}
