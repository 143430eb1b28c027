use Rattle.std.proofs.Common.{ℕ, subst}
use Rattle.eqc_plain.specs.Tasks.{Leads}
use Rattle.eqc_apply.specs.Extending.{Extends}
use Rattle.eqc_apply.specs.Meaning.{meaning_in}
use Rattle.eqc_apply.proofs.Meanings.{extends_trans, taken}
use Rattle.eqc_apply.proofs.applier.Applier.go.Goals as goal

pub returns-in_err-count_turn-clause-names : goal.returns-in_err-count_turn-clause-names
returns-in_err-count_turn-clause-names g c =
    let x = taken c.args.self.now.names c.turns.self.names c.count_turn.new.turns
    c.turns.invariant.names c.count_turn.ensures.spends in
    record {
      forest = x.forest;
      seat = x.seat;
      variables = x.variables;
      references = x.references;
      before = x.before;
      turns = x.turns;
    }

pub returns-in_err-x-clause-names : goal.returns-in_err-x-clause-names
returns-in_err-x-clause-names g c =
    let n = c.args.self.now.names in
    let t = c.count_turn.new.turns in
    let m = record c.turns.self.names { turns = t } in
    let e = c.turn.ensures.names in
    let turned : Extends m c.turn.new.self.names = record {
      forest = e.forest;
      seat = e.seat;
      variables = e.variables;
      references = e.references;
      before = e.before;
      turns = e.turns;
    } in
    extends_trans n m c.turn.new.self.names (taken n c.turns.self.names t c.turns.invariant.names
    c.count_turn.ensures.spends) turned

pub returns-in-Done-clause-names : goal.returns-in-Done-clause-names
returns-in-Done-clause-names g c =
    let n = c.args.self.now.names in
    let t = c.count_turn.new.turns in
    let m = record c.turns.self.names { turns = t } in
    let e = c.turn.ensures.names in
    let turned : Extends m c.turn.new.self.names = record {
      forest = e.forest;
      seat = e.seat;
      variables = e.variables;
      references = e.references;
      before = e.before;
      turns = e.turns;
    } in
    extends_trans n m c.turn.new.self.names (taken n c.turns.self.names t c.turns.invariant.names
    c.count_turn.ensures.spends) turned

pub turns-preserved : goal.turns-preserved
turns-preserved g c =
    let n = c.turn.new.self in
    let next = rw c.in-Next.is at c.in_ok-x.ensures.turn in
    let t = c.count_turn.new.turns in
    let m = record c.turns.self.names { turns = t } in
    let e = c.turn.ensures.names in
    let turned : Extends m n.names = record {
      forest = e.forest;
      seat = e.seat;
      variables =
          e.variables;
      references = e.references;
      before = e.before;
      turns = e.turns;
    } in
    let x = extends_trans c.args.self.now.names m n.names (taken c.args.self.now.names
    c.turns.self.names t c.turns.invariant.names c.count_turn.ensures.spends) turned in
    record {
      names = record {
        forest = x.forest;
        seat = x.seat;
        variables = x.variables;
        references =
            x.references;
        before = x.before;
        turns = x.turns;
      };
      leads = subst (λ (p : ℕ × ℕ). Leads (meaning_in n.names) c.args.op n.tasks.items p.0 p.1
          c.in-Next.f c.in-Next.g) c.of-whole.ensures next.leads;
      first = next.first;
      second = next.second;
    }
