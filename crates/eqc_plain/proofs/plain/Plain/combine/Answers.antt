use Rattle.std.proofs.Common.{ℕ, subst}
use Rattle.eqc_plain.specs.Meaning.{meaning_of}
use Rattle.eqc_plain.specs.Tasks.{Leads}
use Rattle.eqc_plain.proofs.Extending.{extends_trans}
use Rattle.eqc_plain.proofs.Spending.{spends_then, spends_trans}
use Rattle.eqc_plain.proofs.Tasks.{turn_less}
use Rattle.eqc_plain.proofs.plain.Plain.combine.Goals as goal

pub turns-smaller : goal.turns-smaller
turns-smaller c =
    let s = c.turns.self in
    let n = c.resume.new.self in
    let t = rw c.in-Next.is at c.in_ok-x.ensures.turn in
    turn_less (meaning_of s.store.variables s.store.nodes) (meaning_of n.store.variables
    n.store.nodes) c.args.op s.tasks.items n.tasks.items _ _
    c.turns.next.0 c.turns.next.1 c.in-Next.f c.in-Next.g c.in_ok-x.ensures.store.variables t

pub returns-in_err-x-clause-store : goal.returns-in_err-x-clause-store
returns-in_err-x-clause-store c = extends_trans c.args.self.now.store c.turns.self.store
    c.resume.new.self.store c.turns.invariant.store c.resume.ensures.store

pub returns-in-Done-clause-store : goal.returns-in-Done-clause-store
returns-in-Done-clause-store c = extends_trans c.args.self.now.store c.turns.self.store
    c.resume.new.self.store c.turns.invariant.store c.resume.ensures.store

pub turns-preserved : goal.turns-preserved
turns-preserved c =
    let n = c.resume.new.self in
    let t = rw c.in-Next.is at c.in_ok-x.ensures.turn in
    let x = extends_trans c.args.self.now.store c.turns.self.store n.store c.turns.invariant.store
    c.resume.ensures.store in
    record {
      store = record { grows = x.grows; keeps = x.keeps; variables = x.variables; limit = x.limit };
      leads = subst (λ (p : ℕ × ℕ). Leads (meaning_of n.store.variables n.store.nodes) c.args.op
          n.tasks.items p.0 p.1 c.in-Next.f c.in-Next.g) c.of-whole.ensures t.leads;
      first = t.first;
      second = t.second;
      turns = spends_then (spends_trans c.turns.invariant.turns c.count_turn.ensures.spends)
          c.resume.ensures.turns;
    }

pub turns-preserved-in_default-known : goal.turns-preserved-in_default-known
turns-preserved-in_default-known c =
    let d = c.descend-in_default-known.ensures in
    let s = c.in_ok-next-2.ensures.steps in
    record {
      store = rw d.store c.turns.invariant.store;
      leads = s.leads c.args.op c.args.f c.args.g c.turns.invariant.leads;
      first = s.first;
      second = s.second;
      turns = spends_then (spends_trans c.turns.invariant.turns c.count_turn.ensures.spends)
          d.turns;
    }

pub returns-in_err-next-2-clause-turns : goal.returns-in_err-next-2-clause-turns
returns-in_err-next-2-clause-turns c =
    spends_then (spends_trans c.turns.invariant.turns c.count_turn.ensures.spends)
    c.descend-in_default-known.ensures.turns

pub returns-in_err-x-clause-turns : goal.returns-in_err-x-clause-turns
returns-in_err-x-clause-turns c =
    spends_then (spends_trans c.turns.invariant.turns c.count_turn.ensures.spends)
    c.resume.ensures.turns

pub returns-in-Done-clause-turns : goal.returns-in-Done-clause-turns
returns-in-Done-clause-turns c =
    spends_then (spends_trans c.turns.invariant.turns c.count_turn.ensures.spends)
    c.resume.ensures.turns
