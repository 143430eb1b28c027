use Rattle.std.proofs.Common.{arith}
use Rattle.eqc_rup.proofs.ClauseLemmas.{given_up_sound}
use Rattle.eqc_rup.proofs.StoreLemmas.{give_up_at_seen}
use Rattle.eqc_rup.proofs.clauses.Clauses.give_up.Goals as goal

pub returns-then-not-is_empty-clause-gone : goal.returns-then-not-is_empty-clause-gone
returns-then-not-is_empty-clause-gone c =
    give_up_at_seen (λ v. v.items) c.self.inside.clauses.items c.args.self.now c.args.number
    c.new.result c.self.view_is (omega arith) c.new.ensures.items

pub returns-then-not-is_empty-clause-sound : goal.returns-then-not-is_empty-clause-sound
returns-then-not-is_empty-clause-sound c = λ nodes.
    given_up_sound nodes c.args.self.now _ c.args.number
    (give_up_at_seen (λ v. v.items) c.self.inside.clauses.items c.args.self.now c.args.number
    c.new.result c.self.view_is (omega arith) c.new.ensures.items)
