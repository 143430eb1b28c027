use Rattle.eqc_rup.proofs.StoreLemmas.{put_at_seen}
use Rattle.eqc_rup.proofs.clauses.Clauses.put.Goals as goal

pub returns-in-Some-clause-ok : goal.returns-in-Some-clause-ok
returns-in-Some-clause-ok c =
    let found = rw c.as_slice.ensures.value at c.in-Some.ensures in
    put_at_seen (λ v. v.items) c.self.inside.clauses.items c.args.self.now c.in-Some.number
    c.in_ok-stored.stored c.args.clause.now c.self.view_is found.0 found.1
    c.in_ok-stored.ensures.items
