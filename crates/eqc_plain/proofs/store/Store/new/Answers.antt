use Rattle.std.proofs.Common.{◌≡◌, [], replicate, rules}
use Rattle.eqc_plain.proofs.Laws.{new_holding}
use Rattle.eqc_plain.proofs.store.Store.new.Goals as goal

pub returns-clause-empty : goal.returns-clause-empty
returns-clause-empty c =
    let b : c.new.result ≡ [] = search rules in
    let e : c.in_ok-counts.counts.items ≡ replicate 2 0 = search rules in
    rw e (new_holding c.args.variables 2 c.new.result)
