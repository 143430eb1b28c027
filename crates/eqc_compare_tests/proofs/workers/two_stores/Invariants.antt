use Rattle.std.proofs.Common.{◌≡◌, ◌≤◌, All, vec_len}
use Rattle.eqc_plain.specs.Extending.{holding_in}
use Rattle.eqc_compare_tests.proofs.workers.two_stores.Given as goal

abbrev pub invariant-loop : goal.invariant-loop
invariant-loop l = (vec_len l.all ≡ l.counter)
    × All (λ p. l.fn.inputs ≤ (holding_in p.store).variables) l.all.items
