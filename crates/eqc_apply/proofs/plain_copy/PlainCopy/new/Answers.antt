use Rattle.std.proofs.Common.{◌≡◌, ℕ, ◌+◌, None, replicate, refl, ap, rules}
use Rattle.eqc_apply.proofs.Copying.{new_variables, begins}
use Rattle.eqc_apply.proofs.plain_copy.PlainCopy.new.Goals as goal

pub returns-clause-faithful : goal.returns-clause-faithful
returns-clause-faithful c =
    let s = c.in_ok-store.store in
    let blank : c.in-Ok.places.items ≡ replicate (c.slots-slots.result + 2) None = search rules in
    begins c.args.names.now _ (c.slots-slots.result + 2) (new_variables c.args.names.now.variables s
    c.in_ok-store.ensures.empty)
    c.in_ok-store.ensures.nodes c.slots-slots.ensures (ap (λ (k : ℕ). k + 2)
    c.in_ok-store.ensures.limit) (rw blank refl)
