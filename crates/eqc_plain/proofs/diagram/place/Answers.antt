use Rattle.std.proofs.Common.{◌≡◌, ◌<◌, ℕ, Option, length, get_or, subst}
use Rattle.std.specs.Prelude.{IfSome}
use Rattle.eqc_plain.proofs.Slots.{stands_at}
use Rattle.eqc_plain.proofs.diagram.place.Goals as goal

pub returns-clause-at : goal.returns-clause-at
returns-clause-at c =
    let xs = c.args.reached.now.keys in
    let P : Option ℕ → Type 0 = λ o. IfSome o (λ k. (k < length xs) × (get_or xs k 0 ≡ c.args.x)) in
    let p = subst P c.in-Some.is (stands_at c.get_index_of.result c.args.x xs
    c.get_index_of.ensures.index) in
    p.1
