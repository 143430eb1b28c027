use Rattle.std.proofs.Common.{◌≡◌, ◌<◌, ◌+◌, length, get_or, arith, subst}
use Rattle.std.proofs.lemmas.List.Sorted.{IsNonDecreasingBy-from_sort}
use Rattle.std.proofs.lemmas.Map.Steps.{length-le_from_distinct_below}
use Rattle.eqc_plain.proofs.Slots.{has_place}
use Rattle.eqc_plain.proofs.Copying.{AreFollowed, sorted_reached}
use Rattle.eqc_plain.proofs.store.Store.reached.Goals as goal

pub reach_children-requires : goal.reach_children-requires
reach_children-requires c =
    let xs = c.places.reached.keys in
    let less : c.places.k < length xs = omega (arith, c.places-test.true, c.len.ensures.len) in
    rw c.as_slice.ensures.keys (c.places.invariant.within (get_or xs c.places.k 0)
    (has_place xs c.places.k less))

pub places-smaller : goal.places-smaller
places-smaller c =
    let xs = c.places.reached.keys in
    let few = length-le_from_distinct_below xs (length c.args.self.now.nodes + 2)
    c.len.ensures.unique c.places.invariant.within in
    let less : c.places.k < length xs = omega (arith, c.places-test.true, c.len.ensures.len) in
    omega (arith, few, less)

pub returns-clause-reached : goal.returns-clause-reached
returns-clause-reached c =
    let i = c.places.invariant in
    let xs = c.places.reached.keys in
    let end : c.places.k ≡ length xs = omega (arith, i.upto, c.places-test.false, c.len.ensures.len)
    in
    sorted_reached c.args.self.now.nodes xs c.sort.new.self.keys i.zero i.one i.within
    (subst (λ n. AreFollowed c.args.self.now.nodes xs n) end i.followed) c.len.ensures.unique
    c.sort.ensures.reordered.1 c.sort.ensures.reordered.2 (IsNonDecreasingBy-from_sort (λ x. x)
    c.sort.new.self.keys c.in_ok-sort.ensures.sorted)
