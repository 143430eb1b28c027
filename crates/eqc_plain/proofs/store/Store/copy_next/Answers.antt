use Rattle.std.proofs.Common.{◌≡◌, ◌<◌, ◌≤◌, length, get_or, arith, refl}
use Rattle.eqc_plain.proofs.Slots.{has_place}
use Rattle.eqc_plain.proofs.Copying.{stands_before, copies_constant, copies_node, above_child}
use Rattle.eqc_plain.proofs.Copying.{above_children, if_ok, extends_refl, has_room, only_memory}
use Rattle.eqc_plain.proofs.store.Store.copy_next.Goals as goal

pub returns-then-x-lt2-clause-copying : goal.returns-then-x-lt2-clause-copying
returns-then-x-lt2-clause-copying c =
    let xs = c.args.reached.now.keys in
    let ms = c.args.numbers.now in
    let x : get_or c.as_slice.result.now (length ms) 0 ≡ get_or xs (length ms) 0 =
    rw c.as_slice.ensures.keys refl in
    let low : get_or xs (length ms) 0 < 2 = omega (arith, x, c.if-x-lt2.true) in
    rw x (copies_constant c.args.self.now c.args.copy.now xs ms low (extends_refl c.args.copy.now)
    c.requires.copying)

pub branch-variable-requires-clause-within : goal.branch-variable-requires-clause-within
branch-variable-requires-clause-within c =
    let xs = c.args.reached.now.keys in
    let ms = c.args.numbers.now in
    rw c.as_slice.ensures.keys (c.requires.reached.within (get_or xs (length ms) 0)
    (has_place xs (length ms) c.requires.more))

pub node-requires-clause-above_low : goal.node-requires-clause-above_low
node-requires-clause-above_low c =
    let xs = c.args.reached.now.keys in
    let ms = c.args.numbers.now in
    let x : get_or c.as_slice.result.now (length ms) 0 ≡ get_or xs (length ms) 0 =
    rw c.as_slice.ensures.keys refl in
    let less : get_or xs c.place.result 0 < get_or xs (length ms) 0 =
    omega (arith, x, c.place.ensures.at, c.branch-variable.ensures.low_less) in
    let earlier : c.place.result < length ms = stands_before c.args.self.now.nodes xs c.place.result
    (length ms) c.requires.reached c.place.ensures.within c.requires.more less in
    let within = c.requires.reached.within (get_or xs (length ms) 0) (has_place xs (length ms)
    c.requires.more) in
    let above = above_children c.args.self.now _ _ _ _ (omega arith) (omega (arith, x, within))
    c.branch-variable.ensures in
    above_child c.args.self.now c.args.copy.now xs ms _ _ c.place.result c.requires.copying earlier
    c.place.ensures.at above.0

pub node-requires-clause-above_high : goal.node-requires-clause-above_high
node-requires-clause-above_high c =
    let xs = c.args.reached.now.keys in
    let ms = c.args.numbers.now in
    let x : get_or c.as_slice.result.now (length ms) 0 ≡ get_or xs (length ms) 0 =
    rw c.as_slice.ensures.keys refl in
    let less : get_or xs c.place-2.result 0 < get_or xs (length ms) 0 =
    omega (arith, x, c.place-2.ensures.at, c.branch-variable.ensures.high_less) in
    let earlier : c.place-2.result < length ms = stands_before c.args.self.now.nodes xs
    c.place-2.result (length ms) c.requires.reached c.place-2.ensures.within c.requires.more
    less in
    let within = c.requires.reached.within (get_or xs (length ms) 0) (has_place xs (length ms)
    c.requires.more) in
    let above = above_children c.args.self.now _ _ _ _ (omega arith) (omega (arith, x, within))
    c.branch-variable.ensures in
    above_child c.args.self.now c.args.copy.now xs ms _ _ c.place-2.result c.requires.copying
    earlier c.place-2.ensures.at above.1

pub returns-clause-copying : goal.returns-clause-copying
returns-clause-copying c =
    let s = c.args.self.now in
    let xs = c.args.reached.now.keys in
    let ms = c.args.numbers.now in
    let b = c.branch-variable.result in
    let x : get_or c.as_slice.result.now (length ms) 0 ≡ get_or xs (length ms) 0 =
    rw c.as_slice.ensures.keys refl in
    let two : 2 ≤ get_or xs (length ms) 0 = omega (arith, x, c.if-x-lt2.false) in
    let branch = rw x at c.branch-variable.ensures in
    let low_earlier : c.place.result < length ms =
    stands_before s.nodes xs c.place.result (length ms) c.requires.reached c.place.ensures.within
    c.requires.more (omega (arith, x, c.place.ensures.at, c.branch-variable.ensures.low_less))
    in
    let high_earlier : c.place-2.result < length ms =
    stands_before s.nodes xs c.place-2.result (length ms) c.requires.reached
    c.place-2.ensures.within c.requires.more
    (omega (arith, x, c.place-2.ensures.at, c.branch-variable.ensures.high_less)) in
    if_ok c.node.result (λ m node. copies_node s c.args.copy.now c.node.new.self xs ms b.0 b.1 b.2
    c.place.result c.place-2.result m c.requires.reached c.requires.copying c.requires.more two
    branch
    low_earlier c.place.ensures.at high_earlier c.place-2.ensures.at c.node.ensures.store
    c.node.ensures.one node) c.node.ensures.ok

pub returns-clause-only : goal.returns-clause-only
returns-clause-only c =
    let s = c.args.self.now in
    let xs = c.args.reached.now.keys in
    let ms = c.args.numbers.now in
    let x : get_or c.as_slice.result.now (length ms) 0 ≡ get_or xs (length ms) 0 =
    rw c.as_slice.ensures.keys refl in
    let room = has_room s c.args.copy.now xs ms c.requires.reached c.requires.copying
    c.requires.more (omega (arith, x, c.if-x-lt2.false)) in
    only_memory c.node.result c.args.copy.now c.node.new.self room c.node.ensures.store
    c.node.ensures.full c.node.ensures.still c.node.ensures.only
