use Rattle.std.proofs.Common.{◌≡◌, None, Some, Err, length, refl, sym, ap, ◌∙◌, arith, inl, inr}
use Rattle.eqc_apply.proofs.Copying.{within_places, last_over, order_last, has_room, closed}
use Rattle.eqc_apply.proofs.plain_copy.PlainCopy.close.Goals as goal

pub place-requires : goal.place-requires
place-requires c =
    let over = last_over c.args.names.now c.args.self.now c.args.self.now.visits.items c.args.name
    c.args.variable c.args.low c.args.high c.requires.way in
    within_places c.args.names.now c.args.self.now c.args.low c.recall_laws.ensures
    c.requires.way.faithful over.halves.low_within

pub unreachable-requires : goal.unreachable-requires
unreachable-requires c =
    let placed = (order_last c.args.self.now.places.items c.args.self.now.visits.items c.args.name
    c.args.variable c.args.low c.args.high c.requires.way.order).0 in
    let clash : None ≡ Some placed.0 = sym c.in_default.is ∙ (c.place.ensures ∙ placed.1) in
    cc

pub place-requires-2 : goal.place-requires-2
place-requires-2 c =
    let over = last_over c.args.names.now c.args.self.now c.args.self.now.visits.items c.args.name
    c.args.variable c.args.low c.args.high c.requires.way in
    within_places c.args.names.now c.args.self.now c.args.high c.recall_laws.ensures
    c.requires.way.faithful over.halves.high_within

pub unreachable-requires-in_default-place : goal.unreachable-requires-in_default-place
unreachable-requires-in_default-place c =
    let placed = (order_last c.args.self.now.places.items c.args.self.now.visits.items c.args.name
    c.args.variable c.args.low c.args.high c.requires.way.order).1 in
    let clash : None ≡ Some placed.0 = sym c.in_default-place.is ∙ (c.place-2.ensures ∙ placed.1) in
    cc

pub node-requires-clause-low : goal.node-requires-clause-low
node-requires-clause-low c = (c.requires.way.faithful.placed c.args.low c.in-Some.low
    (sym c.place.ensures ∙ c.in-Some.is)).within

pub node-requires-clause-high : goal.node-requires-clause-high
node-requires-clause-high c = (c.requires.way.faithful.placed c.args.high c.in-Some-place.high
    (sym c.place-2.ensures ∙ c.in-Some-place.is)).within

pub node-requires-clause-above_low : goal.node-requires-clause-above_low
node-requires-clause-above_low c =
    let over = last_over c.args.names.now c.args.self.now c.args.self.now.visits.items c.args.name
    c.args.variable c.args.low c.args.high c.requires.way in
    let copy = c.requires.way.faithful.placed c.args.low c.in-Some.low (sym c.place.ensures
    ∙ c.in-Some.is) in
    omega (arith, copy.starts, over.halves.above_low)

pub node-requires-clause-above_high : goal.node-requires-clause-above_high
node-requires-clause-above_high c =
    let over = last_over c.args.names.now c.args.self.now c.args.self.now.visits.items c.args.name
    c.args.variable c.args.low c.args.high c.requires.way in
    let copy = c.requires.way.faithful.placed c.args.high c.in-Some-place.high
    (sym c.place-2.ensures ∙ c.in-Some-place.is) in
    omega (arith, copy.starts, over.halves.above_high)

pub index_mut-requires : goal.index_mut-requires
index_mut-requires c =
    let over = last_over c.args.names.now c.args.self.now c.args.self.now.visits.items c.args.name
    c.args.variable c.args.low c.args.high c.requires.way in
    omega (
      arith,
      within_places c.args.names.now c.args.self.now c.args.name c.recall_laws.ensures
          c.requires.way.faithful over.held,
    )

pub returns-in-Err-clause-only : goal.returns-in-Err-clause-only
returns-in-Err-clause-only c =
    let over = last_over c.args.names.now c.args.self.now c.args.self.now.visits.items c.args.name
    c.args.variable c.args.low c.args.high c.requires.way in
    let within = within_places c.args.names.now c.args.self.now c.args.name c.recall_laws.ensures
    c.requires.way.faithful over.held in
    elim c.in-Err.ensures.only [
      | inl full ↦
          absurd
          (omega (
            arith,
            has_room c.args.names.now c.args.self.now c.args.name c.requires.way.faithful
                c.requires.new within,
            c.in-Err.ensures.full (ap Err full),
            ap length c.in-Err.ensures.still,
            c.in-Err.ensures.store.limit,
          ))
      | inr memory ↦ memory
    ]

pub returns-in-Ok-clause-advance : goal.returns-in-Ok-clause-advance
returns-in-Ok-clause-advance c =
    let n = c.args.names.now in
    let s = c.args.self.now in
    let over = last_over n s s.visits.items c.args.name c.args.variable c.args.low c.args.high
    c.requires.way in
    let within = within_places n s c.args.name c.recall_laws.ensures c.requires.way.faithful
    over.held in
    closed n s _ c.args.name c.args.variable c.args.low c.args.high c.in-Some.low
    c.in-Some-place.high c.in-Ok.number c.requires.way
    c.requires.new (sym c.place.ensures ∙ c.in-Some.is) (sym c.place-2.ensures ∙ c.in-Some-place.is)
    within
    c.in-Ok.ensures.store c.in-Ok.ensures.one c.in-Ok.ensures.ok refl refl
