use Rattle.std.proofs.Common.{◌^◌, [], ◌∷◌, refl, arith}
use Rattle.eqc_guard.specs.declared.parcel.Parcel.TheVariants.{Stopped}
use Rattle.eqc_arena.proofs.Changing.{held_still}
use Rattle.eqc_arena.proofs.Unboxing.{came_went}
use Rattle.eqc_apply.proofs.Once.{few_held, has_after, changes_before, seat_of}
use Rattle.eqc_apply.proofs.Handing.{as_named, come_may, come_held, come_few, pair_comes}
use Rattle.eqc_plain.proofs.Spending.{spends_refl}
use Rattle.eqc_apply.proofs.held.Held.put_stop.Goals as goal

pub another-first-requires-clause-few : goal.another-first-requires-clause-few
another-first-requires-clause-few c = let f = few_held c.args.self.now.once c.recall_laws.ensures in
    omega arith

pub another-second-requires-clause-held : goal.another-second-requires-clause-held
another-second-requires-clause-held c = held_still c.another-first.ensures.came c.args.g
    c.requires.g

pub another-second-requires-clause-few : goal.another-second-requires-clause-few
another-second-requires-clause-few c = let f = few_held c.args.self.now.once c.recall_laws.ensures
    in omega (arith, come_few (c.args.f ∷ []) c.another-first.ensures.came (2 ^ 29) (omega arith))

pub put-requires : goal.put-requires
put-requires c =
    let f = c.another-first.result in
    let g = c.another-second.result in
    let t =
    pair_comes f.number g.number (as_named c.args.f f.number c.another-first.ensures.name
    c.another-first.ensures.came)
    (as_named c.args.g g.number c.another-second.ensures.name c.another-second.ensures.came) in
    let few = few_held c.args.self.now.once c.recall_laws.ensures in
    come_may (f.number ∷ g.number ∷ []) t c.args.b (Stopped c.args.stop f g)
    c.args.self.now.once.rest.ready c.requires.there (omega arith)
    (omega arith) (come_held (f.number ∷ g.number ∷ []) t, c.requires.stop)

pub invariant_of-self : goal.invariant_of-self
invariant_of-self c =
    let f = c.another-first.result in
    let g = c.another-second.result in
    let t =
    came_went
    (pair_comes f.number g.number (as_named c.args.f f.number c.another-first.ensures.name
    c.another-first.ensures.came)
    (as_named c.args.g g.number c.another-second.ensures.name c.another-second.ensures.came))
    c.put.ensures.changes in
    record {
      once = has_after t [] [] c.args.self.now.variables c.args.self.now.counts.items
          (λ y. omega arith) c.args.self.now.once;
    }

pub returns : goal.returns
returns c =
    let f = c.another-first.result in
    let g = c.another-second.result in
    let t =
    came_went
    (pair_comes f.number g.number (as_named c.args.f f.number c.another-first.ensures.name
    c.another-first.ensures.came)
    (as_named c.args.g g.number c.another-second.ensures.name c.another-second.ensures.came))
    c.put.ensures.changes in
    record {
      forest = t.forest;
      seat = seat_of t;
      variables = refl;
      references = λ y. refl;
      before =
          changes_before t;
      turns = spends_refl c.args.self.now.turns;
    }
