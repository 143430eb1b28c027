use Rattle.std.proofs.Common.{◌^◌, [], ◌∷◌, refl, arith}
use Rattle.eqc_guard.specs.declared.parcel.Parcel.TheVariants.{Done}
use Rattle.eqc_arena.proofs.Changing.{held_still, same_tree}
use Rattle.eqc_arena.proofs.Unboxing.{came_went}
use Rattle.eqc_apply.proofs.Once.{few_held, has_after, changes_before, seat_of}
use Rattle.eqc_apply.proofs.Handing.{as_named, come_may, come_held, come_few, pair_comes}
use Rattle.eqc_apply.proofs.Handing.{three_come, done_right}
use Rattle.eqc_plain.proofs.Spending.{spends_refl}
use Rattle.eqc_apply.proofs.held.Held.put_done.Goals as goal

pub another-first-requires-clause-few : goal.another-first-requires-clause-few
another-first-requires-clause-few c = let f = few_held c.args.self.now.once c.recall_laws.ensures in
    omega arith

pub another-second-requires-clause-held : goal.another-second-requires-clause-held
another-second-requires-clause-held c = held_still c.another-first.ensures.came c.args.g
    c.requires.g

pub another-second-requires-clause-few : goal.another-second-requires-clause-few
another-second-requires-clause-few c =
    let f = few_held c.args.self.now.once c.recall_laws.ensures in
    omega (arith, come_few (c.args.f ∷ []) c.another-first.ensures.came (2 ^ 29) (omega arith))

pub another-r-requires-clause-held : goal.another-r-requires-clause-held
another-r-requires-clause-held c =
    let f = c.another-first.result in
    let g = c.another-second.result in
    held_still
    (pair_comes f.number g.number (as_named c.args.f f.number c.another-first.ensures.name
    c.another-first.ensures.came)
    (as_named c.args.g g.number c.another-second.ensures.name c.another-second.ensures.came))
    c.args.x c.requires.x

pub another-r-requires-clause-few : goal.another-r-requires-clause-few
another-r-requires-clause-few c =
    let few = few_held c.args.self.now.once c.recall_laws.ensures in
    let f = c.another-first.result in
    let g = c.another-second.result in
    omega (
      arith,
      come_few (f.number ∷ g.number ∷ [])
          (pair_comes f.number g.number (as_named c.args.f f.number c.another-first.ensures.name
          c.another-first.ensures.came)
          (as_named c.args.g g.number c.another-second.ensures.name c.another-second.ensures.came))
          (2 ^ 29) (omega arith),
    )

pub put-requires : goal.put-requires
put-requires c =
    let f = c.another-first.result in
    let g = c.another-second.result in
    let r = c.another-r.result in
    let came_f = as_named c.args.f f.number c.another-first.ensures.name
    c.another-first.ensures.came in
    let came_g = as_named c.args.g g.number c.another-second.ensures.name
    c.another-second.ensures.came in
    let came_r = as_named c.args.x r.number c.another-r.ensures.name c.another-r.ensures.came in
    let t = three_come r.number f.number g.number came_f came_g came_r in
    let few = few_held c.args.self.now.once c.recall_laws.ensures in
    let right =
    done_right c.args.op c.args.f c.args.g c.args.x f.number g.number r.number
    c.args.self.now.worker.known c.another-r.new.worker.known (same_tree t) c.requires.f
    c.requires.g c.requires.x
    c.another-first.ensures.name c.another-second.ensures.name c.another-r.ensures.name
    c.requires.right in
    come_may (r.number ∷ f.number ∷ g.number ∷ []) t c.args.b (Done (record {
      op = c.args.op;
      f = f;
      g = g;
      r = r;
    }))
    c.args.self.now.once.rest.ready c.requires.there (omega arith) (omega arith)
    (come_held (r.number ∷ f.number ∷ g.number ∷ []) t, right)

pub invariant_of-self : goal.invariant_of-self
invariant_of-self c =
    let f = c.another-first.result in
    let g = c.another-second.result in
    let r = c.another-r.result in
    let t = came_went
    (three_come r.number f.number g.number (as_named c.args.f f.number c.another-first.ensures.name
    c.another-first.ensures.came)
    (as_named c.args.g g.number c.another-second.ensures.name c.another-second.ensures.came)
    (as_named c.args.x r.number c.another-r.ensures.name c.another-r.ensures.came))
    c.put.ensures.changes in
    record {
      once = has_after t [] [] c.args.self.now.variables c.args.self.now.counts.items
          (λ y. omega arith) c.args.self.now.once;
    }

pub returns : goal.returns
returns c =
    let f = c.another-first.result in
    let g = c.another-second.result in
    let r = c.another-r.result in
    let t = came_went
    (three_come r.number f.number g.number (as_named c.args.f f.number c.another-first.ensures.name
    c.another-first.ensures.came)
    (as_named c.args.g g.number c.another-second.ensures.name c.another-second.ensures.came)
    (as_named c.args.x r.number c.another-r.ensures.name c.another-r.ensures.came))
    c.put.ensures.changes in
    record {
      forest = t.forest;
      seat = seat_of t;
      variables = refl;
      references = λ y. refl;
      before =
          changes_before t;
      turns = spends_refl c.args.self.now.turns;
    }
