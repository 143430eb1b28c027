use Rattle.std.proofs.Common.{[], ◌∷◌, refl, ◌∙◌, arith}
use Rattle.eqc_core.specs.Words.{slots_of}
use Rattle.eqc_guard.specs.declared.parcel.Parcel.TheVariants.{Task}
use Rattle.eqc_apply.proofs.Once.{few_held, has_after, has_same, same_as, changes_before, seat_of}
use Rattle.eqc_arena.proofs.Unboxing.{came_went}
use Rattle.eqc_apply.proofs.Handing.{come_may, come_held}
use Rattle.eqc_apply.proofs.Receiving.{first_has, second_has, both_before, both_seat}
use Rattle.eqc_plain.proofs.Spending.{spends_refl}
use Rattle.eqc_apply.proofs.held.Held.take_task.Goals as goal

pub task_out-requires-clause-few : goal.task_out-requires-clause-few
task_out-requires-clause-few c = let f = few_held c.args.self.now.once c.recall_laws.ensures in
    omega arith

pub returns-in_default-clause-names : goal.returns-in_default-clause-names
returns-in_default-clause-names c =
    let t = c.task_out.ensures.none c.in_default.is in
    record {
      forest = t.forest;
      seat = seat_of t;
      variables = refl;
      references = λ y. refl;
      before =
          changes_before t;
      turns = spends_refl c.args.self.now.turns;
    }

pub put-requires : goal.put-requires
put-requires c =
    let f = c.in-Some.f in
    let g = c.in-Some.g in
    let t = c.in-Some.ensures.some in
    let few = few_held c.args.self.now.once c.recall_laws.ensures in
    come_may (f.number ∷ g.number ∷ []) t c.args.b (Task c.in-Some.op f g)
    c.args.self.now.once.rest.ready c.requires (omega arith) (omega arith)
    (come_held (f.number ∷ g.number ∷ []) t)

pub returns-in_default-grow_counts-clause-names : goal.returns-in_default-grow_counts-clause-names
returns-in_default-grow_counts-clause-names c =
    let t = came_went c.in-Some.ensures.some c.put.ensures.changes in
    record {
      forest = t.forest;
      seat = seat_of t;
      variables = refl;
      references = same_as c.args.self.now.counts.items c.grow_counts.new.counts.items
          c.grow_counts.ensures.same;
      before = changes_before t;
      turns = spends_refl c.args.self.now.turns;
    }

pub count_in-first-requires-clause-has : goal.count_in-first-requires-clause-has
count_in-first-requires-clause-has c =
    let t = c.in-Some.ensures.some in
    let f = c.in-Some.f.number in
    let g = c.in-Some.g.number in
    let n = c.args.self.now.variables in
    let room = c.grow_counts.new.counts.items in (
      n,
      (
        slots_of (g ∷ []),
        first_has f g n c.args.self.now.worker c.task_out.new.worker
            c.args.self.now.counts.items room c.args.self.now.once t c.grow_counts.ensures.same,
      ),
    )

pub count_in-second-requires-clause-has : goal.count_in-second-requires-clause-has
count_in-second-requires-clause-has c =
    let t = c.in-Some.ensures.some in
    let f = c.in-Some.f.number in
    let g = c.in-Some.g.number in
    let n = c.args.self.now.variables in
    let room = c.grow_counts.new.counts.items in (
      n,
      (
        [],
        second_has f g n c.args.self.now.worker c.task_out.new.worker c.args.self.now.counts.items
            room c.args.self.now.once t
            c.grow_counts.ensures.same c.count_in-first.new.worker c.count_in-first.new.counts.items
            c.count_in-first.ensures.has
            c.count_in-first.ensures.settles c.count_in-first.ensures.still,
      ),
    )

pub invariant_of-self-2 : goal.invariant_of-self-2
invariant_of-self-2 c =
    let t = c.in-Some.ensures.some in
    let f = c.in-Some.f.number in
    let g = c.in-Some.g.number in
    let n = c.args.self.now.variables in
    let room = c.grow_counts.new.counts.items in
    record {
      once =
          c.count_in-second.ensures.has n []
          (second_has f g n c.args.self.now.worker c.task_out.new.worker
          c.args.self.now.counts.items room c.args.self.now.once t
          c.grow_counts.ensures.same c.count_in-first.new.worker c.count_in-first.new.counts.items
          c.count_in-first.ensures.has
          c.count_in-first.ensures.settles c.count_in-first.ensures.still);
    }

pub returns-clause-names : goal.returns-clause-names
returns-clause-names c =
    let t = c.in-Some.ensures.some in
    let f = c.in-Some.f.number in
    let g = c.in-Some.g.number in
    let n = c.args.self.now.variables in
    let room = c.grow_counts.new.counts.items in
    record {
      forest = c.count_in-second.ensures.settles.forest ∙ (c.count_in-first.ensures.settles.forest
          ∙ t.forest);
      seat =
          both_seat f g n c.args.self.now.worker c.task_out.new.worker c.args.self.now.counts.items
          room c.args.self.now.once t
          c.grow_counts.ensures.same c.count_in-first.new.worker c.count_in-first.new.counts.items
          c.count_in-first.ensures.has
          c.count_in-first.ensures.settles c.count_in-first.ensures.still
          c.count_in-second.new.worker c.count_in-second.ensures.settles;
      variables = refl;
      references = λ y. c.count_in-second.ensures.references y
          ∙ (c.count_in-first.ensures.references y ∙ same_as c.args.self.now.counts.items room
          c.grow_counts.ensures.same y);
      before =
          both_before f g n c.args.self.now.worker c.task_out.new.worker
          c.args.self.now.counts.items room c.args.self.now.once t
          c.grow_counts.ensures.same c.count_in-first.new.worker c.count_in-first.new.counts.items
          c.count_in-first.ensures.has
          c.count_in-first.ensures.settles c.count_in-first.ensures.still
          c.count_in-second.new.worker c.count_in-second.ensures.settles;
      turns = spends_refl c.args.self.now.turns;
    }

pub returns-clause-held : goal.returns-clause-held
returns-clause-held c = (
  c.count_in-second.ensures.settles.held c.count_in-first.result
      c.count_in-first.ensures.now,
  c.count_in-second.ensures.there.1.0,
)

pub invariant_of-self : goal.invariant_of-self
invariant_of-self c = record {
  once = has_after (c.task_out.ensures.none c.in_default.is) [] []
      c.args.self.now.variables c.args.self.now.counts.items (λ y. omega arith) c.args.self.now.once;
}

pub invariant_of-self-in_default-grow_counts : goal.invariant_of-self-in_default-grow_counts
invariant_of-self-in_default-grow_counts c =
    let t = came_went c.in-Some.ensures.some c.put.ensures.changes in
    record {
      once =
          has_same [] c.args.self.now.variables c.put.new.worker c.args.self.now.counts.items
          c.grow_counts.new.counts.items
          c.grow_counts.ensures.same
          (has_after t [] [] c.args.self.now.variables c.args.self.now.counts.items
          (λ y. omega arith) c.args.self.now.once);
    }
