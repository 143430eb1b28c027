use Rattle.std.proofs.Common.{◌≡◌, ◌≢◌, ℕ, ap, refl, ◌∙◌, arith}
use Rattle.eqc_plain.specs.Store.{root}
use Rattle.eqc_guard.specs.Known.{tree_of}
use Rattle.eqc_arena.proofs.References.{low_counts, high_counts, opened}
use Rattle.eqc_apply.proofs.Once.{before_trans, seat_trans, settles_before}
use Rattle.eqc_apply.proofs.Reading.{read_has, read_before, read_seat, root_read, starts_below}
use Rattle.eqc_apply.proofs.Reading.{less, same_cofactors, taken_before, taken_seat}
use Rattle.eqc_apply.proofs.Reading.{cofactors_taken}
use Rattle.eqc_plain.proofs.Spending.{spends_refl}
use Rattle.eqc_apply.proofs.held.Held.cofactors.Goals as goal

pub returns-then-top-variable-clause-ok : goal.returns-then-top-variable-clause-ok
returns-then-top-variable-clause-ok c =
    let v = c.args.variable in
    let n = c.args.self.now.variables in
    let b =
    read_before c.args.x c.word_of-word.result c.args.self.now.variables
    c.args.self.now.counts.items c.args.self.now.worker
    c.word_of-word.new.worker c.word_of-word.ensures.step c.word_of-word.ensures.tells
    c.requires.held c.args.self.now.once in
    let is : root n (tree_of c.word_of-word.new.worker.known c.args.x)
    ≡ root n (tree_of c.args.self.now.worker.known c.args.x) =
    ap (root n) (b.tree c.args.x c.requires.held) in
    let top =
    root_read c.args.x c.word_of-word.result c.args.self.now.variables c.args.self.now.counts.items
    c.args.self.now.worker
    c.word_of-word.new.worker c.word_of-word.ensures.step c.word_of-word.ensures.tells
    c.requires.held c.args.self.now.once _
    c.unpack_node-top.ensures.fields in
    let differ : c.unpack_node-top.result.0 ≢ v = c.if-top-variable.true in
    let at_least = c.requires.root in
    same_cofactors n v c.args.x c.word_of-word.new.worker.known (b.held c.args.x c.requires.held)
    (starts_below n v _ (less v c.unpack_node-top.result.0
    (root n (tree_of c.word_of-word.new.worker.known c.args.x)) top differ (omega (arith, is))))

pub returns-then-top-variable-clause-names : goal.returns-then-top-variable-clause-names
returns-then-top-variable-clause-names c = record {
  forest = c.word_of-word.ensures.step.forest;
  seat =
      read_seat c.args.x c.word_of-word.result c.args.self.now.variables
      c.args.self.now.counts.items c.args.self.now.worker
      c.word_of-word.new.worker c.word_of-word.ensures.step c.word_of-word.ensures.tells
      c.requires.held c.args.self.now.once;
  variables = refl;
  references = λ y. refl;
  before =
      read_before c.args.x c.word_of-word.result c.args.self.now.variables
      c.args.self.now.counts.items c.args.self.now.worker
      c.word_of-word.new.worker c.word_of-word.ensures.step c.word_of-word.ensures.tells
      c.requires.held c.args.self.now.once;
  turns = spends_refl c.args.self.now.turns;
}

pub hold-requires-clause-may : goal.hold-requires-clause-may
hold-requires-clause-may c =
    low_counts c.args.self.now.worker c.word_of-word.new.worker c.args.x c.word_of-word.result
    c.word_of-word.ensures.step
    c.unpack_node-top.result.1 (ap (λ (p : ℕ × ℕ × ℕ). p.1) c.unpack_node-top.ensures.fields)

pub invariant_of-self-in-Break-1 : goal.invariant_of-self-in-Break-1
invariant_of-self-in-Break-1 c =
    record {
      once =
          (c.hold.ensures.has c.args.self.now.variables
          (read_has c.args.x c.word_of-word.result c.args.self.now.variables
          c.args.self.now.counts.items c.args.self.now.worker
          c.word_of-word.new.worker c.word_of-word.ensures.step c.word_of-word.ensures.tells
          c.requires.held c.args.self.now.once));
    }

pub returns-in_err-hold-clause-names : goal.returns-in_err-hold-clause-names
returns-in_err-hold-clause-names c = record {
  forest = c.hold.ensures.settles.forest ∙ c.word_of-word.ensures.step.forest;
  seat =
      seat_trans
      (read_seat c.args.x c.word_of-word.result c.args.self.now.variables
      c.args.self.now.counts.items c.args.self.now.worker
      c.word_of-word.new.worker c.word_of-word.ensures.step c.word_of-word.ensures.tells
      c.requires.held c.args.self.now.once)
      c.hold.ensures.settles.seat;
  variables = refl;
  references = c.hold.ensures.references;
  before =
      before_trans
      (read_before c.args.x c.word_of-word.result c.args.self.now.variables
      c.args.self.now.counts.items c.args.self.now.worker
      c.word_of-word.new.worker c.word_of-word.ensures.step c.word_of-word.ensures.tells
      c.requires.held c.args.self.now.once)
      (settles_before
      (read_has c.args.x c.word_of-word.result c.args.self.now.variables
      c.args.self.now.counts.items c.args.self.now.worker
      c.word_of-word.new.worker c.word_of-word.ensures.step c.word_of-word.ensures.tells
      c.requires.held c.args.self.now.once)
      c.hold.ensures.settles);
  turns = spends_refl c.args.self.now.turns;
}

pub hold-requires-2-clause-has : goal.hold-requires-2-clause-has
hold-requires-2-clause-has c = (
  c.args.self.now.variables,
  (c.hold.ensures.has c.args.self.now.variables
      (read_has c.args.x c.word_of-word.result c.args.self.now.variables
      c.args.self.now.counts.items c.args.self.now.worker
      c.word_of-word.new.worker c.word_of-word.ensures.step c.word_of-word.ensures.tells
      c.requires.held c.args.self.now.once)),
)

pub hold-requires-2-clause-may : goal.hold-requires-2-clause-may
hold-requires-2-clause-may c =
    high_counts c.args.self.now.worker c.word_of-word.new.worker c.args.x c.word_of-word.result
    c.word_of-word.ensures.step c.hold.new.worker
    c.in_ok-hold.ensures.read c.unpack_node-top.result.2 (ap (λ (p : ℕ × ℕ × ℕ). p.2)
    c.unpack_node-top.ensures.fields)

pub invariant_of-self-2 : goal.invariant_of-self-2
invariant_of-self-2 c =
    record {
      once =
          (c.hold-2.ensures.has c.args.self.now.variables
          (c.hold.ensures.has c.args.self.now.variables
          (read_has c.args.x c.word_of-word.result c.args.self.now.variables
          c.args.self.now.counts.items c.args.self.now.worker
          c.word_of-word.new.worker c.word_of-word.ensures.step c.word_of-word.ensures.tells
          c.requires.held c.args.self.now.once)));
    }

pub returns-in_err-hold-2-clause-names : goal.returns-in_err-hold-2-clause-names
returns-in_err-hold-2-clause-names c = record {
  forest = c.hold-2.ensures.settles.forest ∙ (c.hold.ensures.settles.forest
      ∙ c.word_of-word.ensures.step.forest);
  seat =
      taken_seat c.args.x c.word_of-word.result c.args.self.now.variables
      c.args.self.now.counts.items c.hold.new.counts.items
      c.args.self.now.worker c.word_of-word.new.worker c.hold.new.worker c.hold-2.new.worker
      c.word_of-word.ensures.step
      c.word_of-word.ensures.tells c.requires.held c.args.self.now.once c.unpack_node-top.result.1
      c.unpack_node-top.result.2
      c.hold.ensures.settles
      (c.hold.ensures.has c.args.self.now.variables
      (read_has c.args.x c.word_of-word.result c.args.self.now.variables
      c.args.self.now.counts.items c.args.self.now.worker
      c.word_of-word.new.worker c.word_of-word.ensures.step c.word_of-word.ensures.tells
      c.requires.held c.args.self.now.once))
      c.in_ok-hold.ensures.there.0 c.hold-2.ensures.settles;
  variables = refl;
  references = λ y. c.hold-2.ensures.references y ∙ c.hold.ensures.references y;
  before =
      taken_before c.args.x c.word_of-word.result c.args.self.now.variables
      c.args.self.now.counts.items c.hold.new.counts.items
      c.args.self.now.worker c.word_of-word.new.worker c.hold.new.worker c.hold-2.new.worker
      c.word_of-word.ensures.step
      c.word_of-word.ensures.tells c.requires.held c.args.self.now.once c.unpack_node-top.result.1
      c.unpack_node-top.result.2
      c.hold.ensures.settles
      (c.hold.ensures.has c.args.self.now.variables
      (read_has c.args.x c.word_of-word.result c.args.self.now.variables
      c.args.self.now.counts.items c.args.self.now.worker
      c.word_of-word.new.worker c.word_of-word.ensures.step c.word_of-word.ensures.tells
      c.requires.held c.args.self.now.once))
      c.in_ok-hold.ensures.there.0 c.hold-2.ensures.settles;
  turns = spends_refl c.args.self.now.turns;
}

pub returns-clause-ok : goal.returns-clause-ok
returns-clause-ok c =
    let is =
    opened c.args.self.now.worker c.word_of-word.new.worker c.args.x c.word_of-word.result
    c.word_of-word.ensures.step c.hold.new.worker
    c.in_ok-hold.ensures.read c.hold-2.new.worker c.unpack_node-top.result.1
    c.unpack_node-top.result.2 c.unpack_node-top.result
    c.in_ok-hold.ensures.trees c.in_ok-hold-2.ensures.trees c.word_of-word.ensures.tells
    c.unpack_node-top.ensures.fields refl refl in
    cofactors_taken c.args.x c.word_of-word.result c.args.self.now.variables
    c.args.self.now.counts.items c.hold.new.counts.items
    c.args.self.now.worker c.word_of-word.new.worker c.hold.new.worker c.hold-2.new.worker
    c.word_of-word.ensures.step
    c.word_of-word.ensures.tells c.requires.held c.args.self.now.once c.unpack_node-top.result.1
    c.unpack_node-top.result.2 c.hold.ensures.settles
    (c.hold.ensures.has c.args.self.now.variables
    (read_has c.args.x c.word_of-word.result c.args.self.now.variables c.args.self.now.counts.items
    c.args.self.now.worker
    c.word_of-word.new.worker c.word_of-word.ensures.step c.word_of-word.ensures.tells
    c.requires.held c.args.self.now.once))
    c.in_ok-hold.ensures.there.0 c.hold-2.ensures.settles c.recall_laws.ensures
    c.unpack_node-top.result
    c.args.variable is c.if-top-variable.false c.in_ok-hold-2.ensures.there.0

pub returns-clause-names : goal.returns-clause-names
returns-clause-names c = record {
  forest = c.hold-2.ensures.settles.forest ∙ (c.hold.ensures.settles.forest
      ∙ c.word_of-word.ensures.step.forest);
  seat =
      taken_seat c.args.x c.word_of-word.result c.args.self.now.variables
      c.args.self.now.counts.items c.hold.new.counts.items
      c.args.self.now.worker c.word_of-word.new.worker c.hold.new.worker c.hold-2.new.worker
      c.word_of-word.ensures.step
      c.word_of-word.ensures.tells c.requires.held c.args.self.now.once c.unpack_node-top.result.1
      c.unpack_node-top.result.2
      c.hold.ensures.settles
      (c.hold.ensures.has c.args.self.now.variables
      (read_has c.args.x c.word_of-word.result c.args.self.now.variables
      c.args.self.now.counts.items c.args.self.now.worker
      c.word_of-word.new.worker c.word_of-word.ensures.step c.word_of-word.ensures.tells
      c.requires.held c.args.self.now.once))
      c.in_ok-hold.ensures.there.0 c.hold-2.ensures.settles;
  variables = refl;
  references = λ y. c.hold-2.ensures.references y ∙ c.hold.ensures.references y;
  before =
      taken_before c.args.x c.word_of-word.result c.args.self.now.variables
      c.args.self.now.counts.items c.hold.new.counts.items
      c.args.self.now.worker c.word_of-word.new.worker c.hold.new.worker c.hold-2.new.worker
      c.word_of-word.ensures.step
      c.word_of-word.ensures.tells c.requires.held c.args.self.now.once c.unpack_node-top.result.1
      c.unpack_node-top.result.2
      c.hold.ensures.settles
      (c.hold.ensures.has c.args.self.now.variables
      (read_has c.args.x c.word_of-word.result c.args.self.now.variables
      c.args.self.now.counts.items c.args.self.now.worker
      c.word_of-word.new.worker c.word_of-word.ensures.step c.word_of-word.ensures.tells
      c.requires.held c.args.self.now.once))
      c.in_ok-hold.ensures.there.0 c.hold-2.ensures.settles;
  turns = spends_refl c.args.self.now.turns;
}
