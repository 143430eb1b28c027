use Rattle.std.proofs.Common.{ℕ, [], refl, sym, subst, ◌∙◌, arith}
use Rattle.eqc_guard.specs.Known.{tree_of}
use Rattle.eqc_arena.specs.Nodes.{MayAsk, IsNodeOf}
use Rattle.eqc_apply.proofs.Once.{has_after, changes_before, seat_of}
use Rattle.eqc_apply.proofs.Asked.{may_ask, two_left, came_has, came_before, came_seat, node_is}
use Rattle.eqc_apply.proofs.Asked.{memory_left}
use Rattle.eqc_plain.proofs.Spending.{spends_refl}
use Rattle.eqc_apply.proofs.held.Held.node.Goals as goal

pub mk-made-requires : goal.mk-made-requires
mk-made-requires g c = subst (λ (l : ℕ). MayAsk c.args.self.now.worker.known c.args.variable l
    c.reference-second.result.number) (sym c.reference-first.ensures)
    (subst (λ (h : ℕ). MayAsk c.args.self.now.worker.known c.args.variable c.args.low h)
    (sym c.reference-second.ensures)
    (may_ask c.args.variable c.args.low c.args.high c.args.self.now.variables
    c.args.self.now.counts.items c.args.self.now.worker
    c.args.self.now.worker c.args.self.now.once c.recall_laws.ensures c.requires.low c.requires.high
    c.requires.below c.requires.above_low
    c.requires.above_high))

pub settle-requires : goal.settle-requires
settle-requires g c = (
  c.args.self.now.variables,
  came_has c.args.variable c.args.low c.args.high c.args.self.now.variables
      c.args.self.now.counts.items c.args.self.now.worker
      c.mk-made.new.worker c.args.self.now.once c.recall_laws.ensures c.requires.low c.requires.high
      c.in-Ok.name.number c.in-Ok.ensures.node,
)

pub invariant_of-self : goal.invariant_of-self
invariant_of-self g c =
    record {
      once =
          c.settle.ensures.has c.args.self.now.variables
          (came_has c.args.variable c.args.low c.args.high c.args.self.now.variables
          c.args.self.now.counts.items c.args.self.now.worker
          c.mk-made.new.worker c.args.self.now.once c.recall_laws.ensures c.requires.low
          c.requires.high c.in-Ok.name.number
          c.in-Ok.ensures.node);
    }

pub returns-in-Ok-clause-ok : goal.returns-in-Ok-clause-ok
returns-in-Ok-clause-ok g c =
    let is : IsNodeOf c.args.variable (tree_of c.args.self.now.worker.known c.args.low)
    (tree_of c.args.self.now.worker.known c.args.high) (tree_of c.mk-made.new.worker.known
    c.in-Ok.name.number) =
    subst
    (λ (l : ℕ). IsNodeOf c.args.variable (tree_of c.args.self.now.worker.known l)
    (tree_of c.args.self.now.worker.known c.args.high) (tree_of c.mk-made.new.worker.known
    c.in-Ok.name.number))
    c.reference-first.ensures
    (subst
    (λ (h : ℕ).
    IsNodeOf c.args.variable (tree_of c.args.self.now.worker.known c.reference-first.result.number)
    (tree_of c.args.self.now.worker.known h) (tree_of c.mk-made.new.worker.known
    c.in-Ok.name.number))
    c.reference-second.ensures c.in-Ok.ensures.tree) in
    node_is c.args.variable c.args.low c.args.high c.args.self.now.variables
    c.args.self.now.counts.items c.args.self.now.worker
    c.mk-made.new.worker c.args.self.now.once c.recall_laws.ensures c.requires.low c.requires.high
    c.in-Ok.name.number c.in-Ok.ensures.node
    c.settle.new.worker c.settle.ensures.settles c.if-low-high.false is c.settle.result
    c.settle.ensures.there

pub returns-in-Ok-clause-names : goal.returns-in-Ok-clause-names
returns-in-Ok-clause-names g c = record {
  forest = c.settle.ensures.settles.forest ∙ c.in-Ok.ensures.node.forest;
  seat =
      came_seat c.args.variable c.args.low c.args.high c.args.self.now.variables
      c.args.self.now.counts.items c.args.self.now.worker
      c.mk-made.new.worker c.args.self.now.once c.recall_laws.ensures c.requires.low c.requires.high
      c.in-Ok.name.number c.in-Ok.ensures.node
      c.settle.new.worker c.settle.ensures.settles;
  variables = refl;
  references = c.settle.ensures.references;
  before =
      came_before c.args.variable c.args.low c.args.high c.args.self.now.variables
      c.args.self.now.counts.items c.args.self.now.worker
      c.mk-made.new.worker c.args.self.now.once c.recall_laws.ensures c.requires.low c.requires.high
      c.in-Ok.name.number c.in-Ok.ensures.node
      c.settle.new.worker c.settle.ensures.settles;
  turns = spends_refl c.args.self.now.turns;
}

pub returns-in-Ok-clause-only : goal.returns-in-Ok-clause-only
returns-in-Ok-clause-only g c = memory_left c.settle.result c.settle.ensures.only

pub returns-in-Err-clause-names : goal.returns-in-Err-clause-names
returns-in-Err-clause-names g c = record {
  forest = c.in-Err.ensures.still.forest;
  seat = seat_of c.in-Err.ensures.still;
  variables = refl;
  references = λ y. refl;
  before = changes_before c.in-Err.ensures.still;
  turns = spends_refl c.args.self.now.turns;
}

pub returns-in-Err-clause-only : goal.returns-in-Err-clause-only
returns-in-Err-clause-only g c =
    two_left c.args.variable c.args.low c.args.high c.args.self.now.variables
    c.args.self.now.counts.items c.args.self.now.worker
    c.mk-made.new.worker c.args.self.now.once c.recall_laws.ensures c.requires.low c.requires.high
    c.in-Err.stop c.in-Err.ensures.only
    c.in-Err.ensures.full

pub invariant_of-self-in-Err-1 : goal.invariant_of-self-in-Err-1
invariant_of-self-in-Err-1 g c =
    record {
      once = has_after c.in-Err.ensures.still [] [] c.args.self.now.variables
          c.args.self.now.counts.items (λ y. omega arith) c.args.self.now.once;
    }
