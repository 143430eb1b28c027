use Rattle.std.proofs.Common.{ℕ, [], arith, refl, subst, ◌∙◌}
use Rattle.eqc_cache.specs.Finding.{IsHit}
use Rattle.eqc_arena.proofs.Taking.{may_clear}
use Rattle.eqc_arena.proofs.Resting.{rest_begins}
use Rattle.eqc_apply.proofs.Once.{has_after}
use Rattle.eqc_apply.proofs.Asked.{came_has, came_before, came_seat}
use Rattle.eqc_apply.proofs.Finding.{passes, hits, found_result}
use Rattle.eqc_plain.proofs.Spending.{spends_refl}
use Rattle.eqc_apply.proofs.held.Held.look_up.Goals as goal

pub lookup-hit-requires-clause-may : goal.lookup-hit-requires-clause-may
lookup-hit-requires-clause-may c = may_clear c.args.self.now.worker.known c.recall_laws.ensures
    (rest_begins c.args.self.now.once.rest) c.args.self.now.once.cells

pub invariant_of-self : goal.invariant_of-self
invariant_of-self c =
    record {
      once =
          has_after (passes c.args.self.now.worker c.lookup-hit.new.worker
          (c.lookup-hit.ensures.miss c.in_default.is)) [] []
          c.args.self.now.variables c.args.self.now.counts.items (λ y. omega arith)
          c.args.self.now.once;
    }

pub settle-requires : goal.settle-requires
settle-requires c = (
  c.args.self.now.variables,
  came_has 0 c.args.f c.args.g c.args.self.now.variables c.args.self.now.counts.items
      c.args.self.now.worker c.lookup-hit.new.worker
      c.args.self.now.once c.recall_laws.ensures c.requires.f c.requires.g c.in-Some.name.number
      (hits _ _ _ c.in-Some.name.number c.args.self.now.worker c.lookup-hit.new.worker
      c.in-Some.ensures.hit),
)

pub invariant_of-self-2 : goal.invariant_of-self-2
invariant_of-self-2 c =
    record {
      once =
          c.settle.ensures.has c.args.self.now.variables
          (came_has 0 c.args.f c.args.g c.args.self.now.variables c.args.self.now.counts.items
          c.args.self.now.worker c.lookup-hit.new.worker
          c.args.self.now.once c.recall_laws.ensures c.requires.f c.requires.g c.in-Some.name.number
          (hits _ _ _ c.in-Some.name.number c.args.self.now.worker c.lookup-hit.new.worker
          c.in-Some.ensures.hit));
    }

pub returns-in_err-x-clause-names : goal.returns-in_err-x-clause-names
returns-in_err-x-clause-names c =
    let t = hits _ _ _ c.in-Some.name.number c.args.self.now.worker c.lookup-hit.new.worker
    c.in-Some.ensures.hit in
    record {
      forest = c.settle.ensures.settles.forest ∙ t.forest;
      seat =
          came_seat 0 c.args.f c.args.g c.args.self.now.variables c.args.self.now.counts.items
          c.args.self.now.worker c.lookup-hit.new.worker
          c.args.self.now.once c.recall_laws.ensures c.requires.f c.requires.g c.in-Some.name.number
          t c.settle.new.worker
          c.settle.ensures.settles;
      variables = refl;
      references = c.settle.ensures.references;
      before =
          came_before 0 c.args.f c.args.g c.args.self.now.variables c.args.self.now.counts.items
          c.args.self.now.worker c.lookup-hit.new.worker
          c.args.self.now.once c.recall_laws.ensures c.requires.f c.requires.g c.in-Some.name.number
          t c.settle.new.worker
          c.settle.ensures.settles;
      turns = spends_refl c.args.self.now.turns;
    }

pub returns-clause-names : goal.returns-clause-names
returns-clause-names c =
    let t = hits _ _ _ c.in-Some.name.number c.args.self.now.worker c.lookup-hit.new.worker
    c.in-Some.ensures.hit in
    record {
      forest = c.settle.ensures.settles.forest ∙ t.forest;
      seat =
          came_seat 0 c.args.f c.args.g c.args.self.now.variables c.args.self.now.counts.items
          c.args.self.now.worker c.lookup-hit.new.worker
          c.args.self.now.once c.recall_laws.ensures c.requires.f c.requires.g c.in-Some.name.number
          t c.settle.new.worker
          c.settle.ensures.settles;
      variables = refl;
      references = c.settle.ensures.references;
      before =
          came_before 0 c.args.f c.args.g c.args.self.now.variables c.args.self.now.counts.items
          c.args.self.now.worker c.lookup-hit.new.worker
          c.args.self.now.once c.recall_laws.ensures c.requires.f c.requires.g c.in-Some.name.number
          t c.settle.new.worker
          c.settle.ensures.settles;
      turns = spends_refl c.args.self.now.turns;
    }

pub returns-clause-ok : goal.returns-clause-ok
returns-clause-ok c =
    let hit : IsHit c.args.op c.args.f c.args.g c.in-Some.name.number c.args.self.now.worker
    c.lookup-hit.new.worker =
    subst (λ (p : ℕ). IsHit c.args.op p c.args.g c.in-Some.name.number c.args.self.now.worker
    c.lookup-hit.new.worker) c.reference-first.ensures
    (subst (λ (q : ℕ). IsHit c.args.op c.reference-first.result.number q c.in-Some.name.number
    c.args.self.now.worker c.lookup-hit.new.worker) c.reference-second.ensures
    c.in-Some.ensures.hit) in
    let t = hits _ _ _ c.in-Some.name.number c.args.self.now.worker c.lookup-hit.new.worker
    c.in-Some.ensures.hit in
    let b =
    came_before 0 c.args.f c.args.g c.args.self.now.variables c.args.self.now.counts.items
    c.args.self.now.worker c.lookup-hit.new.worker
    c.args.self.now.once c.recall_laws.ensures c.requires.f c.requires.g c.in-Some.name.number t
    c.settle.new.worker
    c.settle.ensures.settles in
    let there = c.in_ok-x.ensures.there in
    found_result c.args.self.now.variables c.args.self.now.counts.items c.args.op c.args.f c.args.g
    c.in-Some.name.number c.in_ok-x.x
    c.args.self.now.worker c.lookup-hit.new.worker c.settle.new.worker hit.result c.requires.f
    c.requires.g b there.0 there.1
    c.settle.ensures.known
