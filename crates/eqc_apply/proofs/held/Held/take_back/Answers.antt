use Rattle.std.proofs.Common.{[], Option, Ok, IfSome, refl, ap, subst, ◌∙◌, arith}
use Rattle.eqc_guard.specs.declared.reference.Ref.{Ref}
use Rattle.eqc_apply.specs.Handing.{HasCome}
use Rattle.eqc_apply.proofs.Once.{few_held, has_after, changes_before, seat_of}
use Rattle.eqc_apply.proofs.Asked.{came_has, came_before, came_seat}
use Rattle.eqc_apply.proofs.Finding.{found_result}
use Rattle.eqc_plain.proofs.Spending.{spends_refl}
use Rattle.eqc_apply.proofs.held.Held.take_back.Goals as goal

pub take_out-requires-clause-few : goal.take_out-requires-clause-few
take_out-requires-clause-few g c = let f = few_held c.args.self.now.once c.recall_laws.ensures in
    omega arith

pub returns-in_err-name-clause-names : goal.returns-in_err-name-clause-names
returns-in_err-name-clause-names g c =
    let t = c.in_err-name.ensures.stop.0 in
    record {
      forest = t.forest;
      seat = seat_of t;
      variables = refl;
      references = λ y. refl;
      before =
          changes_before t;
      turns = spends_refl c.args.self.now.turns;
    }

pub returns-in_default-2-clause-names : goal.returns-in_default-2-clause-names
returns-in_default-2-clause-names g c =
    let t = c.take_out.ensures.undone (c.in_ok-name.was ∙ ap Ok c.in_default-2.is) in
    record {
      forest = t.forest;
      seat = seat_of t;
      variables = refl;
      references = λ y. refl;
      before =
          changes_before t;
      turns = spends_refl c.args.self.now.turns;
    }

pub invariant_of-self-2 : goal.invariant_of-self-2
invariant_of-self-2 g c =
    let come : HasCome c.args.op c.args.f c.args.g c.in-Some-2.name.number c.args.self.now.worker
    c.take_out.new.worker =
    subst (λ (o : Option Ref). IfSome o (λ r. HasCome c.args.op c.args.f c.args.g r.number
    c.args.self.now.worker c.take_out.new.worker)) c.in-Some-2.is c.in_ok-name.ensures.done in
    record {
      once =
          c.settle.ensures.has c.args.self.now.variables
          (came_has 0 c.args.f c.args.g c.args.self.now.variables c.args.self.now.counts.items
          c.args.self.now.worker c.take_out.new.worker
          c.args.self.now.once c.recall_laws.ensures c.requires.f c.requires.g
          c.in-Some-2.name.number come.came);
    }

pub returns-in_err-x-clause-names : goal.returns-in_err-x-clause-names
returns-in_err-x-clause-names g c =
    let come : HasCome c.args.op c.args.f c.args.g c.in-Some-2.name.number c.args.self.now.worker
    c.take_out.new.worker =
    subst (λ (o : Option Ref). IfSome o (λ r. HasCome c.args.op c.args.f c.args.g r.number
    c.args.self.now.worker c.take_out.new.worker)) c.in-Some-2.is c.in_ok-name.ensures.done in
    record {
      forest = c.settle.ensures.settles.forest ∙ come.came.forest;
      seat =
          came_seat 0 c.args.f c.args.g c.args.self.now.variables c.args.self.now.counts.items
          c.args.self.now.worker c.take_out.new.worker
          c.args.self.now.once c.recall_laws.ensures c.requires.f c.requires.g
          c.in-Some-2.name.number come.came c.settle.new.worker
          c.settle.ensures.settles;
      variables = refl;
      references = c.settle.ensures.references;
      before =
          came_before 0 c.args.f c.args.g c.args.self.now.variables c.args.self.now.counts.items
          c.args.self.now.worker c.take_out.new.worker
          c.args.self.now.once c.recall_laws.ensures c.requires.f c.requires.g
          c.in-Some-2.name.number come.came c.settle.new.worker
          c.settle.ensures.settles;
      turns = spends_refl c.args.self.now.turns;
    }

pub returns-clause-names : goal.returns-clause-names
returns-clause-names g c =
    let come : HasCome c.args.op c.args.f c.args.g c.in-Some-2.name.number c.args.self.now.worker
    c.take_out.new.worker =
    subst (λ (o : Option Ref). IfSome o (λ r. HasCome c.args.op c.args.f c.args.g r.number
    c.args.self.now.worker c.take_out.new.worker)) c.in-Some-2.is c.in_ok-name.ensures.done in
    record {
      forest = c.settle.ensures.settles.forest ∙ come.came.forest;
      seat =
          came_seat 0 c.args.f c.args.g c.args.self.now.variables c.args.self.now.counts.items
          c.args.self.now.worker c.take_out.new.worker
          c.args.self.now.once c.recall_laws.ensures c.requires.f c.requires.g
          c.in-Some-2.name.number come.came c.settle.new.worker
          c.settle.ensures.settles;
      variables = refl;
      references = c.settle.ensures.references;
      before =
          came_before 0 c.args.f c.args.g c.args.self.now.variables c.args.self.now.counts.items
          c.args.self.now.worker c.take_out.new.worker
          c.args.self.now.once c.recall_laws.ensures c.requires.f c.requires.g
          c.in-Some-2.name.number come.came c.settle.new.worker
          c.settle.ensures.settles;
      turns = spends_refl c.args.self.now.turns;
    }

pub returns-clause-ok : goal.returns-clause-ok
returns-clause-ok g c =
    let come : HasCome c.args.op c.args.f c.args.g c.in-Some-2.name.number c.args.self.now.worker
    c.take_out.new.worker =
    subst (λ (o : Option Ref). IfSome o (λ r. HasCome c.args.op c.args.f c.args.g r.number
    c.args.self.now.worker c.take_out.new.worker)) c.in-Some-2.is c.in_ok-name.ensures.done in
    let b =
    came_before 0 c.args.f c.args.g c.args.self.now.variables c.args.self.now.counts.items
    c.args.self.now.worker c.take_out.new.worker
    c.args.self.now.once c.recall_laws.ensures c.requires.f c.requires.g c.in-Some-2.name.number
    come.came c.settle.new.worker
    c.settle.ensures.settles in
    let there = c.in_ok-x.ensures.there in
    found_result c.args.self.now.variables c.args.self.now.counts.items c.args.op c.args.f c.args.g
    c.in-Some-2.name.number c.in_ok-x.x
    c.args.self.now.worker c.take_out.new.worker c.settle.new.worker come.function c.requires.f
    c.requires.g b there.0 there.1
    c.settle.ensures.known

pub invariant_of-self : goal.invariant_of-self
invariant_of-self g c = record {
  once = has_after c.in_err-name.ensures.stop.0 [] []
      c.args.self.now.variables c.args.self.now.counts.items (λ y. omega arith) c.args.self.now.once;
}

pub invariant_of-self-in_default-2 : goal.invariant_of-self-in_default-2
invariant_of-self-in_default-2 g c =
    let t = c.take_out.ensures.undone (c.in_ok-name.was ∙ ap Ok c.in_default-2.is) in
    record {
      once = has_after t [] [] c.args.self.now.variables c.args.self.now.counts.items
          (λ y. omega arith) c.args.self.now.once;
    }

pub settle-requires : goal.settle-requires
settle-requires g c =
    let come : HasCome c.args.op c.args.f c.args.g c.in-Some-2.name.number c.args.self.now.worker
    c.take_out.new.worker =
    subst (λ (o : Option Ref). IfSome o (λ r. HasCome c.args.op c.args.f c.args.g r.number
    c.args.self.now.worker c.take_out.new.worker)) c.in-Some-2.is c.in_ok-name.ensures.done in (
      c.args.self.now.variables,
      came_has 0 c.args.f c.args.g c.args.self.now.variables c.args.self.now.counts.items
          c.args.self.now.worker c.take_out.new.worker
          c.args.self.now.once c.recall_laws.ensures c.requires.f c.requires.g
          c.in-Some-2.name.number come.came,
    )
