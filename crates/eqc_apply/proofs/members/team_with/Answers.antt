use Rattle.std.proofs.Common.{◌≡◌, ◌+◌, ◌-◌, ℕ, List, arith, sym, subst, ◌∙◌}
use Rattle.std.specs.List.{All}
use Rattle.std.proofs.lemmas.List.Elements.{All-push, All-cons}
use Rattle.eqc_core.specs.declared.sizes.Sizes.{Sizes}
use Rattle.eqc_guard.specs.Rule.{sizes_of}
use Rattle.eqc_apply.specs.declared.applier.Applier.{Applier}
use Rattle.eqc_apply.specs.Teaming.{IsTeam, IsLead, forest_of, turns_in}
use Rattle.eqc_apply.proofs.Teams.{more_others, other_forest, is_team}
use Rattle.eqc_apply.proofs.members.team_with.Goals as goal

pub loop-preserved : goal.loop-preserved
loop-preserved c =
    let i = c.loop.invariant in
    let s : Sizes = sizes_of c.args.vars c.args.nodes c.args.cells c.args.workers in
    let l = c.in_ok-next_member.ensures.lead c.args.vars s c.loop.counter i.lead in
    let f = c.in_ok-next_member.ensures.forest in
    let t = c.in_ok-next_member.ensures.turns in
    let back : c.loop.counter + 1 - 1 ≡ c.loop.counter - 1 + 1 = let s = i.some in omega arith in
    let o = more_others c.args.vars s (c.loop.counter - 1) (forest_of c.next_member.new.lead)
    c.loop.members.items c.in_ok-next_member.field-0
    (other_forest c.args.vars s (c.loop.counter - 1) (forest_of c.loop.lead)
    (forest_of c.next_member.new.lead) c.loop.members.items f.0 i.others)
    l.1 (let some = i.some in omega (arith, l.2)) (f.1 ∙ sym f.0) l.3 in
    record {
      some = omega arith;
      lead = l.0;
      others = rw (c.in-Ok.ensures.items, back) o;
      turns = t.0 ∙ i.turns;
      allowed = rw (c.in-Ok.ensures.items) (All-push (λ (a : Applier). turns_in a
          ≡ c.args.allowance.turns) c.loop.members.items c.in_ok-next_member.field-0 i.allowed (t.1
          ∙ i.turns));
      count = let n = i.count in omega (arith, c.in-Ok.ensures.len);
    }

pub returns-clause-team : goal.returns-clause-team
returns-clause-team c =
    let i = c.loop.invariant in
    let all : c.loop.counter ≡ c.args.workers = let t = c.loop-test.false in let r = c.requires.2 in
    omega (arith, c.loop.auto.counter-end r.0) in
    let s : Sizes = sizes_of c.args.vars c.args.nodes c.args.cells c.args.workers in
    let lead : IsLead c.args.vars s c.args.workers c.loop.lead =
    subst (λ (g : ℕ). IsLead c.args.vars s g c.loop.lead) all i.lead in
    let back : c.args.workers ≡ c.loop.counter - 1 + 1 = let s = i.some in omega (arith, all) in
    subst (IsTeam c.args.vars c.args.nodes c.args.cells c.args.workers)
    (sym c.in-Ok-insert.ensures.items)
    (is_team c.args.vars c.args.nodes c.args.cells c.args.workers (c.loop.counter - 1) c.loop.lead
    c.loop.members.items back lead i.others)

pub returns-clause-turns : goal.returns-clause-turns
returns-clause-turns c =
    let i = c.loop.invariant in
    let P : Applier → Type 0 = λ a. turns_in a ≡ c.args.allowance.turns in
    subst (λ (l : List Applier). All P l) (sym c.in-Ok-insert.ensures.items) (All-cons P c.loop.lead
    c.loop.members.items i.turns i.allowed)
