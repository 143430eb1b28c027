use Rattle.std.proofs.Common.{Option, IfSome, List, sym, subst, false}
use Rattle.std.proofs.lemmas.List.Elements.{All-pop}
use Rattle.eqc_apply.specs.declared.applier.Applier.{Applier}
use Rattle.eqc_apply.specs.declared.reference.Ref.{Ref}
use Rattle.eqc_team_tests.specs.Building.{IsBeside, IsBuilding}
use Rattle.eqc_team_tests.proofs.Building.{next_builds}
use Rattle.eqc_team_tests.proofs.builders.next.Goals as goal

pub returns-clause-waiting : goal.returns-clause-waiting
returns-clause-waiting g c = (All-pop (IsBeside c.args.first.now.variables c.args.first.now.member)
    c.args.waiting.now.items c.pop.new.self.items c.pop.result c.pop.ensures.items c.requires).0

pub invariant_of-result : goal.invariant_of-result
invariant_of-result g c =
    let v = c.args.first.now.variables in
    let a = c.args.first.now.member in
    let b = c.in-Some.member in
    let p : IsBeside v a b =
    subst (λ (r : Option Applier). IfSome r (IsBeside v a)) c.in-Some.is (All-pop (IsBeside v a)
    c.args.waiting.now.items c.pop.new.self.items c.pop.result c.pop.ensures.items c.requires).1
    in
    record {
      building = subst (λ (l : List Ref). IsBuilding v false l b) (sym c.new.ensures.items)
          (next_builds v a b p);
    }
