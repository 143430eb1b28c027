use Rattle.std.proofs.Common.{List, sym, subst, true, arith}
use Rattle.eqc_apply.specs.declared.reference.Ref.{Ref}
use Rattle.eqc_team_tests.specs.Building.{IsBuilding}
use Rattle.eqc_team_tests.proofs.Building.{first_builds}
use Rattle.eqc_team_tests.proofs.builders.lead_of.Goals as goal

pub invariant_of-builder : goal.invariant_of-builder
invariant_of-builder g c =
    let (nodes, cells, workers, team) = c.requires.team in
    let member = c.remove-member.result in
    record {
      building =
          subst (λ (l : List Ref). IsBuilding c.args.vars true l member) (sym c.new.ensures.items)
          (first_builds c.args.vars nodes cells workers c.args.members.items
          c.remove-member.new.self.items member team
          (omega (arith, c.requires.some)) c.remove-member.ensures.value
          c.remove-member.ensures.items).0;
    }

pub returns : goal.returns
returns g c =
    let (nodes, cells, workers, team) = c.requires.team in
    (first_builds c.args.vars nodes cells workers c.args.members.items
    c.remove-member.new.self.items c.remove-member.result team
    (omega (arith, c.requires.some)) c.remove-member.ensures.value c.remove-member.ensures.items).1
