use Rattle.std.proofs.Common.{List, sym, subst, true, arith}
use Rattle.eqc_apply.specs.declared.reference.Ref.{Ref}
use Rattle.eqc_team_tests.specs.Building.{IsBuilding}
use Rattle.eqc_team_tests.proofs.Building.{first_builds}
use Rattle.eqc_team_tests.proofs.builders.lone.Goals as goal

pub invariant_of-result : goal.invariant_of-result
invariant_of-result g c =
    let rest = c.remove.new.self.items in
    let member = c.remove.result in
    record {
      building =
          subst (λ (l : List Ref). IsBuilding c.args.vars true l member) (sym c.new.ensures.items)
          (first_builds c.args.vars c.args.nodes 64 1 c.in-Ok.members.items rest member
          c.in-Ok.ensures.team (omega arith) c.remove.ensures.value c.remove.ensures.items).0;
    }
