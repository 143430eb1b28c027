use Rattle.std.proofs.Common.{arith}
use Rattle.eqc_team_tests.proofs.Building.{few_both, takes_in}
use Rattle.eqc_team_tests.proofs.builders.Builder.absorb.Goals as goal

pub absorb-requires-clause-few : goal.absorb-requires-clause-few
absorb-requires-clause-few g c =
    let s = c.args.self.now in
    let o = c.args.other in
    few_both s.references.items o.references.items s.member o.member s.building.held o.building.held
    (omega arith) (omega arith)

pub invariant_of-self : goal.invariant_of-self
invariant_of-self g c =
    let s = c.args.self.now in
    let o = c.args.other in
    record {
      building =
          takes_in s.variables s.is_first s.references.items o.references.items
          c.keep_all.new.references.items s.member o.member
          c.absorb.new.self s.building o.building.held c.absorb.ensures.joins c.absorb.ensures.takes
          c.keep_all.ensures;
    }
