use Rattle.eqc_team_tests.proofs.Building.{makes_nothing, makes_one}
use Rattle.eqc_team_tests.proofs.builders.Builder.make.Goals as goal

pub invariant_of-self : goal.invariant_of-self
invariant_of-self g c =
    let s = c.has_place.new.self in
    record {
      building = makes_nothing s.variables s.is_first s.references.items s.member
          c.made.new.member s.building c.made.ensures.range c.made.ensures.same
          c.in_err-reference.ensures.stop;
    }

pub invariant_of-self-2 : goal.invariant_of-self-2
invariant_of-self-2 g c =
    let s = c.has_place.new.self in
    record {
      building =
          makes_one s.variables s.is_first s.references.items c.keep.new.references.items
          c.in_ok-reference.reference s.member c.made.new.member s.building c.made.ensures.range
          c.made.ensures.same
          c.in_ok-reference.ensures.ok c.keep.ensures;
    }
