use Rattle.eqc_apply.specs.Extending.{Extends}
use Rattle.eqc_apply.specs.Copying.{IsOnWay, IsComing, toil}
use Rattle.eqc_apply.proofs.plain_copy.PlainCopy.copy.Given as goal

abbrev pub invariant-visits : goal.invariant-visits
invariant-visits l = record {
  names : Extends l.fn.names l.names;
  way : IsOnWay l.names l.self l.self.visits.items;
  coming : IsComing l.self.places.items l.self.visits.items l.f;
}

abbrev pub decreases-visits : goal.decreases-visits
decreases-visits l = toil l.names l.self.visits.items
