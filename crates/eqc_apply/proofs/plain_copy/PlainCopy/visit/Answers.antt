use Rattle.std.proofs.Common.{sym, ◌∙◌}
use Rattle.eqc_apply.specs.Copying.{name_of}
use Rattle.eqc_apply.proofs.Copying.{within_places, last_held, passed}
use Rattle.eqc_apply.proofs.plain_copy.PlainCopy.visit.Goals as goal

pub place-requires : goal.place-requires
place-requires c =
    rw c.name.ensures
    (within_places c.args.names.now c.args.self.now (name_of c.args.visit) c.recall_laws.ensures
    c.requires.faithful
    (last_held c.args.names.now c.args.self.now c.args.self.now.visits.items c.args.visit
    c.requires))

pub returns-in-Some-clause-advance : goal.returns-in-Some-clause-advance
returns-in-Some-clause-advance c =
    let is = rw c.name.ensures at c.place.ensures in
    passed c.args.names.now c.args.self.now c.args.visit c.requires (
      c.in-Some._number,
      sym is
          ∙ c.in-Some.is,
    )
