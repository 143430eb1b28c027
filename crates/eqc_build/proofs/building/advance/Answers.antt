use Rattle.eqc_build.proofs.BuildLaws.{adds, advances}
use Rattle.eqc_build.proofs.DemandLaws.{made_one}
use Rattle.eqc_build.proofs.building.advance.Goals as goal

pub returns-clause-ok : goal.returns-clause-ok
returns-clause-ok g c =
    let entry = g.D.References.entry in
    let made = c.in_ok-reference.ensures in
    rw c.release.ensures.used
    (advances entry c.args.plan.now c.args.kept.now.until.items _ _ _ c.args.kept.now.table
    c.put.new.table
    c.release.new.kept.table c.count.new.counts.items c.args.step c.args.at
    (adds entry c.args.plan.now.steps.pair _ _ _ c.args.kept.now.table c.put.new.table c.args.step
    c.in_ok-reference.reference
    c.requires.within c.requires.kept.built (record {
      variables = made.variables;
      held = made.held;
      function = made.function;
    }) c.in_ok-put.ensures.ok)
    c.release.ensures.released)

pub returns-clause-counted : goal.returns-clause-counted
returns-clause-counted g c = rw c.release.ensures.used (made_one c.args.plan.now.steps c.args.step
    c.args.kept.now.used.items c.count.new.counts.items (rw c.uses.ensures at c.count.ensures))
