use Rattle.std.proofs.Common.{refl}
use Rattle.eqc_cache.proofs.Hits.{there, ready, knows_it, may_release_after, taken}
use Rattle.eqc_node_tests.proofs.arenas.taken.Goals as goal

pub up-requires-clause-ready : goal.up-requires-clause-ready
up-requires-clause-ready g c = ready c.args.worker.now c.confirm.new.self c.args.x c.requires.may
    c.requires.slot (c.if-not-confirm.ensures.yes refl)

pub up-requires-clause-there : goal.up-requires-clause-there
up-requires-clause-there g c = there c.args.worker.now c.confirm.new.self c.args.x c.requires.may
    c.requires.slot (c.if-not-confirm.ensures.yes refl)

pub up-requires-clause-known : goal.up-requires-clause-known
up-requires-clause-known g c = knows_it c.args.worker.now c.confirm.new.self c.args.x c.requires.may
    c.requires.slot (c.if-not-confirm.ensures.yes refl)

pub release-requires : goal.release-requires
release-requires g c = may_release_after c.args.worker.now c.confirm.new.self c.args.x
    c.requires.may c.requires.slot (c.if-not-confirm.ensures.yes refl) c.up.new.self
    c.in-Ok.ensures.step

pub returns-clause-taken : goal.returns-clause-taken
returns-clause-taken g c =
    taken c.args.worker.now c.confirm.new.self c.args.x c.requires.may c.requires.slot
    (c.if-not-confirm.ensures.yes refl) c.up.new.self c.in-Ok.ensures.step c.release.new.self
    c.release.ensures.step
