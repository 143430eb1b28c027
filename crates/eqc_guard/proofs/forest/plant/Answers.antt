use Rattle.std.proofs.Common.{◌∙◌}
use Rattle.eqc_guard.proofs.Beginning.{opening_held, beginner_seated}
use Rattle.eqc_guard.proofs.forest.plant.Goals as goal

pub new-requires : goal.new-requires
new-requires c =
    opening_held c.args.origin.sizes c.args.origin.literals c.requires.limits c.requires.names
    c.requires.variables c.as_slice.result.now
    c.in_ok-maps.maps.items (c.as_slice.ensures.value ∙ c.in_ok-words.ensures) c.in_ok-maps.ensures

pub seated-requires : goal.seated-requires
seated-requires c =
    let made = c.in-Ok.ensures.ok in
    let is =
    beginner_seated c.args.origin.sizes c.args.origin.literals c.requires.limits c.requires.names
    c.requires.variables c.as_slice.result.now
    c.in-Ok.table.shared.table_id c.requires.words c.requires.announced c.requires.workers
    (c.as_slice.ensures.value ∙ c.in_ok-words.ensures) made.0 in
    rw (c.in_ok-table.ensures.ok, made.2, made.4, made.5, c.from-held.ensures) is
