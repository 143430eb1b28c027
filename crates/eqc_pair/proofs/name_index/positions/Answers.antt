use Rattle.std.proofs.Common.{◌∙◌, sym}
use Rattle.eqc_pair.proofs.NameLemmas.{place_more, place_missing, places_all}
use Rattle.eqc_pair.proofs.name_index.positions.Goals as goal

pub returns-in-None : goal.returns-in-None
returns-in-None c = place_missing c.args.set.now c.args.names.now c.names.name-index _
    c.names-test.true (sym c.position.ensures ∙ c.in-None.is)

pub names-preserved : goal.names-preserved
names-preserved c =
    let more =
    place_more c.args.set.now c.args.names.now c.names.name-index _ c.names.all.items
    c.push.new.self.items c.in-Some.position
    c.names-test.true c.names.invariant.each c.names.invariant.found (sym c.position.ensures
    ∙ c.in-Some.is)
    c.in_ok-push-in-Some.ensures.items in
    record { each = more.0; found = more.1 }

pub returns : goal.returns
returns c = places_all c.args.set.now c.args.names.now c.names.name-index c.names.all.items
    c.names-test.false c.names.invariant.each c.names.invariant.found
