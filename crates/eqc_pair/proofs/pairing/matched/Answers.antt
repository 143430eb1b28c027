use Rattle.std.proofs.Common.{ap, ◌∙◌}
use Rattle.eqc_pair.proofs.PlaceLemmas.{places_as, same_places}
use Rattle.eqc_pair.proofs.pairing.matched.Goals as goal
use Rattle.eqc_netlist.proofs.NameSetLaws.{bytes_in}

pub returns : goal.returns
returns c =
    let back =
    places_as c.args.others.now c.args.names.now (bytes_in c.deref.result.now)
    (bytes_in c.deref-2.result.now) c.in_ok-places_among.field-0
    (ap bytes_in c.deref.ensures.value ∙ c.in_ok-others.ensures)
    (ap bytes_in c.deref-2.ensures.value ∙ c.in_ok-names.ensures)
    c.in_ok-places_among.ensures in
    same_places c.args.names.now c.args.others.now (bytes_in c.deref-3.result.now)
    (bytes_in c.deref-4.result.now) c.in_ok-places_among.field-0
    c.is_none.result c.places_among-2.result (ap bytes_in c.deref-3.ensures.value
    ∙ c.in_ok-names.ensures)
    (ap bytes_in c.deref-4.ensures.value ∙ c.in_ok-others.ensures) back c.is_none.ensures
    c.if-is_none.false c.places_among-2.ensures
