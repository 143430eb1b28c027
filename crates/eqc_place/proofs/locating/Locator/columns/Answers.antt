use Rattle.std.proofs.Common.{◌≡◌, ◌∙◌, ◌<◌, length, ap, get_or, arith}
use Rattle.eqc_build.specs.Steps.{uses_of}
use Rattle.eqc_place.proofs.PlaceLaws.{listing_more, column_of}
use Rattle.eqc_place.proofs.locating.Locator.columns.Goals as goal

pub loop-c-preserved : goal.loop-c-preserved
loop-c-preserved c =
    let uses : c.uses-uses.result ≡ uses_of c.args.self.now c.args.step =
    (let e = c.uses-uses.ensures in let v = c.self.view_is in cc) in
    let inside : c.loop-c.c < length (uses_of c.args.self.now c.args.step) =
    rw (← uses) (omega (arith, c.loop-c-test.true, c.len-c-end.ensures)) in
    let here : c.get-column.result ≡ get_or (uses_of c.args.self.now c.args.step) c.loop-c.c 0 =
    c.get-column.ensures ∙ ap (λ l. get_or l c.loop-c.c 0) uses in
    let there : c.get-column.result < length c.args.values.now =
    omega (arith, here, c.requires.uses c.loop-c.c 0 inside) in
    listing_more _ _ _ c.loop-c.c c.loop-c.columns.items c.push.new.self.items _ inside
    c.loop-c.invariant here
    (column_of _ _ c.args.values.now c.get-column.result c.partner-partner.result c.requires.values
    there c.partner-partner.ensures.partner c.partner-partner.ensures.apart)
    c.in_ok-push.ensures.items
