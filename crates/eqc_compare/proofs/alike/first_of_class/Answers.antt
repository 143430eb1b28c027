use Rattle.std.proofs.Common.{◌<◌, ◌≡◌, get_or, min, arith, ap, ◌∙◌}
use Rattle.std.proofs.lemmas.List.{get_or_default}
use Rattle.eqc_compare.proofs.AlikeLaws.{lesser, met_more}
use Rattle.eqc_compare.proofs.alike.first_of_class.Goals as goal

pub loop-k-preserved : goal.loop-k-preserved
loop-k-preserved c =
    let row = c.args.row.now in
    let firsts = c.loop-k.firsts.items in
    let k = c.loop-k.k in
    let inside : get_or row k 0 < c.args.count = c.requires.within k c.loop-k-test.true in
    let read : c.index.result.now ≡ get_or firsts (get_or row k 0) 0 = c.index.ensures
    ∙ get_or_default firsts (get_or row k 0) c.index.result.now 0 (omega (
      arith,
      inside,
      c.loop-k.invariant.classes,
    )) in
    let by = lesser (get_or firsts (get_or row k 0) 0) k c.min-first.result (c.min-first.ensures
    ∙ ap (λ m. min m k) read) in
    rw c.in_ok-push.ensures.items (met_more row firsts c.loop-k.places.items c.args.count k
    c.min-first.result (omega (arith, c.requires.few, c.loop-k-test.true)) inside by
    c.loop-k.invariant)
