use Rattle.eqc_pair.proofs.PickLemmas.{picked_more, picked_all}
use Rattle.eqc_pair.proofs.matched_pair.pick.Goals as goal

pub places-preserved : goal.places-preserved
places-preserved g c =
    λ d.
    picked_more c.args.values.now c.args.places.now c.places.place-index d
    c.index-values-place.result c.places.all.items
    c.push.new.self.items c.places-test.true (c.requires c.places.place-index c.places-test.true)
    c.index-values-place.is
    (c.places.invariant d) c.in_ok-push.ensures.items

pub returns : goal.returns
returns g c = λ d. picked_all c.args.values.now c.args.places.now c.places.place-index d
    c.places.all.items c.places-test.false (c.places.invariant d)
