use Rattle.std.proofs.Common.{◌≡◌, map, take, get_or}
use Rattle.eqc_pair.proofs.matched_pair.pick.Given as goal

abbrev pub invariant-places : goal.invariant-places
invariant-places g l = (d : g.row.T.Denot) → l.all.items ≡ map (λ place. get_or l.values place d)
    (take l.place-index l.places)
