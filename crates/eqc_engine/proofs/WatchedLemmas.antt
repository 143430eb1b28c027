-- Members that are watched.
use Rattle.std.proofs.Common.{List, map, subst, arith}
use Rattle.std.specs.List.{All}
use Rattle.std.proofs.lemmas.List.{get_or-map, length-map}

-- what holds of what is read of each holds of each by what is read
pub of_each : {X Y : Type 0} (P : X → Type 0) (f : Y → X) (ys : List Y) → All P (map f ys)
    → All (λ y. P (f y)) ys
of_each P f ys all k d lt = subst P (get_or-map f ys k d (f d) lt)
    (all k (f d) (omega (arith, length-map ys f, lt)))
