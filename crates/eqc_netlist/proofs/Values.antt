-- The values of a flat netlist's signals: settled after as many rounds as there are signals.
use Rattle.std.proofs.Common.{◌≡◌, ℕ, zero, suc, Bool, true, List, [], ◌∷◌, length, map, refl, sym}
use Rattle.std.proofs.Common.{ap, subst}
use Rattle.std.specs.List.{list_all}
use Rattle.std.proofs.lemmas.Bool.{and_parts, true≢false}
use Rattle.eqc_netlist.specs.Cover.{cover_value}
use Rattle.eqc_netlist.specs.Dependency.{ends_within}
use Rattle.eqc_netlist.specs.Graph.{DriverOf, input, tie, cover, FlatOf, driver_at, dependencies}
use Rattle.eqc_netlist.specs.Graph.{driven, settled, value_of, IsFlat, FollowsDrivers}
use Rattle.eqc_netlist.proofs.Depth.{ordered_ends}
use Rattle.std.specs.Prelude.{slice_index_or}

-- two functions that agree where a test holds map a list on which it holds throughout to the same
-- list
map_agree : (test v w : ℕ → Bool) (xs : List ℕ) → ((x : ℕ) → test x ≡ true → v x ≡ w x)
    → list_all test xs ≡ true → map v xs ≡ map w xs
map_agree test v w [] h e = refl
map_agree test v w (x ∷ xs) h e =
    let both = and_parts (test x) (list_all test xs) e in
    rw (h x both.0, map_agree test v w xs h both.1) refl

-- what a driver makes depends on the values of its dependencies alone
pub driven_agree : (rows : List (List (List ℕ))) (a test v w : ℕ → Bool) (driver : DriverOf)
    → ((x : ℕ) → test x ≡ true → v x ≡ w x) → list_all test (dependencies driver) ≡ true
    → driven rows a v driver ≡ driven rows a w driver
driven_agree rows a test v w (input position) h e = refl
driven_agree rows a test v w (tie other) h e = h other ((and_parts (test other) true e).0)
driven_agree rows a test v w (cover columns r) h e =
    ap (λ vs. cover_value (slice_index_or rows r []) vs) (map_agree test v w columns h e)

-- a signal whose dependencies end within a depth has settled after as many rounds
pub settled_stays : (f : FlatOf) (a : ℕ → Bool) (d s : ℕ)
    → ends_within (λ x. dependencies (driver_at f x)) d s ≡ true
    → settled f a d s ≡ settled f a (suc d) s
unfolding settled
settled_stays f a zero s e = absurd (true≢false (sym e))
settled_stays f a (suc d) s e =
    driven_agree f.rows a (ends_within (λ x. dependencies (driver_at f x)) d) (settled f a d)
    (settled f a (suc d)) (driver_at f s) (λ x k. settled_stays f a d x k) e

-- every flat netlist's values follow its drivers
pub follows : (f : FlatOf) → IsFlat f → FollowsDrivers f
unfolding settled value_of
follows f h = λ a s inside.
    settled_stays f a (length f.drivers) s
    (let P : ℕ → Type 0 = λ n. ends_within (λ x. dependencies (driver_at f x)) n s ≡ true in
    subst P h.step_count (ordered_ends (λ x. dependencies (driver_at f x)) f.steps h.ordered s
    (h.each_step s inside)))
