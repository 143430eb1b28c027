-- The structure of a signal is what its driver makes of the structures of the signals that it
-- depends on.
use Rattle.std.proofs.Common.{◌≡◌, ℕ, zero, suc, ◌<◌, List, [], length, get_or, refl, ◌∙◌, ap}
use Rattle.std.proofs.Common.{subst, arith}
use Rattle.eqc_netlist.specs.Graph.{FlatOf, IsFlat, DriverOf, input, tie, cover, driver_at}
use Rattle.eqc_netlist.specs.Graph.{dependencies}
use Rattle.eqc_netlist.proofs.EvaluationLaws.{dep_before, step_of}
use Rattle.eqc_strash.specs.Structure.{Structure, driver_structure, cover_structure, followed}
use Rattle.eqc_strash.specs.Structure.{structure_of}
use Rattle.eqc_strash.proofs.ShapeLaws.{map_alike}

-- a driver makes the same of structures that agree on what it depends on
pub driver_structure_alike : (rows : List (List (List ℕ))) (variables : List ℕ) (t u : ℕ
    → Structure) (driver : DriverOf)
    → ((c : ℕ) → c < length (dependencies driver) → t (get_or (dependencies driver) c 0)
    ≡ u (get_or (dependencies driver) c 0))
    → driver_structure rows variables t driver ≡ driver_structure rows variables u driver
driver_structure_alike rows variables t u (input position) same = refl
driver_structure_alike rows variables t u (tie other) same = same 0 (omega arith)
driver_structure_alike rows variables t u (cover columns r) same =
    ap (cover_structure (get_or rows r [])) (map_alike t u columns same)

-- after more rounds than there are steps up to a signal its structure stays
followed_still : (f : FlatOf) (variables : List ℕ) (m k n l : ℕ) → IsFlat f → k < m
    → k < length f.steps → k < n → k < l
    → followed f variables n (get_or f.steps k 0) ≡ followed f variables l (get_or f.steps k 0)
unfolding followed
followed_still f variables zero k n l h below inside first second = absurd (omega (arith, below))
followed_still f variables (suc m) k zero l h below inside first second =
    absurd (omega (arith, first))
followed_still f variables (suc m) k (suc n) zero h below inside first second =
    absurd (omega (arith, second))
followed_still f variables (suc m) k (suc n) (suc l) h below inside first second =
    driver_structure_alike f.rows variables (followed f variables n) (followed f variables l)
    (driver_at f (get_or f.steps k 0)) (λ c within.
    let w = dep_before f k c h inside within in
    let earlier = followed_still f variables m w.0 n l h (omega (arith, w.1, below))
    (omega (arith, w.1, inside)) (omega (arith, w.1, first)) (omega (arith, w.1, second)) in
    subst (λ s. followed f variables n s ≡ followed f variables l s) w.2 earlier)

one_round : (f : FlatOf) (variables : List ℕ) (s : ℕ)
    → followed f variables (suc (length f.drivers)) s ≡ driver_structure f.rows variables
    (structure_of f variables) (driver_at f s)
unfolding followed structure_of
one_round f variables s = refl

pub structure_follows : (f : FlatOf) (variables : List ℕ) (s : ℕ) → IsFlat f → s < length f.drivers
    → structure_of f variables s ≡ driver_structure f.rows variables (structure_of f variables)
    (driver_at f s)
unfolding structure_of
structure_follows f variables s h inside =
    let w = step_of f s h inside in
    let still = followed_still f variables (suc w.0) w.0 (length f.drivers) (suc (length f.drivers))
    h (omega arith) w.1 (omega (arith, w.1, h.step_count)) (omega (arith, w.1, h.step_count)) in
    subst (λ t. followed f variables (length f.drivers) t ≡ followed f variables
    (suc (length f.drivers)) t) w.2 still ∙ one_round f variables s
