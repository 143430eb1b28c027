-- What an assignment of positions says of their variables.
use Rattle.std.proofs.Common.{◌≡◌, ℕ, zero, suc, ◌+◌, ◌<◌, Bool, false, nat_eq, List, [], ◌∷◌}
use Rattle.std.proofs.Common.{length, map, get_or, ap, refl, ◌∙◌, arith, suc-le-suc}
use Rattle.std.specs.List.{position_or_len}
use Rattle.std.proofs.lemmas.List.{get_or-map}
use Rattle.std.proofs.lemmas.Bool.{eq-eqb, ne_eqb}
use Rattle.eqc_tree.specs.Assigned.{assigned, AreDistinct}

-- what is left of variables is distinct too
pub distinct_rest : (v : ℕ) (vs : List ℕ) → AreDistinct (v ∷ vs) → AreDistinct vs
distinct_rest v vs distinct i j h k e =
    let same : suc i ≡ suc j = distinct (suc i) (suc j) (suc-le-suc h) (suc-le-suc k) e in
    omega arith

-- the first place of a variable is its own
place_of : (vs : List ℕ) (i : ℕ) → AreDistinct vs → i < length vs
    → position_or_len (λ w. nat_eq w (get_or vs i 0)) vs ≡ i
place_of [] i distinct h = absurd (omega arith)
place_of (v ∷ vs) zero distinct h = rw (eq-eqb v v refl) refl
place_of (v ∷ vs) (suc i) distinct h =
    let within : i < length vs = omega arith in
    let apart : nat_eq v (get_or vs i 0) ≡ false =
    ne_eqb v (get_or vs i 0) (λ e. let same : zero ≡ suc i = distinct zero (suc i) (omega arith) h e
    in omega arith) in
    rw apart (ap (λ k. 1 + k) (place_of vs i (distinct_rest v vs distinct) within) ∙ (omega arith))

-- the variable of a position has the value there
pub assigned_at : (vs : List ℕ) (values : List Bool) (i : ℕ) → AreDistinct vs → i < length vs
    → assigned vs values (get_or vs i 0) ≡ get_or values i false
unfolding assigned
assigned_at vs values i distinct h = ap (λ k. get_or values k false) (place_of vs i distinct h)

-- the values of the variables, assigned to them, are those that they had
pub assigned_values : (vs : List ℕ) (a : ℕ → Bool) (i : ℕ) → AreDistinct vs → i < length vs
    → assigned vs (map a vs) (get_or vs i 0) ≡ a (get_or vs i 0)
assigned_values vs a i distinct h = assigned_at vs (map a vs) i distinct h
    ∙ get_or-map a vs i 0 false h
