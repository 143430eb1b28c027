-- A split and a join of stored workers are those of their views.
use Rattle.std.proofs.Common.{◌≡◌, ◌≢◌, ℕ, zero, suc, ◌<◌, ◌≤◌, List, [], ◌∷◌, ◌++◌, length, set}
use Rattle.std.proofs.Common.{get_or, map, max, Bool, true, false, if◌then◌else◌, refl, sym, ap}
use Rattle.std.proofs.Common.{◌∙◌, arith, length-set, get_or-set_other}
use Rattle.std.proofs.lemmas.List.{map-set, length-map}
use Rattle.eqc_core.specs.declared.sizes.Sizes.{Sizes}
use Rattle.eqc_core.specs.declared.worker.Worker.{Worker}
use Rattle.eqc_core.specs.declared.machine.Machine.{Machine}
use Rattle.eqc_core.specs.View.{View, unused, spent, fresh, view_at, grown}
use Rattle.eqc_core.specs.Seating.{splitter, joined, join}
use Rattle.eqc_core.specs.Machine.{active_view, view_of, state_of, Turns}
use Rattle.eqc_core.proofs.Lists.{get_past, at_below}
use Rattle.eqc_core.proofs.Runs.{active_there}
use Rattle.eqc_core.proofs.Splitting.{length-grown, view_at-grown}
use Rattle.eqc_core.proofs.Stored.{turned, view_is}

set_swap : {A : Type 0} (l : List A) (i j : ℕ) (a b : A) → i ≢ j → set (set l i a) j b
    ≡ set (set l j b) i a
set_swap [] i j a b n = refl
set_swap (x ∷ xs) zero zero a b n = absurd (n refl)
set_swap (x ∷ xs) zero (suc j) a b n = refl
set_swap (x ∷ xs) (suc i) zero a b n = refl
set_swap (x ∷ xs) (suc i) (suc j) a b n =
    ap (λ (l : List _). x ∷ l) (set_swap xs i j a b (λ e. n (ap suc e)))

-- a list that is still short grows to the same one
pub grown_push : (vs : List View) (n : ℕ) → length vs < n → grown (vs ++ unused ∷ []) n ≡ grown vs n
grown_push [] zero lt = absurd (omega arith)
grown_push [] (suc n) lt = refl
grown_push (v ∷ vs) zero lt = absurd (omega arith)
grown_push (v ∷ vs) (suc n) lt = ap (λ (l : List View). v ∷ l) (grown_push vs n (omega arith))

-- nothing is added to a list that is long enough
pub grown_same : (vs : List View) (n : ℕ) → n ≤ length vs → grown vs n ≡ vs
grown_same [] zero le = refl
grown_same [] (suc n) le = absurd (omega arith)
grown_same (v ∷ vs) zero le = refl
grown_same (v ∷ vs) (suc n) le = ap (λ (l : List View). v ∷ l) (grown_same vs n (omega arith))

pub absent_is : (z : Sizes) (w : Worker) → w.active ≡ false → w.over ≡ false → view_of z w ≡ unused
absent_is z w off never = rw (off, never) refl

pub spent_is : (z : Sizes) (w : Worker) → w.active ≡ false → w.over ≡ true → view_of z w ≡ spent
spent_is z w off over = rw (off, over) refl

pub fresh_is : (z : Sizes) (w : Worker) (n : ℕ) → w.active ≡ true → active_view z w ≡ fresh z n
    → view_of z w ≡ fresh z n
fresh_is z w n on e = rw on e

pub join_views : (z : Sizes) (ws : List Worker) (id from : ℕ) (w o gone w' : Worker)
    → id < length ws → from < length ws → from ≢ id →
    o ≡ get_or ws from o → w ≡ get_or (set ws from gone) id w → gone.active ≡ false
    → gone.over ≡ true
    → (view_at (map (view_of z) ws) id).active ≡ true
    → Turns w w' (λ v. joined v from (view_of z o))
    → map (view_of z) (set (set ws from gone) id w') ≡ join (map (view_of z) ws) id
    (view_at (map (view_of z) ws) id) from
join_views z ws id from w o gone w' lt lf n eo ew off over on change =
    let vs : List View = map (view_of z) ws in
    let mid : map (view_of z) (set ws from gone) ≡ set vs from spent =
    map-set (view_of z) ws from gone ∙ ap (set vs from) (spent_is z gone off over) in
    let same : view_at (map (view_of z) (set ws from gone)) id ≡ view_at vs id =
    ap (λ (l : List View). view_at l id) mid ∙ get_or-set_other vs from id spent unused
    (λ e. n (sym e)) in
    let t = turned z (set ws from gone) id w w' (λ v. joined v from (view_of z o))
    (omega (arith, length-set ws from gone)) ew (ap (λ (v : View). v.active) same ∙ on) change
    in
    let other : view_of z o ≡ view_at vs from = sym (view_is z ws from o lf eo) in
    let put : set (map (view_of z) (set ws from gone)) id
    (joined (view_at (map (view_of z) (set ws from gone)) id) from (view_of z o)) ≡ set
    (set vs from spent) id (joined (view_at vs id) from (view_at vs from)) =
    (λ i. set (mid i) id (joined (same i) from (other i))) in
    t ∙ (put ∙ set_swap vs from id spent (joined (view_at vs id) from (view_at vs from)) n)

pub split_views : (z : Sizes) (ws grown_ws : List Worker) (id to : ℕ) (w new w' : Worker)
    → id < length ws → to ≢ id →
    map (view_of z) grown_ws ≡ grown (map (view_of z) ws) (suc to) → view_of z new ≡ fresh z to
    → w ≡ get_or (set grown_ws to new) id w
    → (view_at (map (view_of z) ws) id).active ≡ true → Turns w w' (λ v. splitter v to)
    → map (view_of z) (set (set grown_ws to new) id w')
    ≡ set (set (grown (map (view_of z) ws) (suc to)) to (fresh z to)) id
    (splitter (view_at (map (view_of z) ws) id) to)
split_views z ws grown_ws id to w new w' lt n eg en ew on change =
    let vs : List View = map (view_of z) ws in
    let mid : map (view_of z) (set grown_ws to new) ≡ set (grown vs (suc to)) to (fresh z to) =
    map-set (view_of z) grown_ws to new ∙ (λ i. set (eg i) to (en i)) in
    let same : view_at (map (view_of z) (set grown_ws to new)) id ≡ view_at vs id =
    ap (λ (l : List View). view_at l id) mid
    ∙ (get_or-set_other (grown vs (suc to)) to id (fresh z to) unused (λ e. n (sym e))
    ∙ view_at-grown vs (suc to) id) in
    let long : length grown_ws ≡ max (length ws) (suc to) = sym (length-map grown_ws (view_of z))
    ∙ (ap length eg ∙ (length-grown vs (suc to)
    ∙ ap (λ (k : ℕ). max k (suc to)) (length-map ws (view_of z)))) in
    let t = turned z (set grown_ws to new) id w w' (λ v. splitter v to)
    (omega (arith, length-set grown_ws to new)) ew (ap (λ (v : View). v.active) same
    ∙ on) change in
    t ∙ (λ i. set (mid i) id (splitter (same i) to))

pub grown_long : (z : Sizes) (ws grown_ws : List Worker) (n : ℕ) → map (view_of z) grown_ws
    ≡ grown (map (view_of z) ws) n → length grown_ws ≡ max (length ws) n
grown_long z ws grown_ws n eg = sym (length-map grown_ws (view_of z))
    ∙ (ap length eg ∙ (length-grown (map (view_of z) ws) n
    ∙ ap (λ (k : ℕ). max k n) (length-map ws (view_of z))))

-- an active view's worker is stored
pub stored_there : (m : Machine) (id : ℕ) → (view_at (state_of m).views id).active ≡ true
    → id < length m.workers.items
stored_there m id on =
    let b = at_below (state_of m).views id (view_at (state_of m).views id)
    (active_there (state_of m).views id on) in let l =
    length-map m.workers.items (view_of m.sizes) in omega arith

-- a number without a stored worker has an unused view
pub beyond_stored : (m : Machine) (id : ℕ) → length m.workers.items ≤ id
    → view_at (state_of m).views id ≡ unused
beyond_stored m id past = let l = length-map m.workers.items (view_of m.sizes) in
    get_past (state_of m).views id unused (omega arith)

-- a worker that is not active owns nothing
pub owns_nothing : (m : Machine) (id : ℕ) (w : Worker) → id < length m.workers.items
    → w ≡ get_or m.workers.items id w → w.active ≡ false →
    ((view_at (state_of m).views id).held ≡ []) × ((view_at (state_of m).views id).retired ≡ [])
owns_nothing m id w lt e off = go w.over (view_is m.sizes m.workers.items id w lt e ∙ rw off refl)
  where
    go : (b : Bool) → view_at (state_of m).views id ≡ (if b then spent else unused)
        → ((view_at (state_of m).views id).held ≡ []) × ((view_at (state_of m).views id).retired
        ≡ [])
    go true is = (ap (λ (v : View). v.held) is, ap (λ (v : View). v.retired) is)
    go false is = (ap (λ (v : View). v.held) is, ap (λ (v : View). v.retired) is)
