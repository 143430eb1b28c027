-- Values depend on the inputs alone.
use Rattle.std.proofs.Common.{◌≡◌, ℕ, zero, suc, ◌<◌, Bool, true, false, List, [], ◌∷◌, length, map}
use Rattle.std.proofs.Common.{get_or, refl, ap, arith}
use Rattle.std.specs.List.{All}
use Rattle.std.proofs.lemmas.List.{get_or_default}
use Rattle.eqc_tree.specs.Operation.{operate}
use Rattle.eqc_tree.specs.declared.operation.Op.TheVariants.{Xor}
use Rattle.eqc_netlist.specs.Cover.{cover_value}
use Rattle.eqc_netlist.specs.Graph.{FlatOf, IsFlat, IsWithin, DriverOf, input, tie, cover}
use Rattle.eqc_netlist.specs.Graph.{driver_at, driven, settled, value_of}
use Rattle.eqc_compare.specs.Verdict.{is_different}

pub xor_differs : (x y : Bool) → is_different x y ≡ operate Xor x y
xor_differs true y = refl
xor_differs false y = refl

-- the values of columns that agree
map_agrees : (v w : ℕ → Bool) (n : ℕ) (columns : List ℕ) → ((x : ℕ) → x < n → v x ≡ w x)
    → ((k : ℕ) → k < length columns → get_or columns k 0 < n) → map v columns ≡ map w columns
map_agrees v w n [] same within = refl
map_agrees v w n (x ∷ columns) same within =
    let here : v x ≡ w x = same x (within 0 (omega arith)) in
    let others = map_agrees v w n columns same (λ k h. within (suc k) (omega arith)) in
    cc

driven_agrees : (f : FlatOf) (a b v w : ℕ → Bool) (driver : DriverOf)
    → ((p : ℕ) → p < length f.inputs → a p ≡ b p) →
    ((x : ℕ) → x < length f.drivers → v x ≡ w x) → IsWithin f driver → driven f.rows a v driver
    ≡ driven f.rows b w driver
driven_agrees f a b v w (input position) ab vw within = ab position within
driven_agrees f a b v w (tie other) ab vw within = vw other within
driven_agrees f a b v w (cover columns rows) ab vw within = ap (cover_value (get_or f.rows rows []))
    (map_agrees v w (length f.drivers) columns vw within.0)

settled_agrees : (f : FlatOf) (a b : ℕ → Bool) (rounds s : ℕ) → IsFlat f
    → ((p : ℕ) → p < length f.inputs → a p ≡ b p) → s < length f.drivers → settled f a rounds s
    ≡ settled f b rounds s
unfolding settled
settled_agrees f a b zero s h ab inside = refl
settled_agrees f a b (suc rounds) s h ab inside =
    driven_agrees f a b (settled f a rounds) (settled f b rounds) (driver_at f s) ab
    (λ x within. settled_agrees f a b rounds x h ab within) (h.drivers_within s inside)

-- values depend on the inputs alone
pub value_agrees : (f : FlatOf) (a b : ℕ → Bool) (s : ℕ) → IsFlat f → ((p : ℕ) → p < length f.inputs
    → a p ≡ b p) → s < length f.drivers → value_of f a s ≡ value_of f b s
unfolding value_of
value_agrees f a b s h ab inside = settled_agrees f a b (length f.drivers) s h ab inside

-- variables that are below a number
pub below_all : (variables : List ℕ) (n : ℕ) → ((p : ℕ) → p < length variables
    → get_or variables p 0 < n) → All (λ v. v < n) variables
below_all variables n below = λ k d h. rw (get_or_default variables k d 0 h) (below k h)
