-- Literals that are made one from another in a graph that grows.
use Rattle.std.proofs.Common.{◌≡◌, ℕ, ◌+◌, ◌/◌, ◌<◌, ◌≤◌, Bool, true, false, not, ◌&&◌, ◌||◌, List}
use Rattle.std.proofs.Common.{length, refl, sym, ap, ◌∙◌, arith}
use Rattle.eqc_xag.specs.declared.node.Node.{Node}
use Rattle.eqc_xag.specs.Graph.{literal_value, differ, IsWithin, Extends}
use Rattle.eqc_xag.proofs.GraphLemmas.{extends_along}
use Rattle.eqc_sweep.specs.Sweeping.{HasValue}
use Rattle.eqc_sums.specs.Adding.{majority}

pub extends_both : (old between new : List Node) → Extends old between → Extends between new
    → Extends old new
extends_both = extends_along

-- a literal in a graph that grew
pub moved : (old new : List Node) (l : ℕ) (f : (ℕ → Bool) → Bool) → Extends old new
    → HasValue old l f → HasValue new l f
moved old new l f e h = record {
  within = omega (arith, h.within, e.longer);
  value =
      λ a. e.same l a h.within ∙ h.value a;
}

-- a literal that is there
pub there : (nodes : List Node) (l : ℕ) → IsWithin nodes l
    → HasValue nodes l (λ a. literal_value nodes a l)
there nodes l within = record { within = within; value = λ a. refl }

-- what a gate makes of literals whose values are known
pub made : (op : Bool → Bool → Bool) (old new : List Node) (l x y : ℕ) (f h : (ℕ → Bool) → Bool)
    → HasValue old x f → HasValue old y h
    → HasValue new l (λ a. op (literal_value old a x) (literal_value old a y))
    → HasValue new l (λ a. op (f a) (h a))
made op old new l x y f h is other has = record {
  within = has.within;
  value = λ a. has.value a ∙ (ap (λ (b : Bool). op b (literal_value old a y)) (is.value a)
      ∙ ap (λ (b : Bool). op (f a) b) (other.value a));
}

-- the complement of a literal
pub complement : (nodes : List Node) (l k : ℕ) (f : (ℕ → Bool) → Bool) → HasValue nodes l f
    → k / 2 ≡ l / 2
    → ((others : List Node) (a : ℕ → Bool) → literal_value others a k
    ≡ not (literal_value others a l)) → HasValue nodes k (λ a. not (f a))
complement nodes l k f has node value = record {
  within = omega (arith, has.within, node);
  value =
      λ a. value nodes a ∙ ap not (has.value a);
}

-- the same function in other words
pub said : (nodes : List Node) (l : ℕ) (f h : (ℕ → Bool) → Bool) → HasValue nodes l f
    → ((a : ℕ → Bool) → f a ≡ h a) → HasValue nodes l h
said nodes l f h has same = record { within = has.within; value = λ a. has.value a ∙ same a }

pub sum_value : (old between new : List Node) (x y z t s : ℕ) → IsWithin old z → Extends old between
    → HasValue between t (λ a. differ (literal_value old a x) (literal_value old a y))
    → HasValue new s (λ a. differ (literal_value between a t) (literal_value between a z))
    → HasValue new s (λ a. differ (differ (literal_value old a x) (literal_value old a y))
    (literal_value old a z))
sum_value old between new x y z t s within e first second =
    made differ between new s t z (λ a. differ (literal_value old a x) (literal_value old a y))
    (λ a. literal_value old a z)
    first (moved old between z (λ a. literal_value old a z) e (there old z within)) second

carry_same : (x y z : Bool) → not (not (x && y) && not (differ x y && z)) ≡ majority x y z
carry_same true true z = refl
carry_same true false true = refl
carry_same true false false = refl
carry_same false true true = refl
carry_same false true false = refl
carry_same false false z = refl

module _ (g0 g1 g2 g3 g4 : List Node) (x y z t u v nu nv n c : ℕ)
    (in_x : IsWithin g0 x) (in_y : IsWithin g0 y) (in_z : IsWithin g0 z)
    (e1 : Extends g0 g1) (e2 : Extends g1 g2) (e3 : Extends g2 g3) (e4 : Extends g3 g4)
    (h1 : HasValue g1 t (λ a. differ (literal_value g0 a x) (literal_value g0 a y)))
    (h2 : HasValue g2 u (λ a. literal_value g1 a x && literal_value g1 a y))
    (h3 : HasValue g3 v (λ a. literal_value g2 a t && literal_value g2 a z))
    (h4 : HasValue g4 n (λ a. literal_value g3 a nu && literal_value g3 a nv))
    (node_u : nu / 2 ≡ u / 2) (not_u : (others : List Node) (a : ℕ → Bool)
    → literal_value others a nu ≡ not (literal_value others a u))
    (node_v : nv / 2 ≡ v / 2) (not_v : (others : List Node) (a : ℕ → Bool)
    → literal_value others a nv ≡ not (literal_value others a v))
    (node_n : c / 2 ≡ n / 2) (not_n : (others : List Node) (a : ℕ → Bool) → literal_value others a c
    ≡ not (literal_value others a n)) where
  pub carry_value : HasValue g4 c (λ a. majority (literal_value g0 a x) (literal_value g0 a y)
      (literal_value g0 a z))
  carry_value =
      let fx : (ℕ → Bool) → Bool = λ a. literal_value g0 a x in
      let fy : (ℕ → Bool) → Bool = λ a. literal_value g0 a y in
      let fz : (ℕ → Bool) → Bool = λ a. literal_value g0 a z in
      let ft : (ℕ → Bool) → Bool = λ a. differ (literal_value g0 a x) (literal_value g0 a y) in
      let fu : (ℕ → Bool) → Bool = λ a. literal_value g0 a x && literal_value g0 a y in
      let fv : (ℕ → Bool) → Bool = λ a. differ (literal_value g0 a x) (literal_value g0 a y)
      && literal_value g0 a z in
      let e02 = extends_along g0 g1 g2 e1 e2 in
      let u_is = made ◌&&◌ g1 g2 u x y fx fy (moved g0 g1 x fx e1 (there g0 x in_x))
      (moved g0 g1 y fy e1 (there g0 y in_y)) h2 in
      let v_is = made ◌&&◌ g2 g3 v t z ft fz (moved g1 g2 t ft e2 h1)
      (moved g0 g2 z fz e02 (there g0 z in_z)) h3 in
      let nu_is = complement g3 u nu fu (moved g2 g3 u fu e3 u_is) node_u not_u in
      let nv_is = complement g3 v nv fv v_is node_v not_v in
      let n_is = made ◌&&◌ g3 g4 n nu nv (λ a. not (fu a)) (λ a. not (fv a)) nu_is nv_is h4 in
      let c_is = complement g4 n c (λ a. not (fu a) && not (fv a)) n_is node_n not_n in
      said g4 c (λ a. not (not (fu a) && not (fv a))) (λ a. majority (fx a) (fy a) (fz a)) c_is
      (λ a. carry_same (fx a) (fy a) (fz a))
