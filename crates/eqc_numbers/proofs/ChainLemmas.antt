-- Spans that are made of two, and copies of what they make of carries.
use Rattle.std.proofs.Common.{◌≡◌, ℕ, ◌+◌, ◌*◌, ◌/◌, ◌%◌, ◌<◌, ◌≤◌, ◌==◌, Bool, true, false, not}
use Rattle.std.proofs.Common.{◌&&◌, List, length, set, Option, Some, None, IfSome, refl, sym, ◌∙◌}
use Rattle.std.proofs.Common.{ap, arith, eqb-true, eqb}
use Rattle.std.proofs.lemmas.Bool.{eqb-false}
use Rattle.eqc_xag.specs.declared.node.Node.{Node}
use Rattle.eqc_xag.specs.Graph.{literal_value, IsWithin, Extends}
use Rattle.eqc_sweep.specs.Sweeping.{HasValue}
use Rattle.eqc_sweep.specs.Copying.{AreCopies, IsCopyOf}
use Rattle.eqc_numbers.specs.Chains.{IsBoth, IsShared, IsSplit, IsPrefix}
use Rattle.eqc_sums.proofs.GateLemmas.{moved, there, made, complement, said}

-- the literals of a conjunction
pub both_of : (nodes : List Node) (l k x y : ℕ) (sign : Bool) → k ≡ l / 2 → sign ≡ (l % 2 == 1)
    → sign ≡ false
    → ((a : ℕ → Bool) → literal_value nodes a (2 * k) ≡ literal_value nodes a x
    && literal_value nodes a y) → IsBoth nodes l x y
both_of nodes l k x y sign at odd none value =
    let even : l % 2 < 1 + 0 = omega (arith, eqb-false (l % 2) 1 (sym odd ∙ none)) in
    let same : 2 * k ≡ l = omega (arith, at, even) in
    record { value = λ a. ap (literal_value nodes a) (sym same) ∙ value a }

and_turned : (x y : Bool) → x && y ≡ y && x
and_turned true true = refl
and_turned true false = refl
and_turned false true = refl
and_turned false false = refl

pub both_turned : (nodes : List Node) (l x y : ℕ) → IsBoth nodes l x y → IsBoth nodes l y x
both_turned nodes l x y is = record {
  value = λ a. is.value a
      ∙ and_turned (literal_value nodes a x) (literal_value nodes a y);
}

-- two conjunctions share a literal
pub shared_first : (nodes : List Node) (x y p q r s : ℕ) → p ≡ r → IsBoth nodes x p q
    → IsBoth nodes y r s → IsShared nodes x y p q s
shared_first nodes x y p q r s e first second = record { first = first; second = rw e second }

pub shared_crossed : (nodes : List Node) (x y p q r s : ℕ) → p ≡ s → IsBoth nodes x p q
    → IsBoth nodes y r s → IsShared nodes x y p q r
shared_crossed nodes x y p q r s e first second = shared_first nodes x y p q s r e first
    (both_turned nodes y r s second)

pub shared_back : (nodes : List Node) (x y p q r s : ℕ) → q ≡ r → IsBoth nodes x p q
    → IsBoth nodes y r s → IsShared nodes x y q p s
shared_back nodes x y p q r s e first second =
    shared_first nodes x y q p r s e (both_turned nodes x p q first) second

pub shared_second : (nodes : List Node) (x y p q r s : ℕ) → q ≡ s → IsBoth nodes x p q
    → IsBoth nodes y r s → IsShared nodes x y q p r
shared_second nodes x y p q r s e first second =
    shared_first nodes x y q p s r e (both_turned nodes x p q first) (both_turned nodes y r s
    second)

turned : (w n m : Bool) → n ≡ not w → n ≡ m → w ≡ not m
turned true n m e f = ap not (sym (sym f ∙ e))
turned false n m e f = ap not (sym (sym f ∙ e))

-- a span that is made of two
pub split_made : (nodes : List Node) (u v p w n b c d : ℕ) → IsBoth nodes u p w
    → ((others : List Node) (a : ℕ → Bool) → literal_value others a n
    ≡ not (literal_value others a w))
    → IsShared nodes n v b c d → IsSplit nodes u v p b c d
split_made nodes u v p w n b c d span spread is = record {
  span = λ a. span.value a ∙ ap (λ (z : Bool). literal_value nodes a p && z)
      (turned (literal_value nodes a w) (literal_value nodes a n) (literal_value nodes a b
      && literal_value nodes a c) (spread nodes a) (is.first.value a));
  passed = λ a. is.second.value a;
}

-- a conjunction as what a span makes of a carry
pub prefix_made : (nodes : List Node) (l k u w n v c : ℕ) → l ≡ 2 * k → IsBoth nodes l u w
    → ((others : List Node) (a : ℕ → Bool) → literal_value others a n
    ≡ not (literal_value others a w))
    → IsBoth nodes n v c → IsPrefix nodes k u v c
prefix_made nodes l k u w n v c at is spread both = record {
  value = λ a. ap (literal_value nodes a) (sym at) ∙ (is.value a
      ∙ ap (λ (z : Bool). literal_value nodes a u && z) (turned (literal_value nodes a w)
      (literal_value nodes a n) (literal_value nodes a v && literal_value nodes a c)
      (spread nodes a) (both.value a)));
}

-- literals stay copies in a graph that goes on
pub copies_stay : (old now new : List Node) (table : List (Option ℕ)) → Extends now new
    → AreCopies old now table → AreCopies old new table
copies_stay old now new table more are = record {
  each = λ k c is. (let h = are.each k c is in
      record {
        within = omega (arith, h.within, more.longer);
        value = λ a. more.same c a h.within
            ∙ h.value a;
      });
}

-- what a span makes of a carry, of copies of its literals
module _ (old g0 g1 g2 : List Node) (s p x u b t nt r : ℕ)
    (is_u : IsCopyOf old g0 s u) (is_b : IsCopyOf old g0 p b) (in_x : IsWithin g0 x)
    (e1 : Extends g0 g1)
    (h1 : HasValue g1 t (λ a. literal_value g0 a b && literal_value g0 a x))
    (node_t : nt / 2 ≡ t / 2) (not_t : (others : List Node) (a : ℕ → Bool)
    → literal_value others a nt ≡ not (literal_value others a t))
    (h2 : HasValue g2 r (λ a. literal_value g1 a u && literal_value g1 a nt)) where
  pub made_value : HasValue g2 r (λ a. literal_value old a s && not (literal_value old a p
      && literal_value g0 a x))
  made_value =
      let fs : (ℕ → Bool) → Bool = λ a. literal_value old a s in
      let fp : (ℕ → Bool) → Bool = λ a. literal_value old a p in
      let fx : (ℕ → Bool) → Bool = λ a. literal_value g0 a x in
      let t_is = made ◌&&◌ g0 g1 t b x fp fx is_b (there g0 x in_x) h1 in
      let nt_is = complement g1 t nt (λ a. fp a && fx a) t_is node_t not_t in
      made ◌&&◌ g1 g2 r u nt fs (λ a. not (fp a && fx a)) (moved g0 g1 u fs e1 is_u) nt_is h2

-- two spans in place of one
split_same : (p b c d x : Bool) → p && not (b && not (not c && not (d && x))) ≡ (p && not (b && c))
    && not ((b && d) && x)
split_same true true true d x = refl
split_same true true false true true = refl
split_same true true false true false = refl
split_same true true false false x = refl
split_same true false c d x = refl
split_same false b c d x = refl

module _ (old g0 g1 g2 : List Node) (u v p b c nc d x i ni r : ℕ) (split : IsSplit old u v p b c d)
    (not_c : (others : List Node) (a : ℕ → Bool) → literal_value others a nc
    ≡ not (literal_value others a c))
    (in_x : IsWithin g0 x) (e1 : Extends g0 g1)
    (lower : HasValue g1 i (λ a. literal_value old a nc && not (literal_value old a d
    && literal_value g0 a x)))
    (not_i : (others : List Node) (a : ℕ → Bool) → literal_value others a ni
    ≡ not (literal_value others a i))
    (upper : HasValue g2 r (λ a. literal_value old a p && not (literal_value old a b
    && literal_value g1 a ni))) where
  pub chain_value : HasValue g2 r (λ a. literal_value old a u && not (literal_value old a v
      && literal_value g0 a x))
  chain_value = said g2 r _ _ upper (λ a.
      let lv = literal_value old a in
      let inner = not_i g1 a ∙ ap not (lower.value a
      ∙ ap (λ (z : Bool). z && not (lv d && literal_value g0 a x)) (not_c old a)) in
      ap (λ (z : Bool). lv p && not (lv b && z)) inner
      ∙ (split_same (lv p) (lv b) (lv c) (lv d) (literal_value g0 a x)
      ∙ sym (ap (λ (z : Bool). z && not (lv v && literal_value g0 a x)) (split.span a)
      ∙ ap (λ (z : Bool). (lv p && not (lv b && lv c)) && not (z && literal_value g0 a x))
      (split.passed a))))

-- the copy of a node by what a span makes of a copied carry
pub prefix_value : (old g0 g1 : List Node) (k u v c x r : ℕ) → IsPrefix old k u v c
    → IsCopyOf old g0 c x
    → HasValue g1 r (λ a. literal_value old a u && not (literal_value old a v
    && literal_value g0 a x)) → IsCopyOf old g1 (2 * k) r
prefix_value old g0 g1 k u v c x r is copy has = record {
  within = has.within;
  value = λ a. has.value a
      ∙ (ap (λ (z : Bool). literal_value old a u && not (literal_value old a v && z)) (copy.value a)
      ∙ sym (is.value a));
}
