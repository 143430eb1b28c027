-- What polynomials come to.
use Rattle.std.proofs.Common.{◌≡◌, ℕ, zero, suc, ◌+◌, ◌-◌, ◌*◌, ◌/◌, ◌%◌, ◌^◌, ◌<◌, ◌≤◌, ◌==◌, Bool}
use Rattle.std.proofs.Common.{true, false, not, ◌&&◌, List, [], ◌∷◌, ◌++◌, length, get_or, take}
use Rattle.std.proofs.Common.{refl, sym, ◌∙◌, ap, subst, arith}
use Rattle.std.specs.List.{All}
use Rattle.std.proofs.Math.ListN.{set}
use Rattle.std.proofs.lemmas.List.{take_all, get_or_default}
use Rattle.std.proofs.lemmas.List.Sums.{sum_by_more, sum_by-set, sum_by-cons}
use Rattle.std.proofs.lemmas.Nat.{mul-mod_first, mul-mod_second, mul-mod}
use Rattle.eqc_xag.specs.declared.node.Node.{Node}
use Rattle.eqc_xag.specs.Graph.{literal_value, differ, IsWithin, IsGraph, Extends}
use Rattle.eqc_xag.proofs.GraphLemmas.{extends_itself, extends_along, value_of_one}
use Rattle.eqc_xag.proofs.LiteralLemmas.{value_before}
use Rattle.eqc_sums.specs.declared.term.Term.{Term}
use Rattle.eqc_sums.specs.Forms.{bit, terms_sum, HasSum}
use Rattle.eqc_sums.specs.Adding.{gate_number, IsGateOf}
use Rattle.eqc_sums.proofs.FormLemmas.{not_not}
use Rattle.eqc_sums.proofs.GateLemmas.{moved, there, said}
use Rattle.eqc_sums.proofs.StepLemmas.{has_none, has_cons, has_same, has_push, sum_same, sum_before}

abbrev Number : Type 0
Number = (ℕ → Bool) → ℕ

-- a term is added to the one of its literal
put_at : (S T f w : ℕ) (b : Bool) → T + f * bit b ≡ S + ((f + w) % 2 ^ 128) * bit b
    → T % 2 ^ 128 ≡ (S + w * bit b) % 2 ^ 128
put_at S T f w true h = omega (arith, h)
put_at S T f w false h = omega (arith, h)

plus_mod : (S H p : ℕ) → S % 2 ^ 128 ≡ H % 2 ^ 128 → (S + p) % 2 ^ 128 ≡ (H + p) % 2 ^ 128
plus_mod S H p h = omega (arith, h)

within_set : (nodes : List Node) (ts : List Term) (k : ℕ) (u : Term) → IsWithin nodes u.literal
    → All (λ t. IsWithin nodes t.literal) ts → All (λ t. IsWithin nodes t.literal) (set ts k u)
within_set nodes [] k u one all i d inside = absurd (omega (arith, inside))
within_set nodes (t ∷ ts) zero u one all zero d inside = one
within_set nodes (t ∷ ts) zero u one all (suc i) d inside = all (suc i) d inside
within_set nodes (t ∷ ts) (suc k) u one all zero d inside = all zero d (omega arith)
within_set nodes (t ∷ ts) (suc k) u one all (suc i) d inside =
    within_set nodes ts k u one (λ j e low. all (suc j) e (omega (arith, low))) i d
    (omega (arith, inside))

pub put_there : (nodes : List Node) (ts us : List Term) (k l w : ℕ) (old : Term) (h : Number)
    → k < length ts → old ≡ get_or ts k old → old.literal ≡ l
    → us ≡ set ts k (record { literal = old.literal; factor = (old.factor + w) % 2 ^ 128 })
    → IsWithin nodes l → HasSum nodes ts h
    → HasSum nodes us (λ a. h a + w * bit (literal_value nodes a l))
put_there nodes ts us k l w old h inside read same put in_l has =
    let u : Term = record { literal = old.literal; factor = (old.factor + w) % 2 ^ 128 } in
    let in_u : IsWithin nodes old.literal = omega (arith, in_l, same) in
    subst (λ (all : List Term). HasSum nodes all (λ a. h a + w * bit (literal_value nodes a l)))
    (sym put) (record {
      within = within_set nodes ts k u in_u has.within;
      sum = λ a.
          let one : Term → ℕ = λ t. t.factor * bit (literal_value nodes a t.literal) in
          let moved = sum_by-set one ts k u old inside in
          let there_is = ap (λ (t : Term). terms_sum (literal_value nodes a) (set ts k u)
          + t.factor * bit (literal_value nodes a t.literal)) read in
          put_at (terms_sum (literal_value nodes a) ts) (terms_sum (literal_value nodes a)
          (set ts k u)) old.factor w (literal_value nodes a old.literal) (there_is ∙ moved)
          ∙ (ap (λ (m : ℕ). (terms_sum (literal_value nodes a) ts
          + w * bit (literal_value nodes a m)) % 2 ^ 128) same
          ∙ plus_mod (terms_sum (literal_value nodes a) ts) (h a)
          (w * bit (literal_value nodes a l)) (has.sum a));
    })

-- terms are put one by one
scaled_at : (H w f S T : ℕ) (b : Bool) → T ≡ S + f * bit b
    → ((H + w * S) + ((w * f) % 2 ^ 128) * bit b) % 2 ^ 128 ≡ (H + w * T) % 2 ^ 128
scaled_at H w f S T true more = omega (arith, ap (λ (n : ℕ). w * n) more)
scaled_at H w f S T false more = omega (arith, ap (λ (n : ℕ). w * n) more)

pub put_more : (nodes : List Node) (w i : ℕ) (ts outs : List Term) (t : Term) (h : Number)
    → i < length ts → t ≡ get_or ts i t
    → HasSum nodes outs (λ a. (h a + w * terms_sum (literal_value nodes a) (take i ts))
    + ((w * t.factor) % 2 ^ 128) * bit (literal_value nodes a t.literal))
    → HasSum nodes outs (λ a. h a + w * terms_sum (literal_value nodes a) (take (i + 1) ts))
put_more nodes w i ts outs t h inside read has =
    has_same nodes outs (λ a. (h a + w * terms_sum (literal_value nodes a) (take i ts))
    + ((w * t.factor) % 2 ^ 128) * bit (literal_value nodes a t.literal))
    (λ a. h a + w * terms_sum (literal_value nodes a) (take (i + 1) ts)) has
    (λ a.
    let one : Term → ℕ = λ u. u.factor * bit (literal_value nodes a u.literal) in
    scaled_at (h a) w t.factor (terms_sum (literal_value nodes a) (take i ts))
    (terms_sum (literal_value nodes a) (take (i + 1) ts)) (literal_value nodes a t.literal)
    (sum_by_more one ts i t inside ∙ ap (λ (u : Term). terms_sum (literal_value nodes a) (take i ts)
    + u.factor * bit (literal_value nodes a u.literal)) (sym read)))

pub put_none : (nodes : List Node) (w : ℕ) (ts out : List Term) (h : Number) → HasSum nodes out h
    → HasSum nodes out (λ a. h a + w * terms_sum (literal_value nodes a) (take 0 ts))
put_none nodes w ts out h has =
    has_same nodes out h (λ a. h a + w * terms_sum (literal_value nodes a) (take 0 ts)) has
    (λ a. omega arith)

-- a product, one term of the first polynomial after another
product_at : (H w f S T U : ℕ) (b : Bool) → T ≡ S + f * bit b
    → ((H + w * (S * U)) + (((w * f) % 2 ^ 128) * bit b) * U) % 2 ^ 128 ≡ (H + w * (T * U)) % 2 ^
    128
product_at H w f S T U true more = omega (
  arith,
  ap (λ (n : ℕ). w * (n * U)) more,
  mul-mod_first (w * f) U (2 ^ 128),
)
product_at H w f S T U false more = omega (arith, ap (λ (n : ℕ). w * (n * U)) more)

pub multiply_more : (old between new : List Node) (w i : ℕ) (ts us outs : List Term) (t : Term)
    (h : Number) → Extends old between
    → All (λ u. IsWithin old u.literal) ts → All (λ u. IsWithin old u.literal) us → i < length ts
    → t ≡ get_or ts i t
    → HasSum new outs (λ a. (h a + w * (terms_sum (literal_value old a) (take i ts) * terms_sum
    (literal_value old a) us))
    + (((w * t.factor) % 2 ^ 128) * bit (literal_value between a t.literal)) * terms_sum
    (literal_value between a) us)
    → HasSum new outs (λ a. h a + w * (terms_sum (literal_value old a) (take (i + 1) ts) * terms_sum
    (literal_value old a) us))
multiply_more old between new w i ts us outs t h e first second inside read has =
    let in_t : IsWithin old t.literal = subst (λ (u : Term). IsWithin old u.literal) (sym read)
    (first i t inside) in
    has_same new outs (λ a. (h a + w * (terms_sum (literal_value old a) (take i ts) * terms_sum
    (literal_value old a) us))
    + (((w * t.factor) % 2 ^ 128) * bit (literal_value between a t.literal)) * terms_sum
    (literal_value between a) us)
    (λ a. h a + w * (terms_sum (literal_value old a) (take (i + 1) ts) * terms_sum
    (literal_value old a) us)) has
    (λ a.
    let one : Term → ℕ = λ u. u.factor * bit (literal_value old a u.literal) in
    let base = h a + w * (terms_sum (literal_value old a) (take i ts) * terms_sum
    (literal_value old a) us) in
    ap (λ (b : Bool). (base + (((w * t.factor) % 2 ^ 128) * bit b) * terms_sum
    (literal_value between a) us) % 2 ^ 128) (e.same t.literal a in_t)
    ∙ (ap (λ (n : ℕ). (base + (((w * t.factor) % 2 ^ 128) * bit (literal_value old a t.literal)) *
    n) % 2 ^ 128) (sum_same old between us a e second)
    ∙ product_at (h a) w t.factor (terms_sum (literal_value old a) (take i ts))
    (terms_sum (literal_value old a) (take (i + 1) ts)) (terms_sum (literal_value old a) us)
    (literal_value old a t.literal)
    (sum_by_more one ts i t inside ∙ ap (λ (u : Term). terms_sum (literal_value old a) (take i ts)
    + u.factor * bit (literal_value old a u.literal)) (sym read))))

pub multiply_none : (nodes : List Node) (w : ℕ) (ts us out : List Term) (h : Number)
    → HasSum nodes out h
    → HasSum nodes out (λ a. h a + w * (terms_sum (literal_value nodes a) (take 0 ts) * terms_sum
    (literal_value nodes a) us))
multiply_none nodes w ts us out h has =
    has_same nodes out h (λ a. h a + w * (terms_sum (literal_value nodes a) (take 0 ts) * terms_sum
    (literal_value nodes a) us)) has (λ a. omega arith)

abbrev Value : Type 0
Value = (ℕ → Bool) → Bool

wrong : false ≡ true → ⊥
wrong e = cc

-- gates of polynomials
and_at : (is : Bool) (S T : ℕ) → is ≡ true → (0 + 1 * (S * T)) % 2 ^ 128 ≡ gate_number is S T % 2 ^
    128
and_at true S T e = omega arith
and_at false S T e = absurd (wrong e)

xor_at : (is : Bool) (S T : ℕ) → is ≡ false → (((0 + 1 * S) + 1 * T) + (2 ^ 128 - 2) * (S * T)) % 2
    ^ 128 ≡ gate_number is S T % 2 ^ 128
xor_at true S T e = absurd (wrong (sym e))
xor_at false S T e = omega arith

pub combined_and : (old new : List Node) (is : Bool) (first second empty outs : List Term)
    → is ≡ true → empty ≡ []
    → ((h : Number) → HasSum old empty h
    → HasSum new outs (λ a. h a + 1 * (terms_sum (literal_value old a) first * terms_sum
    (literal_value old a) second)))
    → HasSum new outs (λ a. gate_number is (terms_sum (literal_value old a) first)
    (terms_sum (literal_value old a) second))
combined_and old new is first second empty outs e none makes =
    let begun = subst (λ (us : List Term). HasSum old us (λ a. 0)) (sym none) (has_none old) in
    has_same new outs (λ a. 0 + 1 * (terms_sum (literal_value old a) first * terms_sum
    (literal_value old a) second)) (λ a. gate_number is (terms_sum (literal_value old a) first)
    (terms_sum (literal_value old a) second))
    (makes (λ a. 0) begun) (λ a. and_at is (terms_sum (literal_value old a) first)
    (terms_sum (literal_value old a) second) e)

pub combined_xor : (old new : List Node) (is : Bool) (first second empty one two outs : List Term)
    → is ≡ false → empty ≡ []
    → All (λ t. IsWithin old t.literal) first → All (λ t. IsWithin old t.literal) second
    → ((h : Number) → HasSum old empty h → All (λ t. IsWithin old t.literal) first
    → HasSum old one (λ a. h a + 1 * terms_sum (literal_value old a) first))
    → ((h : Number) → HasSum old one h → All (λ t. IsWithin old t.literal) second
    → HasSum old two (λ a. h a + 1 * terms_sum (literal_value old a) second))
    → ((h : Number) → HasSum old two h
    → HasSum new outs (λ a. h a + (2 ^ 128 - 2) * (terms_sum (literal_value old a) first *
    terms_sum (literal_value old a) second)))
    → HasSum new outs (λ a. gate_number is (terms_sum (literal_value old a) first)
    (terms_sum (literal_value old a) second))
combined_xor old new is first second empty one two outs e none in_first in_second puts adds makes =
    let begun = subst (λ (us : List Term). HasSum old us (λ a. 0)) (sym none) (has_none old) in
    let S : Number = λ a. terms_sum (literal_value old a) first in
    let T : Number = λ a. terms_sum (literal_value old a) second in
    has_same new outs (λ a. ((0 + 1 * S a) + 1 * T a) + (2 ^ 128 - 2) * (S a * T a))
    (λ a. gate_number is (S a) (T a))
    (makes (λ a. (0 + 1 * S a) + 1 * T a) (adds (λ a. 0 + 1 * S a) (puts (λ a. 0) begun in_first)
    in_second)) (λ a. xor_at is (S a) (T a) e)

-- complements
opposite_at : (S : ℕ) (sign b : Bool) → sign ≡ true → S % 2 ^ 128 ≡ bit b % 2 ^ 128
    → ((0 + 1 * 1) + (2 ^ 128 - 1) * S) % 2 ^ 128 ≡ bit (differ sign b) % 2 ^ 128
opposite_at S true true e h = omega (arith, h)
opposite_at S true false e h = omega (arith, h)
opposite_at S false b e h = absurd (wrong e)

pub negated_sum : (nodes : List Node) (sign : Bool) (ts empty one outs : List Term) (h : Value)
    → IsGraph nodes → sign ≡ true → empty ≡ []
    → one ≡ empty ++ record { literal = 1; factor = 1 } ∷ [] → HasSum nodes ts (λ a. bit (h a))
    → (us : List Term) → us ≡ ts
    → ((g : Number) → HasSum nodes one g → All (λ t. IsWithin nodes t.literal) us
    → HasSum nodes outs (λ a. g a + (2 ^ 128 - 1) * terms_sum (literal_value nodes a) us))
    → HasSum nodes outs (λ a. bit (differ sign (h a)))
negated_sum nodes sign ts empty one outs h graph e none pushed has us read adds =
    let begun = subst (λ (vs : List Term). HasSum nodes vs (λ a. 0)) (sym none) (has_none nodes) in
    let always : Value = λ a. true in
    let first = has_push nodes empty one 1 1 always (λ a. 0) pushed begun (record {
      within =
          omega (arith, graph.some);
      value = λ a. value_of_one nodes a graph;
    }) in
    let within = subst (λ (vs : List Term). All (λ t. IsWithin nodes t.literal) vs) (sym read)
    has.within in
    has_same nodes outs (λ a. (0 + 1 * 1) + (2 ^ 128 - 1) * terms_sum (literal_value nodes a) us)
    (λ a. bit (differ sign (h a))) (adds (λ a. 0 + 1 * 1) first within)
    (λ a.
    opposite_at (terms_sum (literal_value nodes a) us) sign (h a) e
    (ap (λ (vs : List Term). terms_sum (literal_value nodes a) vs % 2 ^ 128) read ∙ has.sum a))

-- an odd literal is the complement of the one before it
pub odd_sum : (nodes : List Node) (l m : ℕ) (ts us : List Term) → (l % 2 ≡ 0 → ⊥) → m ≡ l - 1
    → IsWithin nodes l
    → ((others : List Node) → IsWithin others m
    → HasSum others ts (λ a. bit (literal_value others a m)))
    → ((h : Value) → HasSum nodes ts (λ a. bit (h a))
    → HasSum nodes us (λ a. bit (differ true (h a))))
    → HasSum nodes us (λ a. bit (literal_value nodes a l))
odd_sum nodes l m ts us odd before in_l alone negates =
    let in_m : IsWithin nodes m = omega (arith, before, in_l, odd) in
    has_same nodes us (λ a. bit (differ true (literal_value nodes a m)))
    (λ a. bit (literal_value nodes a l)) (negates (λ a. literal_value nodes a m)
    (alone nodes in_m))
    (λ a.
    ap (λ (b : Bool). bit b % 2 ^ 128)
    (ap (λ (k : ℕ). not (literal_value nodes a k)) before ∙ (ap not (value_before nodes a l odd)
    ∙ not_not (literal_value nodes a l))))

-- gates of a graph
and_number : (x y : Bool) → bit (x && y) % 2 ^ 128 ≡ gate_number true (bit x) (bit y) % 2 ^ 128
and_number true true = refl
and_number true false = refl
and_number false true = refl
and_number false false = refl

xor_number : (x y : Bool) → bit (differ x y) % 2 ^ 128 ≡ gate_number false (bit x) (bit y) % 2 ^ 128
xor_number true true = refl
xor_number true false = refl
xor_number false true = refl
xor_number false false = refl

pub gate_and : (nodes : List Node) (k x y : ℕ) → IsWithin nodes x → IsWithin nodes y
    → ((a : ℕ → Bool) → literal_value nodes a (2 * k) ≡ literal_value nodes a x
    && literal_value nodes a y) → IsGateOf nodes k true x y
gate_and nodes k x y in_x in_y value = record {
  first = in_x;
  second = in_y;
  value = λ a. ap (λ (b : Bool). bit b % 2 ^ 128) (value a)
      ∙ and_number (literal_value nodes a x) (literal_value nodes a y);
}

pub gate_xor : (nodes : List Node) (k x y : ℕ) → IsWithin nodes x → IsWithin nodes y
    → ((a : ℕ → Bool) → literal_value nodes a (2 * k) ≡ differ (literal_value nodes a x)
    (literal_value nodes a y)) → IsGateOf nodes k false x y
gate_xor nodes k x y in_x in_y value = record {
  first = in_x;
  second = in_y;
  value = λ a. ap (λ (b : Bool). bit b % 2 ^ 128) (value a)
      ∙ xor_number (literal_value nodes a x) (literal_value nodes a y);
}

-- numbers that are the same modulo 2^128
product_mod : (S T U V : ℕ) → S % 2 ^ 128 ≡ U % 2 ^ 128 → T % 2 ^ 128 ≡ V % 2 ^ 128
    → (S * T) % 2 ^ 128 ≡ (U * V) % 2 ^ 128
product_mod S T U V first second =
    mul-mod S T (2 ^ 128) ∙ (ap (λ (n : ℕ). (n * (T % 2 ^ 128)) % 2 ^ 128) first
    ∙ (ap (λ (n : ℕ). ((U % 2 ^ 128) * n) % 2 ^ 128) second ∙ sym (mul-mod U V (2 ^ 128))))

gate_mod : (is : Bool) (S T U V : ℕ) → S % 2 ^ 128 ≡ U % 2 ^ 128 → T % 2 ^ 128 ≡ V % 2 ^ 128
    → gate_number is S T % 2 ^ 128 ≡ gate_number is U V % 2 ^ 128
gate_mod true S T U V first second = product_mod S T U V first second
gate_mod false S T U V first second = omega (arith, first, second, product_mod S T U V first second)

-- a literal's polynomial, by those of its gate's literals
even_or_odd : (nodes : List Node) (a : ℕ → Bool) (l k : ℕ) (sign : Bool) (r : ℕ) → k ≡ l / 2
    → l % 2 ≡ r → sign ≡ (r == 1) → differ sign (literal_value nodes a (2 * k))
    ≡ literal_value nodes a l
even_or_odd nodes a l k sign zero is even signed =
    let e : 2 * k ≡ l = omega (arith, is, even) in
    ap (λ (b : Bool). differ b (literal_value nodes a (2 * k))) signed
    ∙ ap (λ (m : ℕ). literal_value nodes a m) e
even_or_odd nodes a l k sign (suc zero) is odd signed =
    let e : 2 * k ≡ l - 1 = omega (arith, is, odd) in
    ap (λ (b : Bool). differ b (literal_value nodes a (2 * k))) signed
    ∙ (ap (λ (m : ℕ). not (literal_value nodes a m)) e
    ∙ (ap not (value_before nodes a l (λ even. omega (arith, odd, even)))
    ∙ not_not (literal_value nodes a l)))
even_or_odd nodes a l k sign (suc (suc r)) is odd signed = absurd (omega (arith, odd))

literal_of : (nodes : List Node) (a : ℕ → Bool) (l k : ℕ) (sign : Bool) → k ≡ l / 2
    → sign ≡ (l % 2 == 1) → differ sign (literal_value nodes a (2 * k)) ≡ literal_value nodes a l
literal_of nodes a l k sign is signed = even_or_odd nodes a l k sign (l % 2) is refl signed

module _ (g0 g1 g2 g3 : List Node) (l k x y : ℕ) (is sign : Bool) (P Q R U : List Term) where
  pub polynomial_sum : k ≡ l / 2 → sign ≡ (l % 2 == 1) → IsGateOf g0 k is x y
      → Extends g0 g1 → HasSum g1 P (λ a. bit (literal_value g0 a x))
      → Extends g1 g2 → HasSum g2 Q (λ a. bit (literal_value g1 a y))
      → HasSum g3 R (λ a. gate_number is (terms_sum (literal_value g2 a) P)
      (terms_sum (literal_value g2 a) Q))
      → ((h : Value) → HasSum g3 R (λ a. bit (h a)) → HasSum g3 U (λ a. bit (differ sign (h a))))
      → HasSum g3 U (λ a. bit (literal_value g0 a l))
  polynomial_sum node signed gate e1 first e2 second made negates =
      let whole = has_same g3 R (λ a. gate_number is (terms_sum (literal_value g2 a) P)
      (terms_sum (literal_value g2 a) Q)) (λ a. bit (literal_value g0 a (2 * k))) made
      (λ a.
      gate_mod is (terms_sum (literal_value g2 a) P) (terms_sum (literal_value g2 a) Q)
      (bit (literal_value g0 a x)) (bit (literal_value g0 a y))
      (ap (λ (n : ℕ). n % 2 ^ 128) (sum_same g1 g2 P a e2 first.within) ∙ first.sum a)
      (second.sum a ∙ ap (λ (b : Bool). bit b % 2 ^ 128) (e1.same y a gate.second))
      ∙ sym (gate.value a)) in
      has_same g3 U (λ a. bit (differ sign (literal_value g0 a (2 * k))))
      (λ a. bit (literal_value g0 a l)) (negates (λ a. literal_value g0 a (2 * k)) whole)
      (λ a. ap (λ (b : Bool). bit b % 2 ^ 128) (literal_of g0 a l k sign node signed))

-- a polynomial less its literal
scaled_mod : (w S T : ℕ) → S % 2 ^ 128 ≡ T % 2 ^ 128 → (w * S) % 2 ^ 128 ≡ (w * T) % 2 ^ 128
scaled_mod w S T h = sym (mul-mod_second w S (2 ^ 128)) ∙ (ap (λ (n : ℕ). (w * n) % 2 ^ 128) h
    ∙ mul-mod_second w T (2 ^ 128))

expanded_at : (w n S : ℕ) (b : Bool) → w < 2 ^ 128 → n ≡ (0 + (2 ^ 128 - w)) % 2 ^ 128
    → S % 2 ^ 128 ≡ bit b % 2 ^ 128 → ((0 + n * bit b) + w * S) % 2 ^ 128 ≡ 0 % 2 ^ 128
expanded_at w n S true low less h = omega (arith, low, less, scaled_mod w S 1 h)
expanded_at w n S false low less h = omega (arith, low, less, scaled_mod w S 0 h)

pub expansion_is_zero : (old new : List Node) (l w n : ℕ) (ts us empty one outs : List Term)
    → IsWithin old l → w < 2 ^ 128 → n ≡ (0 + (2 ^ 128 - w)) % 2 ^ 128
    → Extends old new → HasSum new ts (λ a. bit (literal_value old a l)) → us ≡ ts → empty ≡ []
    → one ≡ empty ++ record { literal = l; factor = n } ∷ []
    → ((g : Number) → HasSum new one g → All (λ t. IsWithin new t.literal) us
    → HasSum new outs (λ a. g a + w * terms_sum (literal_value new a) us))
    → HasSum new outs (λ a. 0)
expansion_is_zero old new l w n ts us empty one outs in_l low less e has read none pushed adds =
    let begun = subst (λ (vs : List Term). HasSum new vs (λ a. 0)) (sym none) (has_none new) in
    let f : Value = λ a. literal_value old a l in
    let first = has_push new empty one l n f (λ a. 0) pushed begun
    (moved old new l f e (there old l in_l)) in
    let within = subst (λ (vs : List Term). All (λ t. IsWithin new t.literal) vs) (sym read)
    has.within in
    has_same new outs (λ a. (0 + n * bit (f a)) + w * terms_sum (literal_value new a) us) (λ a. 0)
    (adds (λ a. 0 + n * bit (f a)) first within)
    (λ a. expanded_at w n (terms_sum (literal_value new a) us) (f a) low less
    (ap (λ (vs : List Term). terms_sum (literal_value new a) vs % 2 ^ 128) read ∙ has.sum a))

-- one term for each literal
one_at : (S F : ℕ) → S % 2 ^ 128 ≡ F % 2 ^ 128 → (0 + 1 * S) % 2 ^ 128 ≡ F % 2 ^ 128
one_at S F h = omega (arith, h)

pub merged_sum : (nodes : List Node) (ts us empty outs : List Term) (f : Number) → us ≡ ts
    → empty ≡ [] → HasSum nodes ts f
    → ((g : Number) → HasSum nodes empty g → All (λ t. IsWithin nodes t.literal) us
    → HasSum nodes outs (λ a. g a + 1 * terms_sum (literal_value nodes a) us))
    → HasSum nodes outs f
merged_sum nodes ts us empty outs f read none has adds =
    let begun = subst (λ (vs : List Term). HasSum nodes vs (λ a. 0)) (sym none) (has_none nodes) in
    let there_is = subst (λ (vs : List Term). HasSum nodes vs f) (sym read) has in
    has_same nodes outs (λ a. 0 + 1 * terms_sum (literal_value nodes a) us) f
    (adds (λ a. 0) begun there_is.within) (λ a. one_at (terms_sum (literal_value nodes a) us)
    (f a) (there_is.sum a))
