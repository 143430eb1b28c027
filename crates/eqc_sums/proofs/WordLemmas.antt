-- The numbers that words stand for, and forms that compare them.
use Rattle.std.proofs.Common.{◌≡◌, ℕ, zero, suc, ◌+◌, ◌-◌, ◌*◌, ◌/◌, ◌%◌, ◌^◌, ◌<◌, ◌≤◌, Bool, true}
use Rattle.std.proofs.Common.{false, List, [], ◌∷◌, ◌++◌, length, get_or, take, refl, sym, ◌∙◌, ap}
use Rattle.std.proofs.Common.{subst, arith, add-one}
use Rattle.std.specs.List.{All}
use Rattle.std.proofs.lemmas.List.{take_all, get_or_default}
use Rattle.std.proofs.lemmas.List.Elements.{All-push}
use Rattle.std.proofs.lemmas.List.Sums.{sum_by_push}
use Rattle.std.proofs.lemmas.Nat.{pow-add, pow_pos}
use Rattle.std.proofs.Math.Nat.{pow-suc, mul-lt-mul_of_pos_left, eq_of_mul-eq-mul_left}
use Rattle.eqc_xag.specs.declared.node.Node.{Node}
use Rattle.eqc_xag.specs.Graph.{literal_value, IsWithin, IsGraph, Extends}
use Rattle.eqc_sweep.specs.Finding.{AreEqual}
use Rattle.eqc_sums.specs.declared.form.Form.{Form}
use Rattle.eqc_sums.specs.declared.term.Term.{Term}
use Rattle.eqc_sums.specs.Forms.{bit, terms_sum, form_value, Keeps}
use Rattle.eqc_sums.specs.Adding.{number, IsFormOf, AreEqualWords}

-- one more digit
number_next : (v : ℕ → Bool) (ls : List ℕ) (k : ℕ) → k < length ls → number v (take (suc k) ls)
    ≡ number v (take k ls) + 2 ^ k * bit (v (get_or ls k 0))
unfolding number
number_next v [] k inside = absurd (omega (arith, inside))
number_next v (l ∷ ls) zero inside = omega arith
number_next v (l ∷ ls) (suc k) inside =
    let rest = number_next v ls k (omega (arith, inside)) in
    omega (arith, rest, ap (λ (p : ℕ). p * bit (v (get_or ls k 0))) (pow-suc 2 k))

pub number_more : (v : ℕ → Bool) (ls : List ℕ) (k : ℕ) → k < length ls → number v (take (k + 1) ls)
    ≡ number v (take k ls) + 2 ^ k * bit (v (get_or ls k 0))
number_more v ls k inside = rw add-one (number_next v ls k inside)

-- a number of so many digits
bit_le : (b : Bool) → bit b ≤ 1
bit_le true = omega arith
bit_le false = omega arith

pub number_below : (v : ℕ → Bool) (ls : List ℕ) → number v ls < 2 ^ length ls
unfolding number
number_below v [] = omega arith
number_below v (l ∷ ls) = omega (arith, number_below v ls, pow-suc 2 (length ls), bit_le (v l))

-- binary expansions are unique
digit_same : (b c : Bool) (A B : ℕ) → bit b + 2 * A ≡ bit c + 2 * B → b ≡ c
digit_same true true A B h = refl
digit_same true false A B h = absurd (omega (arith, h))
digit_same false true A B h = absurd (omega (arith, h))
digit_same false false A B h = refl

rest_same : (b c : Bool) (A B : ℕ) → bit b + 2 * A ≡ bit c + 2 * B → A ≡ B
rest_same true true A B h = omega (arith, h)
rest_same true false A B h = absurd (omega (arith, h))
rest_same false true A B h = absurd (omega (arith, h))
rest_same false false A B h = omega (arith, h)

pub digits : (v : ℕ → Bool) (ps qs : List ℕ) → length qs ≡ length ps → number v ps ≡ number v qs
    → (k : ℕ) → k < length ps → v (get_or ps k 0) ≡ v (get_or qs k 0)
unfolding number
digits v [] qs same equal k inside = absurd (omega (arith, inside))
digits v (p ∷ ps) [] same equal k inside = absurd (omega (arith, same))
digits v (p ∷ ps) (q ∷ qs) same equal zero inside = digit_same (v p) (v q) (number v ps)
    (number v qs) equal
digits v (p ∷ ps) (q ∷ qs) same equal (suc k) inside =
    digits v ps qs (omega (arith, same)) (rest_same (v p) (v q) (number v ps) (number v qs) equal) k
    (omega (arith, inside))

-- a number that is scaled to the highest places of 128
scaled_below : (m N : ℕ) → m ≤ 128 → N < 2 ^ m → 2 ^ (128 - m) * N < 2 ^ 128
scaled_below m N few low =
    let product : 2 ^ (128 - m) * N < 2 ^ (128 - m) * 2 ^ m =
    mul-lt-mul_of_pos_left low (pow_pos (128 - m)) in
    let all : 128 - m + m ≡ 128 = omega (arith, few) in
    let whole : 2 ^ (128 - m) * 2 ^ m ≡ 2 ^ 128 = sym (pow-add 2 (128 - m) m)
    ∙ ap (λ (k : ℕ). 2 ^ k) all in
    omega (arith, product, whole)

unscaled : (m A B F : ℕ) → m ≤ 128 → A < 2 ^ m → B < 2 ^ m → F ≡ 0
    → (F + 2 ^ (128 - m) * B) % 2 ^ 128 ≡ (2 ^ (128 - m) * A) % 2 ^ 128 → A ≡ B
unscaled m A B F few low high none same =
    let first = scaled_below m A few low in
    let second = scaled_below m B few high in
    eq_of_mul-eq-mul_left (2 ^ (128 - m)) (pow_pos (128 - m)) A B (omega (
      arith,
      same,
      first,
      second,
      none,
    ))

-- a form that comes to zero shows two words equal
pub concluded : (old new : List Node) (f g : Form) (ps qs : List ℕ) → IsFormOf old f ps qs
    → Keeps old new f g → IsGraph new
    → ((nodes : List Node) (a : ℕ → Bool) → IsGraph nodes → form_value nodes a g ≡ 0)
    → AreEqualWords new ps qs
concluded old new f g ps qs is keeps graph zero_at = record {
  same = is.same;
  equal = λ k inside. record {
    value = λ a.
        let none = sym (keeps.value is.over a) ∙ zero_at new a graph in
        let v = literal_value old a in
        let high : number (literal_value old a) qs < 2 ^ length ps =
        subst (λ (n : ℕ). number (literal_value old a) qs < 2 ^ n) is.same
        (number_below (literal_value old a) qs) in
        let numbers = unscaled (length ps) (number v ps) (number v qs) (form_value old a f) is.few
        (number_below v ps) high none (is.value a) in
        keeps.extends.same (get_or ps k 0) a (is.first k 0 inside)
        ∙ (digits v ps qs is.same numbers k inside
        ∙ sym (keeps.extends.same (get_or qs k 0) a
        (is.second k 0 (omega (arith, inside, is.same)))));
  };
}

-- the terms that compare two words, one pair of literals after another
word_at : (F P w n T A B : ℕ) (p q : Bool) → w < 2 ^ 128 → w ≡ (F * P) % 2 ^ 128
    → n ≡ (0 + (2 ^ 128 - w)) % 2 ^ 128 → (T + F * B) % 2 ^ 128 ≡ (F * A) % 2 ^ 128
    → (((T + w * bit p) + n * bit q) + F * (B + P * bit q)) % 2 ^ 128 ≡ (F * (A + P * bit p)) % 2 ^
    128
word_at F P w n T A B true true low is less h = omega (arith, low, is, less, h)
word_at F P w n T A B true false low is less h = omega (arith, low, is, less, h)
word_at F P w n T A B false true low is less h = omega (arith, low, is, less, h)
word_at F P w n T A B false false low is less h = omega (arith, low, is, less, h)

pub word_more : (v : ℕ → Bool) (ps qs : List ℕ) (ts us vs : List Term) (F w n k : ℕ) → k < length ps
    → length qs ≡ length ps → w < 2 ^ 128
    → w ≡ (F * 2 ^ k) % 2 ^ 128 → n ≡ (0 + (2 ^ 128 - w)) % 2 ^ 128
    → us ≡ ts ++ record { literal = get_or ps k 0; factor = w } ∷ [] → vs ≡ us ++ record {
      literal =
          get_or qs k 0;
      factor = n;
    } ∷ []
    → (terms_sum v ts + F * number v (take k qs)) % 2 ^ 128 ≡ (F * number v (take k ps)) % 2 ^ 128
    → (terms_sum v vs + F * number v (take (k + 1) qs)) % 2 ^ 128 ≡ (F * number v (take (k + 1) ps))
    % 2 ^ 128
word_more v ps qs ts us vs F w n k inside same low is less first second before =
    let one : Term → ℕ = λ u. u.factor * bit (v u.literal) in
    let p : Term = record { literal = get_or ps k 0; factor = w } in
    let q : Term = record { literal = get_or qs k 0; factor = n } in
    let u_sum = ap (λ (all : List Term). terms_sum v all) first ∙ sum_by_push one ts p in
    let v_sum = ap (λ (all : List Term). terms_sum v all) second ∙ (sum_by_push one us q
    ∙ ap (λ (s : ℕ). s + n * bit (v (get_or qs k 0))) u_sum) in
    let whole = word_at F (2 ^ k) w n (terms_sum v ts) (number v (take k ps)) (number v (take k qs))
    (v (get_or ps k 0)) (v (get_or qs k 0)) low is less before in
    ap (λ (s : ℕ). (s + F * number v (take (k + 1) qs)) % 2 ^ 128) v_sum
    ∙ (ap (λ (s : ℕ). (((terms_sum v ts + w * bit (v (get_or ps k 0)))
    + n * bit (v (get_or qs k 0))) + F * s) % 2 ^ 128)
    (number_more v qs k (omega (arith, inside, same)))
    ∙ (whole ∙ ap (λ (s : ℕ). (F * s) % 2 ^ 128) (sym (number_more v ps k inside))))

pub next_factor : (F w u k : ℕ) → w ≡ (F * 2 ^ k) % 2 ^ 128 → u ≡ (w + w) % 2 ^ 128
    → u ≡ (F * 2 ^ (k + 1)) % 2 ^ 128
next_factor F w u k is twice =
    rw add-one (omega (arith, is, twice, ap (λ (p : ℕ). F * p) (pow-suc 2 k)))

pub within_more : (nodes : List Node) (ps qs : List ℕ) (ts us vs : List Term) (w n k : ℕ)
    → k < length ps → length qs ≡ length ps
    → All (IsWithin nodes) ps → All (IsWithin nodes) qs
    → us ≡ ts ++ record { literal = get_or ps k 0; factor = w } ∷ [] → vs ≡ us ++ record {
      literal =
          get_or qs k 0;
      factor = n;
    } ∷ []
    → All (λ t. IsWithin nodes t.literal) ts → All (λ t. IsWithin nodes t.literal) vs
within_more nodes ps qs ts us vs w n k inside same in_p in_q first second before =
    let P : Term → Type 0 = λ t. IsWithin nodes t.literal in
    let p : Term = record { literal = get_or ps k 0; factor = w } in
    let q : Term = record { literal = get_or qs k 0; factor = n } in
    let one = subst (λ (all : List Term). All P all) (sym first) (All-push P ts p before
    (in_p k 0 inside)) in
    subst (λ (all : List Term). All P all) (sym second)
    (All-push P us q one (in_q k 0 (omega (arith, inside, same))))
