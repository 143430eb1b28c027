-- What the values of linear forms come to.
use Rattle.std.proofs.Common.{◌≡◌, ℕ, zero, suc, ◌+◌, ◌-◌, ◌*◌, ◌/◌, ◌%◌, ◌^◌, ◌<◌, ◌≤◌, Bool, true}
use Rattle.std.proofs.Common.{false, not, List, [], ◌∷◌, ◌++◌, length, get_or, take, refl, sym, ◌∙◌}
use Rattle.std.proofs.Common.{ap, subst, arith}
use Rattle.std.proofs.Math.ListN.{set}
use Rattle.eqc_xag.specs.declared.node.Node.{Node}
use Rattle.eqc_xag.specs.Graph.{literal_value, IsWithin, IsGraph, Extends}
use Rattle.eqc_xag.proofs.GraphLemmas.{value_of_zero}
use Rattle.eqc_xag.proofs.LiteralLemmas.{value_before}
use Rattle.eqc_sums.specs.declared.form.Form.{Form}
use Rattle.eqc_sums.specs.declared.term.Term.{Term}
use Rattle.std.proofs.lemmas.List.Sums.{sum_by_more}
use Rattle.eqc_sums.specs.Forms.{bit, weighed, terms_sum, form_value}

-- one coefficient is another one
pub weighed_set : (v : ℕ → Bool) (cs : List ℕ) (j k n d : ℕ) → n ≡ j + k → k < length cs
    → weighed v j (set cs k d) + get_or cs k 0 * bit (v (2 * n)) ≡ weighed v j cs
    + d * bit (v (2 * n))
unfolding weighed
weighed_set v [] j k n d is inside = absurd (omega (arith, inside))
weighed_set v (c ∷ cs) j zero n d is inside =
    let e : j ≡ n = omega (arith, is) in
    let first = ap (λ (m : ℕ). c * bit (v (2 * m))) e in
    let other = ap (λ (m : ℕ). d * bit (v (2 * m))) e in
    omega (arith, first, other)
weighed_set v (c ∷ cs) j (suc k) n d is inside =
    let before = weighed_set v cs (suc j) k n d (omega (arith, is)) (omega (arith, inside)) in
    omega (arith, before)

-- one more node, which isn't counted
pub weighed_push : (v : ℕ → Bool) (cs : List ℕ) (j : ℕ) → weighed v j (cs ++ 0 ∷ [])
    ≡ weighed v j cs
unfolding weighed
weighed_push v [] j = omega arith
weighed_push v (c ∷ cs) j = ap (λ (w : ℕ). c * bit (v (2 * j)) + w) (weighed_push v cs (suc j))

-- the same under values that agree
pub weighed_same : (v u : ℕ → Bool) (cs : List ℕ) (j n : ℕ)
    → ((k : ℕ) → k < n → v (2 * k) ≡ u (2 * k)) → j + length cs ≤ n
    → weighed v j cs ≡ weighed u j cs
unfolding weighed
weighed_same v u [] j n same few = refl
weighed_same v u (c ∷ cs) j n same few =
    let one = ap (λ (b : Bool). c * bit b) (same j (omega (arith, few))) in
    let rest = weighed_same v u cs (suc j) n same (omega (arith, few)) in
    omega (arith, one, rest)

-- coefficients that are zero
pub weighed_zero : (v : ℕ → Bool) (cs : List ℕ) (j : ℕ) → ((k : ℕ) → k < length cs
    → get_or cs k 0 ≡ 0) → weighed v j cs ≡ 0
unfolding weighed
weighed_zero v [] j each = refl
weighed_zero v (c ∷ cs) j each =
    let first : c ≡ 0 = each 0 (omega arith) in
    let none = ap (λ (d : ℕ). d * bit (v (2 * j))) first in
    let rest = weighed_zero v cs (suc j) (λ k inside. each (suc k) (omega (arith, inside))) in
    omega (arith, none, rest)

-- all but the first, where the first node is false
pub weighed_but_first : (v : ℕ → Bool) (cs : List ℕ) → v 0 ≡ false → ((k : ℕ) → k < length cs
    → (k ≡ 0 → ⊥) → get_or cs k 0 ≡ 0) → weighed v 0 cs ≡ 0
unfolding weighed
weighed_but_first v [] false_at each = refl
weighed_but_first v (c ∷ cs) false_at each =
    let none = ap (λ (b : Bool). c * bit b) false_at in
    let rest = weighed_zero v cs 1 (λ k inside. each (suc k) (omega (arith, inside))
    (λ e. omega (arith, e))) in
    omega (arith, none, rest)

pub not_not : (b : Bool) → not (not b) ≡ b
not_not true = refl
not_not false = refl

after_plain : (K V W c w : ℕ) (b : Bool) → V + c * bit b ≡ W + ((c + w) % 2 ^ 128) * bit b
    → (K + V) % 2 ^ 128 ≡ ((K + W) % 2 ^ 128 + w * bit b) % 2 ^ 128
after_plain K V W c w true h = omega (arith, h)
after_plain K V W c w false h = omega (arith, h)

after_complement : (K V W c w : ℕ) (b : Bool) → w < 2 ^ 128 → V + c * bit b ≡ W
    + ((c + (2 ^ 128 - w)) % 2 ^ 128) * bit b
    → ((K + w) % 2 ^ 128 + V) % 2 ^ 128 ≡ ((K + W) % 2 ^ 128 + w * bit (not b)) % 2 ^ 128
after_complement K V W c w true low h = omega (arith, h, low)
after_complement K V W c w false low h = omega (arith, h, low)

-- a literal that is no complement is added
pub added_plain : (nodes : List Node) (a : ℕ → Bool) (f g : Form) (l k w : ℕ) → k ≡ l / 2
    → l % 2 ≡ 0 → k < length f.coefficients.items
    → g.constant ≡ f.constant → g.coefficients.items ≡ set f.coefficients.items k
    ((get_or f.coefficients.items k 0 + w) % 2 ^ 128)
    → form_value nodes a g ≡ (form_value nodes a f + w * bit (literal_value nodes a l)) % 2 ^ 128
unfolding form_value
added_plain nodes a f g l k w is even inside same items =
    let v = literal_value nodes a in
    let cs = f.coefficients.items in
    let c = get_or f.coefficients.items k 0 in
    let literal : 2 * k ≡ l = omega (arith, is, even) in
    let moved = weighed_set (literal_value nodes a) f.coefficients.items 0 k k ((c + w) % 2 ^ 128)
    (omega arith) inside in
    let after = after_plain f.constant (weighed v 0 (set cs k ((c + w) % 2 ^ 128))) (weighed v 0 cs)
    c w (v (2 * k)) moved in
    let read = ap (λ (m : ℕ). w * bit (literal_value nodes a m)) literal in
    ap (λ (K : ℕ). (K + weighed v 0 g.coefficients.items) % 2 ^ 128) same
    ∙ (ap (λ (ds : List ℕ). (f.constant + weighed v 0 ds) % 2 ^ 128) items
    ∙ (after ∙ ap (λ (p : ℕ). ((f.constant + weighed v 0 cs) % 2 ^ 128 + p) % 2 ^ 128) read))

-- a complement is added
pub added_complement : (nodes : List Node) (a : ℕ → Bool) (f g : Form) (l k w : ℕ) → k ≡ l / 2
    → (l % 2 ≡ 0 → ⊥) → k < length f.coefficients.items → w < 2 ^ 128
    → g.constant ≡ (f.constant + w) % 2 ^ 128 → g.coefficients.items ≡ set f.coefficients.items k
    ((get_or f.coefficients.items k 0 + (2 ^ 128 - w)) % 2 ^ 128)
    → form_value nodes a g ≡ (form_value nodes a f + w * bit (literal_value nodes a l)) % 2 ^ 128
unfolding form_value
added_complement nodes a f g l k w is odd inside low same items =
    let v = literal_value nodes a in
    let cs = f.coefficients.items in
    let c = get_or f.coefficients.items k 0 in
    let d = (get_or f.coefficients.items k 0 + (2 ^ 128 - w)) % 2 ^ 128 in
    let before : l - 1 ≡ 2 * k = omega (arith, is, odd) in
    let moved = weighed_set (literal_value nodes a) f.coefficients.items 0 k k
    ((get_or f.coefficients.items k 0 + (2 ^ 128 - w)) % 2 ^ 128) (omega arith) inside in
    let after = after_complement f.constant (weighed v 0 (set cs k d)) (weighed v 0 cs) c w
    (v (2 * k)) low moved in
    let opposite = sym (ap (λ (m : ℕ). literal_value nodes a m) before) ∙ value_before nodes a l odd
    in
    let read = ap (λ (b : Bool). w * bit (not b)) opposite
    ∙ ap (λ (b : Bool). w * bit b) (not_not (literal_value nodes a l)) in
    ap (λ (K : ℕ). (K + weighed v 0 g.coefficients.items) % 2 ^ 128) same
    ∙ (ap (λ (ds : List ℕ). ((f.constant + w) % 2 ^ 128 + weighed v 0 ds) % 2 ^ 128) items
    ∙ (after ∙ ap (λ (p : ℕ). ((f.constant + weighed v 0 cs) % 2 ^ 128 + p) % 2 ^ 128) read))

-- one more coefficient, which is zero
pub pushed_value : (nodes : List Node) (a : ℕ → Bool) (f g : Form) → g.constant ≡ f.constant
    → g.coefficients.items ≡ f.coefficients.items ++ 0 ∷ []
    → form_value nodes a g ≡ form_value nodes a f
unfolding form_value
pushed_value nodes a f g same items =
    let v = literal_value nodes a in
    ap (λ (K : ℕ). (K + weighed v 0 g.coefficients.items) % 2 ^ 128) same
    ∙ ap (λ (w : ℕ). (f.constant + w) % 2 ^ 128) (ap (λ (ds : List ℕ). weighed v 0 ds) items
    ∙ weighed_push v f.coefficients.items 0)

-- forms of the same numbers
pub same_value : (nodes : List Node) (a : ℕ → Bool) (f g : Form) → g.constant ≡ f.constant
    → g.coefficients.items ≡ f.coefficients.items → form_value nodes a g ≡ form_value nodes a f
unfolding form_value
same_value nodes a f g same items =
    let v = literal_value nodes a in
    ap (λ (K : ℕ). (K + weighed v 0 g.coefficients.items) % 2 ^ 128) same
    ∙ ap (λ (ds : List ℕ). (f.constant + weighed v 0 ds) % 2 ^ 128) items

pub nothing_value : (nodes : List Node) (a : ℕ → Bool) (f : Form) → f.constant ≡ 0
    → f.coefficients.items ≡ [] → form_value nodes a f ≡ 0
unfolding form_value weighed
nothing_value nodes a f none empty =
    let v = literal_value nodes a in
    ap (λ (K : ℕ). (K + weighed v 0 f.coefficients.items) % 2 ^ 128) none
    ∙ ap (λ (ds : List ℕ). (0 + weighed v 0 ds) % 2 ^ 128) empty

pub zero_value : (nodes : List Node) (a : ℕ → Bool) (f : Form) → IsGraph nodes → f.constant ≡ 0
    → ((k : ℕ) → k < length f.coefficients.items → (k ≡ 0 → ⊥) → get_or f.coefficients.items k 0
    ≡ 0) → form_value nodes a f ≡ 0
unfolding form_value
zero_value nodes a f graph none each =
    let v = literal_value nodes a in
    let rest = weighed_but_first v f.coefficients.items (value_of_zero nodes a graph) each in
    ap (λ (K : ℕ). (K + weighed v 0 f.coefficients.items) % 2 ^ 128) none
    ∙ ap (λ (w : ℕ). (0 + w) % 2 ^ 128) rest

-- a form keeps its value where the graph grows
pub extended_value : (old new : List Node) (a : ℕ → Bool) (f : Form) → Extends old new
    → length f.coefficients.items ≤ length old → form_value new a f ≡ form_value old a f
unfolding form_value
extended_value old new a f e few =
    let same = weighed_same (literal_value new a) (literal_value old a) f.coefficients.items 0
    (length old) (λ k low. e.same (2 * k) a (omega (arith, low))) (omega (arith, few)) in
    ap (λ (w : ℕ). (f.constant + w) % 2 ^ 128) same

pub value_below : (nodes : List Node) (a : ℕ → Bool) (f : Form) → form_value nodes a f < 2 ^ 128
unfolding form_value
value_below nodes a f = omega arith

-- terms are added one by one
pub added_none : (nodes : List Node) (a : ℕ → Bool) (f : Form) (v : ℕ → Bool) (ts : List Term)
    → form_value nodes a f ≡ (form_value nodes a f + terms_sum v (take 0 ts)) % 2 ^ 128
added_none nodes a f v ts = omega (arith, value_below nodes a f)

added_more : (F G H S T p : ℕ) → G ≡ (F + S) % 2 ^ 128 → H ≡ (G + p) % 2 ^ 128 → T ≡ S + p
    → H ≡ (F + T) % 2 ^ 128
added_more F G H S T p g h t = omega (arith, g, h, t)

pub added_next : (nodes : List Node) (a : ℕ → Bool) (f g h : Form) (ts : List Term) (i : ℕ)
    (t : Term) → i < length ts
    → form_value nodes a g ≡ (form_value nodes a f + terms_sum (literal_value nodes a) (take i ts))
    % 2 ^ 128
    → form_value nodes a h ≡ (form_value nodes a g + (get_or ts i t).factor * bit
    (literal_value nodes a (get_or ts i t).literal)) % 2 ^ 128
    → form_value nodes a h ≡ (form_value nodes a f + terms_sum (literal_value nodes a)
    (take (i + 1) ts)) % 2 ^ 128
added_next nodes a f g h ts i t inside before one =
    added_more (form_value nodes a f) (form_value nodes a g) (form_value nodes a h)
    (terms_sum (literal_value nodes a) (take i ts)) (terms_sum (literal_value nodes a)
    (take (i + 1) ts))
    ((get_or ts i t).factor * bit (literal_value nodes a (get_or ts i t).literal)) before one
    (sum_by_more (λ (u : Term). u.factor * bit (literal_value nodes a u.literal)) ts i t inside)
