-- What zero steps come to.
use Rattle.std.proofs.Common.{◌≡◌, ℕ, zero, suc, ◌+◌, ◌-◌, ◌*◌, ◌/◌, ◌%◌, ◌^◌, ◌<◌, ◌≤◌, Bool, true}
use Rattle.std.proofs.Common.{false, not, ◌&&◌, ◌||◌, List, [], ◌∷◌, ◌++◌, length, get_or, take}
use Rattle.std.proofs.Common.{refl, sym, ◌∙◌, ap, subst, arith}
use Rattle.std.specs.List.{All}
use Rattle.std.proofs.lemmas.List.{take_all}
use Rattle.std.proofs.lemmas.List.Elements.{All-nil, All-push}
use Rattle.std.proofs.lemmas.List.Sums.{sum_by_more, sum_by_push, sum_by-cons}
use Rattle.eqc_xag.specs.declared.node.Node.{Node}
use Rattle.eqc_xag.specs.Graph.{literal_value, differ, IsWithin, Extends}
use Rattle.eqc_xag.proofs.GraphLemmas.{extends_itself, extends_along}
use Rattle.eqc_sweep.specs.Sweeping.{HasValue}
use Rattle.eqc_sweep.specs.Finding.{AreEqual}
use Rattle.eqc_sums.specs.declared.term.Term.{Term}
use Rattle.eqc_sums.specs.Forms.{bit, terms_sum, HasSum, IsZeroStep}
use Rattle.eqc_sums.specs.Adding.{majority}
use Rattle.eqc_sums.proofs.GateLemmas.{moved, there, said}

-- a function of the assignment
abbrev Value : Type 0
Value = (ℕ → Bool) → Bool

abbrev Number : Type 0
Number = (ℕ → Bool) → ℕ

within_cons : (nodes : List Node) (l w : ℕ) (ts : List Term) → IsWithin nodes l
    → All (λ t. IsWithin nodes t.literal) ts
    → All (λ t. IsWithin nodes t.literal) (record { literal = l; factor = w } ∷ ts)
within_cons nodes l w ts first rest zero d inside = first
within_cons nodes l w ts first rest (suc k) d inside = rest k d (omega (arith, inside))

-- no terms, and one more
pub has_none : (nodes : List Node) → HasSum nodes [] (λ a. 0)
has_none nodes = record {
  within = All-nil (λ (t : Term). IsWithin nodes t.literal);
  sum =
      λ a. refl;
}

more_mod : (S T p : ℕ) → S % 2 ^ 128 ≡ T % 2 ^ 128 → (p + S) % 2 ^ 128 ≡ (p + T) % 2 ^ 128
more_mod S T p h = omega (arith, h)

pub has_cons : (nodes : List Node) (l w : ℕ) (ts : List Term) (f : Value) (h : Number)
    → HasValue nodes l f → HasSum nodes ts h
    → HasSum nodes (record { literal = l; factor = w } ∷ ts) (λ a. w * bit (f a) + h a)
has_cons nodes l w ts f h first rest = record {
  within = within_cons nodes l w ts first.within rest.within;
  sum = λ a.
      let one : Term → ℕ = λ t. t.factor * bit (literal_value nodes a t.literal) in
      let t : Term = record { literal = l; factor = w } in
      ap (λ (n : ℕ). n % 2 ^ 128) (sum_by-cons one t ts)
      ∙ (ap (λ (b : Bool). (w * bit b + terms_sum (literal_value nodes a) ts) % 2 ^ 128)
      (first.value a)
      ∙ more_mod (terms_sum (literal_value nodes a) ts) (h a) (w * bit (f a)) (rest.sum a));
}

-- the same sum in other words
pub has_same : (nodes : List Node) (ts : List Term) (f h : Number) → HasSum nodes ts f
    → ((a : ℕ → Bool) → f a % 2 ^ 128 ≡ h a % 2 ^ 128) → HasSum nodes ts h
has_same nodes ts f h has same = record { within = has.within; sum = λ a. has.sum a ∙ same a }

-- an adder's numbers
adder_at : (w n m : ℕ) (x y z : Bool) → w < 2 ^ 128 → n ≡ (0 + (2 ^ 128 - w)) % 2 ^ 128
    → m ≡ (n + n) % 2 ^ 128
    → (w * bit x + (w * bit y + (w * bit z + (n * bit (differ (differ x y) z)
    + (m * bit (majority x y z) + 0))))) % 2 ^ 128 ≡ 0 % 2 ^ 128
adder_at w n m true true true low less twice = omega (arith, low, less, twice)
adder_at w n m true true false low less twice = omega (arith, low, less, twice)
adder_at w n m true false true low less twice = omega (arith, low, less, twice)
adder_at w n m true false false low less twice = omega (arith, low, less, twice)
adder_at w n m false true true low less twice = omega (arith, low, less, twice)
adder_at w n m false true false low less twice = omega (arith, low, less, twice)
adder_at w n m false false true low less twice = omega (arith, low, less, twice)
adder_at w n m false false false low less twice = omega (arith, low, less, twice)

three : (f : Bool → Bool → Bool → Bool) (x u y v z w : Bool) → x ≡ u → y ≡ v → z ≡ w
    → f x y z ≡ f u v w
three f x u y v z w first second third = ap (λ (b : Bool). f b y z) first
    ∙ (ap (λ (b : Bool). f u b z) second ∙ ap (λ (b : Bool). f u v b) third)

-- a function of three literals of a graph that grew
three_before : (f : Bool → Bool → Bool → Bool) (old between new : List Node) (l x y z : ℕ)
    → Extends old between → IsWithin old x → IsWithin old y → IsWithin old z
    → HasValue new l (λ a. f (literal_value between a x) (literal_value between a y)
    (literal_value between a z))
    → HasValue new l (λ a. f (literal_value old a x) (literal_value old a y)
    (literal_value old a z))
three_before f old between new l x y z e in_x in_y in_z has =
    said new l (λ a. f (literal_value between a x) (literal_value between a y)
    (literal_value between a z)) (λ a. f (literal_value old a x) (literal_value old a y)
    (literal_value old a z)) has
    (λ a. three f _ _ _ _ _ _ (e.same x a in_x) (e.same y a in_y) (e.same z a in_z))

pub adder_is_zero : (old between new : List Node) (x y z s c w n m : ℕ) → IsWithin old x
    → IsWithin old y → IsWithin old z → w < 2 ^ 128
    → n ≡ (0 + (2 ^ 128 - w)) % 2 ^ 128 → m ≡ (n + n) % 2 ^ 128
    → Extends old between → HasValue between s (λ a. differ (differ (literal_value old a x)
    (literal_value old a y)) (literal_value old a z))
    → Extends between new → HasValue new c (λ a. majority (literal_value between a x)
    (literal_value between a y) (literal_value between a z))
    → IsZeroStep new (record { literal = x; factor = w } ∷ (record { literal = y; factor = w }
    ∷ (record { literal = z; factor = w } ∷ (record { literal = s; factor = n }
    ∷ (record { literal = c; factor = m } ∷ [])))))
adder_is_zero old between new x y z s c w n m in_x in_y in_z low less twice e sum e2 carry =
    let fx : Value = λ a. literal_value old a x in
    let fy : Value = λ a. literal_value old a y in
    let fz : Value = λ a. literal_value old a z in
    let fs : Value = λ a. differ (differ (literal_value old a x) (literal_value old a y))
    (literal_value old a z) in
    let fc : Value = λ a. majority (literal_value old a x) (literal_value old a y)
    (literal_value old a z) in
    let all = extends_along old between new e e2 in
    let c_has = has_cons new c m [] fc (λ a. 0) (three_before majority old between new c x y z e
    in_x in_y in_z carry) (has_none new) in
    let s_has = has_cons new s n _ fs (λ a. m * bit (fc a) + 0) (moved between new s fs e2 sum)
    c_has in
    let z_has = has_cons new z w _ fz (λ a. n * bit (fs a) + (m * bit (fc a) + 0))
    (moved old new z fz all (there old z in_z)) s_has in
    let y_has = has_cons new y w _ fy (λ a. w * bit (fz a)
    + (n * bit (fs a) + (m * bit (fc a) + 0))) (moved old new y fy all (there old y in_y)) z_has
    in
    let x_has = has_cons new x w _ fx (λ a. w * bit (fy a)
    + (w * bit (fz a) + (n * bit (fs a) + (m * bit (fc a) + 0)))) (moved old new x fx all
    (there old x in_x)) y_has in
    has_same new _ (λ a. w * bit (fx a)
    + (w * bit (fy a) + (w * bit (fz a) + (n * bit (fs a) + (m * bit (fc a) + 0))))) (λ a. 0)
    x_has
    (λ a. adder_at w n m (fx a) (fy a) (fz a) low less twice)

-- a parity
parity_at : (h : ℕ) (x y : Bool) → h ≡ 2 ^ 127
    → (h * bit x + (h * bit y + (h * bit (differ x y) + 0))) % 2 ^ 128 ≡ 0 % 2 ^ 128
parity_at h true true half = omega (arith, half)
parity_at h true false half = omega (arith, half)
parity_at h false true half = omega (arith, half)
parity_at h false false half = omega (arith, half)

pub parity_is_zero : (old new : List Node) (x y s h : ℕ) → IsWithin old x → IsWithin old y
    → h ≡ 2 ^ 127 → Extends old new
    → HasValue new s (λ a. differ (literal_value old a x) (literal_value old a y))
    → IsZeroStep new (record { literal = x; factor = h } ∷ (record { literal = y; factor = h }
    ∷ (record { literal = s; factor = h } ∷ [])))
parity_is_zero old new x y s h in_x in_y half e sum =
    let fx : Value = λ a. literal_value old a x in
    let fy : Value = λ a. literal_value old a y in
    let fs : Value = λ a. differ (literal_value old a x) (literal_value old a y) in
    let s_has = has_cons new s h [] fs (λ a. 0) sum (has_none new) in
    let y_has = has_cons new y h _ fy (λ a. h * bit (fs a) + 0)
    (moved old new y fy e (there old y in_y)) s_has in
    let x_has = has_cons new x h _ fx (λ a. h * bit (fy a) + (h * bit (fs a) + 0))
    (moved old new x fx e (there old x in_x)) y_has in
    has_same new _ (λ a. h * bit (fx a) + (h * bit (fy a) + (h * bit (fs a) + 0))) (λ a. 0) x_has
    (λ a. parity_at h (fx a) (fy a) half)

-- a literal that is split
split_at : (w n : ℕ) (x y : Bool) → w < 2 ^ 128 → n ≡ (0 + (2 ^ 128 - w)) % 2 ^ 128
    → (w * bit (x && y) + (w * bit (not x && y) + (n * bit y + 0))) % 2 ^ 128 ≡ 0 % 2 ^ 128
split_at w n true true low less = omega (arith, low, less)
split_at w n true false low less = omega (arith, low, less)
split_at w n false true low less = omega (arith, low, less)
split_at w n false false low less = omega (arith, low, less)

pub split_is_zero : (old between new : List Node) (x nx y l m w n : ℕ) → IsWithin old x
    → IsWithin old y → w < 2 ^ 128 → n ≡ (0 + (2 ^ 128 - w)) % 2 ^ 128
    → nx / 2 ≡ x / 2 → ((others : List Node) (a : ℕ → Bool) → literal_value others a nx
    ≡ not (literal_value others a x))
    → Extends old between → HasValue between l (λ a. literal_value old a x && literal_value old a y)
    → Extends between new → HasValue new m (λ a. literal_value between a nx && literal_value between
    a y)
    → IsZeroStep new (record { literal = l; factor = w } ∷ (record { literal = m; factor = w }
    ∷ (record { literal = y; factor = n } ∷ [])))
split_is_zero old between new x nx y l m w n in_x in_y low less node value e first e2 second =
    let fx : Value = λ a. literal_value old a x in
    let fy : Value = λ a. literal_value old a y in
    let fl : Value = λ a. literal_value old a x && literal_value old a y in
    let fm : Value = λ a. not (literal_value old a x) && literal_value old a y in
    let all = extends_along old between new e e2 in
    let m_is = said new m (λ a. literal_value between a nx && literal_value between a y) fm second
    (λ a. ap (λ (b : Bool). b && literal_value between a y) (value between a
    ∙ ap not (e.same x a in_x)) ∙ ap (λ (b : Bool). not (literal_value old a x) && b)
    (e.same y a in_y)) in
    let y_has = has_cons new y n [] fy (λ a. 0) (moved old new y fy all (there old y in_y))
    (has_none new) in
    let m_has = has_cons new m w _ fm (λ a. n * bit (fy a) + 0) m_is y_has in
    let l_has = has_cons new l w _ fl (λ a. w * bit (fm a) + (n * bit (fy a) + 0))
    (moved between new l fl e2 first) m_has in
    has_same new _ (λ a. w * bit (fl a) + (w * bit (fm a) + (n * bit (fy a) + 0))) (λ a. 0) l_has
    (λ a. split_at w n (fx a) (fy a) low less)

-- the carry of a complement
polarity_at : (w n : ℕ) (x y z : Bool) → w < 2 ^ 128 → n ≡ (0 + (2 ^ 128 - w)) % 2 ^ 128
    → (w * bit y + (w * bit z + (n * bit (majority x y z) + (n * bit (majority (not x) y z) + 0))))
    % 2 ^ 128 ≡ 0 % 2 ^ 128
polarity_at w n true true true low less = omega (arith, low, less)
polarity_at w n true true false low less = omega (arith, low, less)
polarity_at w n true false true low less = omega (arith, low, less)
polarity_at w n true false false low less = omega (arith, low, less)
polarity_at w n false true true low less = omega (arith, low, less)
polarity_at w n false true false low less = omega (arith, low, less)
polarity_at w n false false true low less = omega (arith, low, less)
polarity_at w n false false false low less = omega (arith, low, less)

pub polarity_is_zero : (old between new : List Node) (x nx y z c d w n : ℕ) → IsWithin old x
    → IsWithin old y → IsWithin old z → w < 2 ^ 128 → n ≡ (0 + (2 ^ 128 - w)) % 2 ^ 128
    → nx / 2 ≡ x / 2 → ((others : List Node) (a : ℕ → Bool) → literal_value others a nx
    ≡ not (literal_value others a x))
    → Extends old between → HasValue between c (λ a. majority (literal_value old a x)
    (literal_value old a y) (literal_value old a z))
    → Extends between new → HasValue new d (λ a. majority (literal_value between a nx)
    (literal_value between a y) (literal_value between a z))
    → IsZeroStep new (record { literal = y; factor = w } ∷ (record { literal = z; factor = w }
    ∷ (record { literal = c; factor = n } ∷ (record { literal = d; factor = n } ∷ []))))
polarity_is_zero old between new x nx y z c d w n in_x in_y in_z low less node value e first e2
    second =
    let fx : Value = λ a. literal_value old a x in
    let fy : Value = λ a. literal_value old a y in
    let fz : Value = λ a. literal_value old a z in
    let fc : Value = λ a. majority (literal_value old a x) (literal_value old a y)
    (literal_value old a z) in
    let fd : Value = λ a. majority (not (literal_value old a x)) (literal_value old a y)
    (literal_value old a z) in
    let all = extends_along old between new e e2 in
    let d_is = said new d (λ a. majority (literal_value between a nx) (literal_value between a y)
    (literal_value between a z)) fd second
    (λ a. three majority _ _ _ _ _ _ (value between a ∙ ap not (e.same x a in_x)) (e.same y a in_y)
    (e.same z a in_z)) in
    let d_has = has_cons new d n [] fd (λ a. 0) d_is (has_none new) in
    let c_has = has_cons new c n _ fc (λ a. n * bit (fd a) + 0) (moved between new c fc e2 first)
    d_has in
    let z_has = has_cons new z w _ fz (λ a. n * bit (fc a) + (n * bit (fd a) + 0))
    (moved old new z fz all (there old z in_z)) c_has in
    let y_has = has_cons new y w _ fy (λ a. w * bit (fz a)
    + (n * bit (fc a) + (n * bit (fd a) + 0))) (moved old new y fy all (there old y in_y)) z_has
    in
    has_same new _ (λ a. w * bit (fy a)
    + (w * bit (fz a) + (n * bit (fc a) + (n * bit (fd a) + 0)))) (λ a. 0) y_has
    (λ a. polarity_at w n (fx a) (fy a) (fz a) low less)

elim_true : true ≡ false → ⊥
elim_true e = cc

-- one of two equal literals in place of the other
alias_at : (w n : ℕ) (x y : Bool) → w < 2 ^ 128 → n ≡ (0 + (2 ^ 128 - w)) % 2 ^ 128 → x ≡ y
    → (n * bit x + (w * bit y + 0)) % 2 ^ 128 ≡ 0 % 2 ^ 128
alias_at w n true true low less same = omega (arith, low, less)
alias_at w n true false low less same = absurd (elim_true same)
alias_at w n false true low less same = absurd (elim_true (sym same))
alias_at w n false false low less same = omega (arith, low, less)

pub alias_is_zero : (nodes : List Node) (x y w n : ℕ) → IsWithin nodes x → IsWithin nodes y
    → w < 2 ^ 128 → n ≡ (0 + (2 ^ 128 - w)) % 2 ^ 128 → AreEqual nodes x y
    → IsZeroStep nodes (record { literal = x; factor = n } ∷ (record { literal = y; factor = w }
    ∷ []))
alias_is_zero nodes x y w n in_x in_y low less same =
    let fx : Value = λ a. literal_value nodes a x in
    let fy : Value = λ a. literal_value nodes a y in
    let y_has = has_cons nodes y w [] fy (λ a. 0) (there nodes y in_y) (has_none nodes) in
    let x_has = has_cons nodes x n _ fx (λ a. w * bit (fy a) + 0) (there nodes x in_x) y_has in
    has_same nodes _ (λ a. n * bit (fx a) + (w * bit (fy a) + 0)) (λ a. 0) x_has
    (λ a. alias_at w n (fx a) (fy a) low less (same.value a))

-- terms of a graph that grew
pub sum_same : (old new : List Node) (ts : List Term) (a : ℕ → Bool) → Extends old new
    → All (λ t. IsWithin old t.literal) ts
    → terms_sum (literal_value new a) ts ≡ terms_sum (literal_value old a) ts
sum_same old new [] a e within = refl
sum_same old new (t ∷ ts) a e within =
    let one : Term → ℕ = λ u. u.factor * bit (literal_value new a u.literal) in
    let other : Term → ℕ = λ u. u.factor * bit (literal_value old a u.literal) in
    let first = ap (λ (b : Bool). t.factor * bit b) (e.same t.literal a (within 0 t (omega arith)))
    in
    let rest = sum_same old new ts a e (λ k d inside. within (suc k) d (omega (arith, inside))) in
    omega (arith, sum_by-cons one t ts, sum_by-cons other t ts, first, rest)

pub sum_before : (old new : List Node) (ts : List Term) (f : Number) → Extends old new
    → HasSum old ts f → HasSum new ts f
sum_before old new ts f e has = record {
  within = λ k d inside. omega (arith, has.within k d inside, e.longer);
  sum = λ a. ap (λ (n : ℕ). n % 2 ^ 128) (sum_same old new ts a e has.within) ∙ has.sum a;
}

less_mod : (S T p : ℕ) → S % 2 ^ 128 ≡ T % 2 ^ 128 → (S + p) % 2 ^ 128 ≡ (T + p) % 2 ^ 128
less_mod S T p h = omega (arith, h)

-- one more term behind others
pub has_push : (nodes : List Node) (ts us : List Term) (l w : ℕ) (f : Value) (h : Number)
    → us ≡ ts ++ record { literal = l; factor = w } ∷ []
    → HasSum nodes ts h → HasValue nodes l f → HasSum nodes us (λ a. h a + w * bit (f a))
has_push nodes ts us l w f h pushed has one =
    let t : Term = record { literal = l; factor = w } in
    let P : Term → Type 0 = λ u. IsWithin nodes u.literal in
    subst (λ (all : List Term). HasSum nodes all (λ a. h a + w * bit (f a))) (sym pushed) (record {
      within = All-push P ts t has.within one.within;
      sum = λ a.
          ap (λ (n : ℕ). n % 2 ^ 128)
          (sum_by_push (λ (u : Term). u.factor * bit (literal_value nodes a u.literal)) ts t)
          ∙ (ap (λ (b : Bool). (terms_sum (literal_value nodes a) ts + w * bit b) % 2 ^ 128)
          (one.value a)
          ∙ less_mod (terms_sum (literal_value nodes a) ts) (h a) (w * bit (f a)) (has.sum a));
    })

times_at : (H w f S T : ℕ) (x y : Bool) → T ≡ S + f * bit y
    → ((H + (w * bit x) * S) + ((w * f) % 2 ^ 128) * bit (x && y)) % 2 ^ 128 ≡ (H + (w * bit x) * T)
    % 2 ^ 128
times_at H w f S T true true more = omega (arith, ap (λ (n : ℕ). w * n) more)
times_at H w f S T true false more = omega (arith, ap (λ (n : ℕ). w * n) more)
times_at H w f S T false true more = omega arith
times_at H w f S T false false more = omega arith

pub times_more : (old between new : List Node) (x w i l : ℕ) (ts out outs : List Term) (t : Term)
    (h : Number) → Extends old between → Extends between new
    → All (λ u. IsWithin old u.literal) ts → IsWithin old x → i < length ts → t ≡ get_or ts i t
    → HasSum between out (λ a. h a + (w * bit (literal_value old a x)) * terms_sum
    (literal_value old a) (take i ts))
    → HasValue new l (λ a. literal_value between a x && literal_value between a t.literal)
    → outs ≡ out ++ record { literal = l; factor = (w * t.factor) % 2 ^ 128 } ∷ []
    → HasSum new outs (λ a. h a + (w * bit (literal_value old a x)) * terms_sum
    (literal_value old a) (take (i + 1) ts))
times_more old between new x w i l ts out outs t h e e2 within in_x inside read has made pushed =
    let in_t : IsWithin old t.literal = subst (λ (u : Term). IsWithin old u.literal) (sym read)
    (within i t inside) in
    let f : Value = λ a. literal_value old a x && literal_value old a t.literal in
    let before : Number = λ a. h a + (w * bit (literal_value old a x)) * terms_sum
    (literal_value old a) (take i ts) in
    let l_is = said new l (λ a. literal_value between a x && literal_value between a t.literal) f
    made
    (λ a. ap (λ (b : Bool). b && literal_value between a t.literal) (e.same x a in_x)
    ∙ ap (λ (b : Bool). literal_value old a x && b) (e.same t.literal a in_t)) in
    has_same new outs (λ a. before a + ((w * t.factor) % 2 ^ 128) * bit (f a)) (λ a. h a
    + (w * bit (literal_value old a x)) * terms_sum (literal_value old a) (take (i + 1) ts))
    (has_push new out outs l ((w * t.factor) % 2 ^ 128) f before pushed (sum_before between new out
    before e2 has) l_is)
    (λ a.
    let one : Term → ℕ = λ u. u.factor * bit (literal_value old a u.literal) in
    times_at (h a) w t.factor (terms_sum (literal_value old a) (take i ts))
    (terms_sum (literal_value old a) (take (i + 1) ts)) (literal_value old a x)
    (literal_value old a t.literal)
    (sum_by_more one ts i t inside ∙ ap (λ (u : Term). terms_sum (literal_value old a) (take i ts)
    + u.factor * bit (literal_value old a u.literal)) (sym read)))

pub times_all : (old new : List Node) (x w i : ℕ) (ts out : List Term) (h : Number) → length ts ≤ i
    → HasSum new out (λ a. h a + (w * bit (literal_value old a x)) * terms_sum (literal_value old a)
    (take i ts))
    → HasSum new out (λ a. h a + (w * bit (literal_value old a x)) * terms_sum (literal_value old a)
    ts)
times_all old new x w i ts out h whole has =
    subst (λ (us : List Term). HasSum new out (λ a. h a + (w * bit (literal_value old a x)) *
    terms_sum (literal_value old a) us)) (take_all i ts whole) has

pub times_none : (nodes : List Node) (x w : ℕ) (ts out : List Term) (h : Number)
    → HasSum nodes out h
    → HasSum nodes out (λ a. h a + (w * bit (literal_value nodes a x)) * terms_sum
    (literal_value nodes a) (take 0 ts))
times_none nodes x w ts out h has =
    has_same nodes out h (λ a. h a + (w * bit (literal_value nodes a x)) * terms_sum
    (literal_value nodes a) (take 0 ts)) has (λ a. omega arith)

-- a zero step times a literal
none_at : (T : ℕ) (b : Bool) → T % 2 ^ 128 ≡ 0 % 2 ^ 128 → (0 + (1 * bit b) * T) % 2 ^ 128
    ≡ 0 % 2 ^ 128
none_at T true h = omega (arith, h)
none_at T false h = omega (arith, h)

pub product_is_zero : (nodes new : List Node) (by' : ℕ) (ts empty outs : List Term)
    → IsZeroStep nodes ts → empty ≡ []
    → ((h : Number) → HasSum nodes empty h
    → HasSum new outs (λ a. h a + (1 * bit (literal_value nodes a by')) * terms_sum
    (literal_value nodes a) ts)) → IsZeroStep new outs
product_is_zero nodes new by' ts empty outs zero_step none makes =
    let begun = subst (λ (us : List Term). HasSum nodes us (λ a. 0)) (sym none) (has_none nodes) in
    has_same new outs (λ a. 0 + (1 * bit (literal_value nodes a by')) * terms_sum
    (literal_value nodes a) ts) (λ a. 0) (makes (λ a. 0) begun)
    (λ a. none_at (terms_sum (literal_value nodes a) ts) (literal_value nodes a by')
    (zero_step.sum a))
