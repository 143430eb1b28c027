-- What the calls of the cache leave of the cells in a copy of the words.
use Rattle.std.proofs.Common.{◌≡◌, ◌≢◌, ℕ, ◌+◌, ◌-◌, ◌%◌, ◌^◌, ◌<◌, ◌≤◌, List, get_or, Option, Some}
use Rattle.std.proofs.Common.{None, IfSome, refl, sym, ap, subst, ◌∙◌, arith}
use native.Mathlib.Decide.{ℕ_discrete, dec_le}
use Rattle.eqc_tree.specs.declared.operation.Op.{Op}
use Rattle.eqc_core.specs.declared.sizes.Sizes.{Sizes}
use Rattle.eqc_core.specs.View.{View}
use Rattle.eqc_core.specs.Counting.{downed}
use Rattle.eqc_guard.specs.Known.{Known, IsHeld, IsKnown}
use Rattle.eqc_guard.specs.Rule.{counts_from, cells_from}
use Rattle.eqc_guard.specs.Standing.{Standing, Steps}
use Rattle.eqc_guard.specs.Telling.{Copies}
use Rattle.eqc_guard.specs.Copying.{cell_in, KeepsCells, SetsCell}
use Rattle.eqc_guard.proofs.Copying.{cells_stay, count_keeps}
use Rattle.eqc_cache.specs.Placing.{in_order, place_of, entry_of, AreEmpty, IsEntry, HasResultAt}
use Rattle.eqc_cache.specs.Placing.{kept_word}
use Rattle.eqc_guard.specs.declared.reference.Ref.{Ref}
use Rattle.eqc_cache.proofs.Trading.{below}

-- no cell is said to be empty yet
pub none_empty : (k : Known) → AreEmpty 0 k k
none_empty k ws e = (ws, e, (λ c lt. absurd (omega arith)), λ c le. refl)

pub one_empty : (n : ℕ) (a b c : Known) → b.core.sizes ≡ a.core.sizes → AreEmpty n a b
    → SetsCell n 0 b c → AreEmpty (n + 1) a c
one_empty n a b c same first then ws e =
    let t = first ws e in
    let u = then t.0 t.1 in (
      u.0,
      u.1,
      (λ d lt. go d lt (ℕ_discrete d n)),
      λ d le. other d (λ q. absurd (omega arith))
          ∙ t.3 d (omega arith),
    )
  where
    other : (d : ℕ) → d ≢ n → cell_in a (then (first ws e).0 (first ws e).1).0 d
        ≡ cell_in a (first ws e).0 d
    other d is = let t = first ws e in let u = then t.0 t.1 in
        subst (λ (z : Sizes). get_or u.0 (cells_from z + d) 0 ≡ get_or t.0 (cells_from z + d) 0)
        same (u.3 d is)

    go : (d : ℕ) → d < n + 1 → Dec (d ≡ n) → cell_in a (then (first ws e).0 (first ws e).1).0 d ≡ 0
    go d lt (yes is) = let u = then (first ws e).0 (first ws e).1 in
        ap (λ (m : ℕ). cell_in a u.0 m) is ∙ subst (λ (z : Sizes). get_or u.0 (cells_from z + n) 0
        ≡ 0) same u.2
    go d lt (no is) = other d is ∙ (first ws e).2 d (omega arith)

-- a reference is given back
pub down_keeps : (x : ℕ) (s next : Standing) → IsKnown s.known → IsHeld s.known.core x
    → (x < 2 → next ≡ s) → (2 ≤ x → Steps s (downed s.known.core x) next)
    → (2 ≤ x → (n : ℕ) × Copies s.known (counts_from s.known.core.sizes + x) n
    ((n + (2 ^ 64 - 1)) % 2 ^ 64) next.known) →
    KeepsCells s.known next.known × (next.known.core.sizes ≡ s.known.core.sizes)
down_keeps x s next known held same step copies = go (dec_le 2 x)
  where
    go : Dec (2 ≤ x) → KeepsCells s.known next.known × (next.known.core.sizes ≡ s.known.core.sizes)
    go (no n) = let e = same (omega arith) in (
      subst (λ (t : Standing). KeepsCells s.known t.known) (sym e) (cells_stay s.known),
      ap (λ (t : Standing). t.known.core.sizes) e,
    )
    go (yes two) = let c = copies two in (
      count_keeps s.known next.known x c.0 ((c.0 + (2 ^ 64 - 1)) % 2 ^ 64)
          (below s x known two held) c.1,
      ap (λ (v : View). v.sizes) (step two).known.core,
    )

-- an entry that was put into the cell of its operands is stored
pub stores : (op : Op) (f g r a b d cells place word : ℕ) (p : ℕ × ℕ) (k after : Known) → a ≡ f
    → b ≡ g → d ≡ r → cells ≡ k.core.sizes.cells →
    p ≡ in_order op a b → place ≡ place_of cells op (p.0, p.1) → word ≡ entry_of op (p.0, p.1) d
    → SetsCell place word k after → SetsCell (place_of k.core.sizes.cells op (in_order op f g))
    (entry_of op (in_order op f g) r) k after
stores op f g r a b d cells place word p k after x y z n order at is sets =
    let q : p ≡ in_order op f g = order ∙ (λ i. in_order op (x i) (y i)) in
    let here : place ≡ place_of k.core.sizes.cells op (in_order op f g) = at
    ∙ (λ i. place_of (n i) op (q i)) in
    let text : word ≡ entry_of op (in_order op f g) r = is ∙ (λ i. entry_of op (q i) (z i)) in
    subst (λ (w : ℕ × ℕ). SetsCell w.0 w.1 k after) (λ i. (here i, text i)) sets

-- the word that a look at the cell of the operands found is the one that the copy has
pub seen_word : (op : Op) (f g a b cells place word : ℕ) (p : ℕ × ℕ) (k after : Known) → a ≡ f
    → b ≡ g → cells ≡ k.core.sizes.cells →
    p ≡ in_order op a b → place ≡ place_of cells op (p.0, p.1)
    → Copies k (cells_from k.core.sizes + place) word word after
    → (ws : List ℕ) → k.copy ≡ Some ws → (kept_word op f g k ws ≡ word) × (p ≡ in_order op f g)
seen_word op f g a b cells place word p k after x y n order at copies ws has =
    let q : p ≡ in_order op f g = order ∙ (λ i. in_order op (x i) (y i)) in
    let here : place ≡ place_of k.core.sizes.cells op (in_order op f g) = at
    ∙ (λ i. place_of (n i) op (q i)) in
    (ap {B = ℕ} (λ (c : ℕ). cell_in k ws c) (sym here) ∙ copies.seen ws has, q)

-- an entry stays one of the same operands, in the same word
pub entry_here : (op : Op) (p q : ℕ × ℕ) (word text : ℕ) → p ≡ q → text ≡ word → IsEntry op q text
    → IsEntry op (p.0, p.1) word
entry_here op p q word text e same is = subst (λ (w : ℕ). IsEntry op (p.0, p.1) w) same
    (subst (λ (r : ℕ × ℕ). IsEntry op r text) (sym e) is)

-- what was counted up is the result that the copy has
pub found_taken : (op : Op) (p : ℕ × ℕ) (c x : ℕ) (k : Known) (result : Option Ref)
    → IfSome result (λ r. r.number ≡ x) → HasResultAt op p c x k
    → IfSome result (λ r. HasResultAt op p c r.number k)
found_taken op p c x k None name has = tt
found_taken op p c x k (Some r) name has = subst (λ (n : ℕ). HasResultAt op p c n k) (sym name) has
