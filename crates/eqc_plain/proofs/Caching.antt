use Rattle.std.proofs.Common.{◌≡◌, ℕ, Option, Some, None, IfSome, ◌-◌, Bool, true, false, cond}
use Rattle.std.proofs.Common.{◌++◌, ap, take, replicate, length-append, ◌+◌, ◌/◌, ◌%◌, ◌^◌, ◌<◌}
use Rattle.std.proofs.Common.{◌≤◌, List, length, get_or, set, refl, sym, ◌∙◌, arith, ◌⊎◌, inl, inr}
use Rattle.std.proofs.lemmas.Bool.{cases_eq, cases_lt}
use Rattle.std.proofs.lemmas.List.{length-replicate}
use Rattle.std.proofs.lemmas.List.{get_or-set_same, get_or-set_other, length-set, take_all}
use Rattle.std.proofs.lemmas.List.{get_or_append_left, get_or-append_right, get_or-replicate}
use Rattle.eqc_tree.specs.Operation.{tag_of}
use Rattle.eqc_tree.specs.Word.{cell_word}
use Rattle.eqc_tree.specs.declared.operation.Op.{Op}
use Rattle.eqc_tree.specs.declared.operation.Op.TheVariants.{And, Or, Xor, AndNot}
use Rattle.eqc_tree.proofs.Tags.{tag_of-injective}
use Rattle.eqc_plain.specs.Meaning.{Meaning}
use Rattle.eqc_plain.specs.Combining.{IsResult}
use Rattle.eqc_plain.specs.Cache.{IsCache}
use Rattle.eqc_plain.specs.Cells.{IsKept, HasNoMore, MayHave}
use Rattle.eqc_plain.specs.Terminal.{AreOperands}
use Rattle.eqc_plain.proofs.Combining.{Stays, result_stays, from_ordered, to_ordered}

-- tags go from 1 to 4, and tell operations apart
pub tag_range : (op : Op) → (1 ≤ tag_of op) × (tag_of op < 5)
tag_range And = (omega arith, omega arith)
tag_range Or = (omega arith, omega arith)
tag_range Xor = (omega arith, omega arith)
tag_range AndNot = (omega arith, omega arith)

-- the fields of two equal words
pub record AreFields (s f g x t p q y : ℕ) : Type 0 where
  pub tag : s ≡ t
  pub first : f ≡ p
  pub second : g ≡ q
  pub found : x ≡ y

cell_once : (s f g x t p q y : ℕ) → f < 2 ^ 20 → g < 2 ^ 20 → x < 2 ^ 20 → p < 2 ^ 20 → q < 2 ^ 20
    → y < 2 ^ 20 → cell_word s f g x ≡ cell_word t p q y → AreFields s f g x t p q y
cell_once s f g x t p q y a b c d h i e = record {
  tag = omega arith;
  first = omega arith;
  second =
      omega arith;
  found = omega arith;
}

-- an empty cache is right
pub empty_cache : (m : Meaning) (cells : List ℕ) → length cells ≡ 0 → IsCache m cells
empty_cache m cells e = record { right = λ op f g r h. absurd (omega (arith, h.there)) }

-- a cache stays right where all that was there means the same
pub cache_stays : (m n : Meaning) (cells : List ℕ) → Stays m n → IsCache m cells → IsCache n cells
cache_stays m n cells s c = record { right = λ op f g r h. result_stays s (c.right op f g r h) }

-- what was found is right
pub found_right : (m : Meaning) (cells : List ℕ) (op : Op) (f g : ℕ) (found : Option ℕ)
    → IsCache m cells → IfSome found (IsKept cells op f g) → IfSome found (IsResult m op f g)
found_right m cells op f g None c k = tt
found_right m cells op f g (Some r) c k = from_ordered m op f g k.p k.q r k.operands
    (c.right op k.p k.q r k.entry)

-- a cache without new entries stays right
pub no_more_right : (m : Meaning) (old new : List ℕ) → HasNoMore old new → IsCache m old
    → IsCache m new
no_more_right m old new more c = record { right = λ op f g r h. c.right op f g r (more op f g r h) }

-- a right result may be kept
pub kept_right : (m : Meaning) (old new : List ℕ) (op : Op) (f g x : ℕ) → MayHave op f g x old new
    → IsResult m op f g x → IsCache m old → IsCache m new
kept_right m old new op f g x may right c =
    record {
      right = λ o p q r h. elim (may o p q r h) [
        | inl w ↦ c.right o p q r w
        | inr w ↦ rw (← w.operation, ← w.found) (to_ordered m op f g p q x w.operands right)
      ];
    }

-- a word that is no result
empty_cell : (op : Op) (f g r w : ℕ) → w ≡ 0 → w ≡ cell_word (tag_of op) f g r → ⊥
empty_cell op f g r w z e = omega (arith, tag_range op)

-- more cells, all empty, have no more entries
pub lengthened : (old new : List ℕ) → ((k : ℕ) → k < length new
    → ((k < length old) × (get_or new k 0 ≡ get_or old k 0)) ⊎ (get_or new k 0 ≡ 0))
    → HasNoMore old new
lengthened old new m op f g r h =
    elim (m h.place h.there) [
      | inl w ↦ record {
        place = h.place;
        there = w.0;
        first = h.first;
        second = h.second;
        fits =
            h.fits;
        word = sym w.1 ∙ h.word;
      }
      | inr w ↦ absurd (empty_cell op f g r (get_or new h.place 0) w h.word)
    ]

-- one cell is written
pub written : (cells : List ℕ) (op : Op) (f g p q x i : ℕ) → p < 2 ^ 20 → q < 2 ^ 20 → x < 2 ^ 20
    → AreOperands op f g p q → i < length cells →
    MayHave op f g x cells (set cells i (cell_word (tag_of op) p q x))
written cells op f g p q x i hp hq hx m inside o u v r h =
    elim (cases_eq h.place i) [
      | inl here ↦
          let n : get_or (set cells i (cell_word (tag_of op) p q x)) h.place 0
          ≡ cell_word (tag_of op) p q x =
          rw here (get_or-set_same cells i (cell_word (tag_of op) p q x) 0 inside) in
          let s = cell_once (tag_of op) p q x (tag_of o) u v r hp hq hx h.first h.second h.fits
          (sym n ∙ h.word) in
          inr (record {
            operation = tag_of-injective op o s.tag;
            operands =
                rw (← s.first, ← s.second) m;
            found = s.found;
          })
      | inr there ↦
          inl (record {
            place = h.place;
            there = omega (arith, h.there, length-set cells i (cell_word (tag_of op) p q x));
            first = h.first;
            second = h.second;
            fits = h.fits;
            word = sym (get_or-set_other cells i h.place (cell_word (tag_of op) p q x) 0 there)
                ∙ h.word;
          })
    ]

-- a cell whose operation and operands are those that are asked for
pub cell_found : (cells : List ℕ) (op : Op) (f g p q k r : ℕ) → p < 2 ^ 20 → q < 2 ^ 20
    → AreOperands op f g p q → k < length cells →
    get_or cells k 0 / 2 ^ 20 ≡ cell_word (tag_of op) p q 0 / 2 ^ 20 → r ≡ get_or cells k 0 % 2 ^ 20
    → IsKept cells op f g r
cell_found cells op f g p q k r hp hq m h e er =
    record {
      p = p;
      q = q;
      operands = m;
      entry = record {
        place = k;
        there = h;
        first = hp;
        second =
            hq;
        fits = omega arith;
        word = omega arith;
      };
    }

-- operands stay small as they change places
pub ordered_small : (op : Op) (f g p q n : ℕ) → f < n → g < n → AreOperands op f g p q → (p < n)
    × (q < n)
ordered_small op f g p q n hf hg (inl e) = (omega arith, omega arith)
ordered_small op f g p q n hf hg (inr e) = (omega arith, omega arith)

-- cells that were added are empty
pub filled : (b : Bool) (n m : ℕ) (old new : List ℕ) → length old ≤ n → m ≡ n - length old
    → new ≡ cond b (take n old ++ replicate m 0) old →
    (k : ℕ) → k < length new → ((k < length old) × (get_or new k 0 ≡ get_or old k 0))
    ⊎ (get_or new k 0 ≡ 0)
filled false n m old new h z e k b = inl (omega (arith, ap length e), ap (λ l. get_or l k 0) e)
filled true n m old new h z e k b =
    let t : new ≡ old ++ replicate m 0 = e ∙ ap (λ l. l ++ replicate m 0) (take_all n old h) in
    elim (cases_lt k (length old)) [
      | inl low ↦ inl (
        low,
        ap (λ l. get_or l k 0) t ∙ get_or_append_left old (replicate m 0) 0 k
            low,
      )
      | inr high ↦
          let zeros : List ℕ = replicate m 0 in
          let l : length new ≡ length old + length zeros = ap length t ∙ length-append old zeros in
          let r : length zeros ≡ m = length-replicate {A = ℕ} m 0 in
          inr (ap (λ l. get_or l k 0) t
          ∙ (get_or-append_right old (replicate m 0) (length old) k 0 refl high
          ∙ get_or-replicate m (k - length old) 0 0 (omega (arith, l, r))))
    ]
