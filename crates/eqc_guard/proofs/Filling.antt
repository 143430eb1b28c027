-- An entry's word may fill a cell where the entry may.
use Rattle.std.proofs.Common.{◌≡◌, ◌≢◌, ℕ, ◌^◌, ◌<◌, ◌≤◌, List, [], ◌∷◌, Option, Some, None, Bool}
use Rattle.std.proofs.Common.{refl, sym, ap, subst, arith, inl, inr}
use native.Mathlib.Decide.{dec_le}
use Rattle.eqc_tree.specs.Tree.{value}
use Rattle.eqc_tree.specs.Operation.{operate, tag_of}
use Rattle.eqc_tree.specs.Word.{cell_word}
use Rattle.eqc_tree.proofs.WordLemmas.{cell_fields}
use Rattle.eqc_core.specs.Words.{times, cell_names, operands, slots_of, operation_of, first_of}
use Rattle.eqc_core.specs.Words.{second_of, result_of}
use Rattle.eqc_core.specs.Moves.{AreHeld}
use Rattle.eqc_core.proofs.Names.{times-same, times-other, times-nil, times_more}
use Rattle.eqc_guard.specs.declared.filled.Filled.{Filled}
use Rattle.eqc_guard.specs.Known.{Known, IsKnown, tree_of}
use Rattle.eqc_guard.specs.Filling.{MaySwap, AreSmall, word_of, entry_names}
use Rattle.eqc_guard.specs.Telling.{MayFill}
use Rattle.eqc_guard.proofs.Learning.{held_named}

-- the fields of a word
pub record Fields (t f g r word : ℕ) : Type 0 where
  pub tag : operation_of word ≡ t
  pub first : first_of word ≡ f
  pub second : second_of word ≡ g
  pub result : result_of word ≡ r

pub fields : (t f g r : ℕ) → f < 2 ^ 20 → g < 2 ^ 20 → r < 2 ^ 20
    → Fields t f g r (cell_word t f g r)
unfolding operation_of first_of second_of result_of
fields t f g r a b c = let w = cell_fields t f g r a b c in record {
  tag = w.tag;
  first = w.first;
  second = w.second;
  result = w.found;
}

none : Fields 0 0 0 0 0
none = fields 0 0 0 0 (omega arith) (omega arith) (omega arith)

pub no_names : (held : List ℕ) → AreHeld (cell_names 0) held
no_names held x two =
    let n : cell_names 0 ≡ 0 ∷ 0 ∷ 0 ∷ [] = λ i. none.result i ∷ none.first i ∷ none.second i ∷ []
    in
    let apart : 0 ≢ x = λ e. absurd (omega arith) in
    omega (
      arith,
      ap (λ (l : List ℕ). times x l) n,
      times-other x 0 (0 ∷ 0 ∷ []) apart,
      times-other x 0 (0 ∷ []) apart,
      times-other x 0 [] apart,
      times-nil x,
    )

-- an empty cell gives no operands
pub no_operands : slots_of (operands 0) ≡ []
no_operands = λ i. slots_of (none.first i ∷ none.second i ∷ [])

-- the names that the word of an entry takes are the entry's
pub word_names : (filled : Option Filled) → AreSmall filled → slots_of (cell_names (word_of filled))
    ≡ entry_names filled
word_names None fits = λ i. slots_of (none.result i ∷ none.first i ∷ none.second i ∷ [])
word_names (Some e) fits =
    let w = fields (tag_of e.op) e.f.number e.g.number e.r.number fits.0 fits.1 fits.2 in
    λ i. slots_of (w.result i ∷ w.first i ∷ w.second i ∷ [])

-- a name of an entry is below 2 ^ 20
small : (k : Known) (names : List ℕ) (x : ℕ) → IsKnown k → k.core.sizes.names ≤ 2 ^ 20
    → AreHeld names k.core.held → 0 < times x names → x < 2 ^ 20
small k names x known few held there = go (dec_le 2 x)
  where
    go : Dec (2 ≤ x) → x < 2 ^ 20
    go (yes two) = let h = held x two in let lt =
        known.below x two (held_named k.core x (omega arith)) in omega arith
    go (no n) = omega arith

pub are_small : (k : Known) (c : ℕ) (filled : Option Filled) → IsKnown k → k.core.sizes.names
    ≤ 2 ^ 20 → MaySwap k c filled → AreSmall filled
are_small k c None known few may = tt
are_small k c (Some e) known few may =
    let names : List ℕ = e.r.number ∷ e.f.number ∷ e.g.number ∷ [] in
    let held : AreHeld (e.r.number ∷ e.f.number ∷ e.g.number ∷ []) k.core.held = may.entry.0 in (
      small k names e.f.number known few held (times_more e.f.number e.r.number (e.f.number
          ∷ e.g.number ∷ []) (omega (
            arith,
            times-same e.f.number e.f.number (e.g.number ∷ [])
                refl,
          ))),
      small k names e.g.number known few held
          (times_more e.g.number e.r.number (e.f.number ∷ e.g.number ∷ []) (times_more e.g.number
          e.f.number (e.g.number ∷ []) (omega (
            arith,
            times-same e.g.number e.g.number []
                refl,
          )))),
      small k names e.r.number known few held (omega (
        arith,
        times-same e.r.number e.r.number
            (e.f.number ∷ e.g.number ∷ []) refl,
      )),
    )

pub may_fill : (k : Known) (c : ℕ) (filled : Option Filled) → AreSmall filled → MaySwap k c filled
    → MayFill k c (word_of filled)
may_fill k c None fits may = record {
  ready = may.ready;
  there = may.there;
  quiet = may.quiet;
  right = inl refl;
  held = no_names k.core.held;
  few = may.few;
  room = may.room;
}
may_fill k c (Some e) fits may =
    let w = fields (tag_of e.op) e.f.number e.g.number e.r.number fits.0 fits.1 fits.2 in
    let names : e.r.number ∷ e.f.number ∷ e.g.number ∷ [] ≡ cell_names (word_of (Some e)) =
    λ i. sym w.result i ∷ sym w.first i ∷ sym w.second i ∷ [] in
    record {
      ready = may.ready;
      there = may.there;
      quiet = may.quiet;
      right = inr (record { operation = e.op; tag = w.tag; right = λ a. right a w });
      held = subst (λ (l : List ℕ). AreHeld l k.core.held) names may.entry.0;
      few = may.few;
      room = may.room;
    }
  where
    right : (a : ℕ → Bool) → Fields (tag_of e.op) e.f.number e.g.number e.r.number
        (word_of (Some e))
        → operate e.op (value (tree_of k (first_of (word_of (Some e)))) a)
        (value (tree_of k (second_of (word_of (Some e)))) a)
        ≡ value (tree_of k (result_of (word_of (Some e)))) a
    right a w = rw (w.first, w.second, w.result) (may.entry.1 a)
