-- The steps on boxes are allowed by the rule, whatever the table is when its word changes.
use Rattle.std.proofs.Common.{◌≡◌, ◌⊎◌, ℕ, ◌+◌, ◌*◌, ◌^◌, ◌<◌, ◌≤◌, List, length, set, get_or, true}
use Rattle.std.proofs.Common.{refl, sym, ap, subst, ◌∙◌, arith, inl, inr, length-append}
use Rattle.std.specs.HashMap.{HashMap}
use native.Mathlib.Decide.{dec_le}
use mathlib.Core.Option.{some}
use lib.ListN.{get_elem?}
use Rattle.atomic_table.specs.Table.{Me, Allows}
use Rattle.eqc_tree.specs.Operation.{tag_of}
use Rattle.eqc_tree.specs.declared.operation.Op.{Op}
use Rattle.eqc_core.specs.declared.sizes.Sizes.{Sizes}
use Rattle.eqc_core.specs.View.{View}
use Rattle.eqc_core.specs.Words.{times, cell_names, slots_of, operation_of, first_of, second_of}
use Rattle.eqc_core.specs.Words.{result_of}
use Rattle.eqc_core.specs.Trees.{IsFilled, IsTask, IsStop, IsBoxWord}
use Rattle.eqc_core.specs.Lawful.{Lawful}
use Rattle.eqc_core.specs.Moves.{AreHeld, without_each}
use Rattle.eqc_core.specs.Sharing.{boxed_words, boxed}
use Rattle.eqc_core.proofs.Lists.{get_at}
use Rattle.eqc_core.proofs.Names.{times-append, times-slots_of, names_first, names_second}
use Rattle.eqc_core.proofs.Names.{names_result, length-without_each, length-slots_of}
use Rattle.eqc_core.proofs.Sharing.{tag_range, swap_box_keeps}
use Rattle.eqc_guard.specs.Known.{flat, Known, Knows, IsHeld, tree_of}
use Rattle.eqc_guard.specs.Telling.{Told, IsRightHere}
use Rattle.eqc_guard.specs.Sharing.{IsParcelWord, Receives, MayPutWord}
use Rattle.eqc_guard.specs.Rule.{Held, boxes_from}
use Rattle.eqc_guard.proofs.Laid.{set_box, get_box}
use Rattle.eqc_guard.proofs.Learning.{held_tree, known_right, filled_result}
use Rattle.eqc_guard.proofs.Making.{given_held}
use Rattle.eqc_guard.proofs.Moves.{plain, size}
use Rattle.eqc_guard.proofs.Counts.{slots_held, length-without_all}

no_operation : (word : ℕ) → word ≡ 0 → operation_of word ≡ 0
unfolding operation_of
no_operation word e = omega arith

-- a box's word that has an operation's number has its result
is_filled : (nodes : List ℕ) (word : ℕ) (op : Op) → operation_of word ≡ tag_of op
    → IsBoxWord nodes word → IsFilled nodes word
is_filled nodes word op tag (inl (inl e)) = absurd (let n = no_operation word e in let r =
    tag_range op in omega arith)
is_filled nodes word op tag (inl (inr f)) = f
is_filled nodes word op tag (inr (inl t)) = absurd (let from = t.from in let r = tag_range op in
    omega arith)
is_filled nodes word op tag (inr (inr s)) = absurd (let from = s.from in let r = tag_range op in
    omega arith)

is_parcel : (nodes : List ℕ) (word : ℕ) → IsBoxWord nodes word → IsParcelWord word
is_parcel nodes word (inl (inl e)) = inl e
is_parcel nodes word (inl (inr f)) = inr (inl (f.operation, f.tag))
is_parcel nodes word (inr rest) = inr (inr rest)

-- the names of the word that came out are held
came_held : (v : View) (old word x : ℕ) → 0 < times x (cell_names old) → IsHeld (boxed v old word) x
came_held v old word x named = go (dec_le 2 x)
  where
    go : Dec (2 ≤ x) → IsHeld (boxed v old word) x
    go (yes two) = inr (omega (
      arith,
      times-append x (without_each (slots_of (cell_names word))
          v.held) (slots_of (cell_names old)),
      times-slots_of x (cell_names old) two,
    ))
    go (no n) = inl (omega arith)

receives : (nodes : List ℕ) (v : View) (old word : ℕ) (k : Known) → IsBoxWord nodes old
    → k.core ≡ boxed v old word → Knows nodes k → Receives old k
receives nodes v old word k is core known = record {
  parcel = is_parcel nodes old is;
  right = λ op tag a. filled_result nodes k old (tree_of k (result_of old)) known
      (is_filled nodes old op tag is) (held_tree nodes k (result_of old) known
      (held (result_of old) (names_result old)))
      (held (first_of old) (names_first old)) (held (second_of old) (names_second old)) op tag a;
}
  where
    held : (x : ℕ) → 0 < times x (cell_names old) → IsHeld k.core x
    held x named = subst (λ (u : View). IsHeld u x) (sym core) (came_held v old word x named)

-- a word that a worker may put into a box is a box's
box_word : (nodes : List ℕ) (k : Known) (word : ℕ) → Knows nodes k
    → AreHeld (cell_names word) k.core.held → ((word ≡ 0) ⊎ IsRightHere k word)
    ⊎ (IsTask word ⊎ IsStop word) → IsBoxWord nodes word
box_word nodes k word knows held (inl (inl e)) = inl (inl e)
box_word nodes k word knows held (inl (inr r)) =
    inl
    (known_right nodes k word knows (given_held k (cell_names word) (first_of word) held
    (names_first word))
    (given_held k (cell_names word) (second_of word) held (names_second word))
    (given_held k (cell_names word) (result_of word) held (names_result word)) r)
box_word nodes k word knows held (inr rest) = inr rest

box_room : (v : View) (old word : ℕ) → length v.held ≤ 2 ^ 39 → length (boxed v old word).held
    ≤ 2 ^ 40
box_room v old word room =
    omega (
      arith,
      length-append (without_each (slots_of (cell_names word)) v.held) (slots_of (cell_names old)),
      length-without_each (slots_of (cell_names word)) v.held,
      length-slots_of (cell_names old),
    )

-- so many names are held after a swap
pub boxed_length : (v : View) (n n' old word : ℕ) → AreHeld (cell_names word) v.held
    → n ≡ length v.held →
    n' + length (slots_of (cell_names word)) ≡ n + length (slots_of (cell_names old))
    → n' ≡ length (boxed v old word).held
boxed_length v n n' old word held is same =
    let l = length-without_all (slots_of (cell_names word)) v.held (slots_held (cell_names word)
    v.held held) in
    omega (
      arith,
      length-append (without_each (slots_of (cell_names word)) v.held)
          (slots_of (cell_names old)),
    )

module _ {S : Type 0} (z : Sizes) (slots id i : ℕ) (me : Me (HashMap ℕ ℕ S) Known)
    (on : me.0.core.active ≡ true) where
  pub swap_box_allows : (b word : ℕ) → i ≡ boxes_from me.0.core.sizes + b → MayPutWord me.0 b word
      → Allows (Held {S = S} z) slots id me i (λ _. word) (λ n after. Told me i n word
      (boxed me.0.core n word) after (Receives n))
  swap_box_allows b word is may = plain z slots id i me on (λ steps. steps) (λ _. word)
      (λ n. boxed me.0.core n word) Receives (λ n. on) (λ w hs vs law at knows small.
      let same = size z slots id i me on w hs vs law at in
      let here : i ≡ boxes_from z + b = is ∙ ap (λ (y : Sizes). boxes_from y + b) same in
      let there : b < 16 * z.workers = subst (λ (y : Sizes). b < 16 * y.workers) same may.there in
      let found : get_or (flat w) i 0 ≡ get_or w.boxes b 0 = ap (λ (k : ℕ). get_or (flat w) k 0)
      here ∙ get_box z w hs vs law.sized b there in
      let box : get_elem? w.boxes b ≡ some (get_or w.boxes b 0) = get_at w.boxes b 0 (let n =
      law.sized.boxes in omega arith) in
      let is_box : IsBoxWord w.nodes (get_or (flat w) i 0) = subst (λ (n : ℕ). IsBoxWord w.nodes n)
      (sym found) (law.right.boxes b (get_or w.boxes b 0) box) in (
        boxed_words w b word,
        ap (λ (k : ℕ). set (flat w) k word) here ∙ set_box z w hs vs law.sized b word there,
        refl,
        subst (λ (n : ℕ). Lawful z (boxed_words w b word) hs (set vs id (boxed me.0.core n word)))
            (sym found)
            (swap_box_keeps z w hs vs id me.0.core law at on b word
            (may.ready, may.there, box_word w.nodes me.0 word knows may.held may.right, may.held)
            (box_room me.0.core (get_or w.boxes b 0) word may.room)),
        λ k e known. receives w.nodes me.0.core (get_or (flat w) i 0) word k is_box e known,
      ))
