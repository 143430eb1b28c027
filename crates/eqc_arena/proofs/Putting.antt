-- A node is put into the draft, and its entry into the map of the stripe in hand.
use Rattle.std.proofs.Common.{◌≡◌, ℕ, ◌+◌, ◌^◌, ◌<◌, ◌≤◌, [], ◌∷◌, ◌++◌, length, sum_by, cond, eqb}
use Rattle.std.proofs.Common.{nat_eq, eq-eqb, ne_eqb, Bool, false, Option, Some, None, refl, sym}
use Rattle.std.proofs.Common.{ap, subst, ◌∙◌, arith}
use Rattle.std.proofs.lemmas.List.Sums.{sum_by_push, sum_by-cons}
use Rattle.indexmap.specs.IndexMap.{insert_entry}
use native.Mathlib.Decide.{ℕ_discrete}
use Rattle.eqc_tree.specs.Tree.{Tree, Node, StartsAbove}
use Rattle.eqc_tree.specs.Word.{node_word}
use Rattle.eqc_core.specs.View.{View, Hand, draft_of, hand_of}
use Rattle.eqc_core.specs.Words.{slots_of, children}
use Rattle.eqc_core.specs.Tables.{Entries, table_word}
use Rattle.eqc_core.specs.Moves.{AreHeld}
use Rattle.eqc_core.specs.Locking.{SameEntries}
use Rattle.eqc_core.specs.Making.{wrote}
use Rattle.eqc_core.proofs.Names.{times-slots_of, times-nil}
use Rattle.eqc_core.proofs.Bounds.{fields}
use Rattle.eqc_guard.specs.Known.{IsKnown, tree_of}
use Rattle.eqc_guard.specs.Standing.{Standing, Steps}
use Rattle.eqc_guard.specs.Locking.{MayHome}
use Rattle.eqc_guard.specs.Making.{MayMake, drafted}
use Rattle.eqc_guard.proofs.Making.{held_small}
use Rattle.eqc_arena.specs.Changing.{Changes, Exchanges}
use Rattle.eqc_arena.specs.Nodes.{MayPut, IsMade}
use Rattle.eqc_arena.proofs.Changing.{hand_now, draft_now, ready_now, names_now, same_tree, on}
use Rattle.eqc_arena.proofs.Changing.{writes}

-- the word is as often in a map as in the table in hand
same_words : (word : ℕ) (t u : Entries) → SameEntries t u → table_word word t ≡ table_word word u
unfolding table_word
same_words word t u same = same (λ e. cond (eqb e.0 word) 1 0)

-- one entry more on both sides
pub same_more : (e : ℕ × ℕ) (t u : Entries) → SameEntries t u
    → SameEntries (t ++ e ∷ []) (u ++ e ∷ [])
same_more e t u same f = sum_by_push f t e ∙ (ap (λ n. n + f e) (same f) ∙ sym (sum_by_push f u e))

-- the node may be written once both children are counted for it
module _ (t : Entries) (slot variable low high : ℕ) (old mid : Standing) (may : MayPut old.known t
    slot variable low high)
    (c : Exchanges [] (slots_of (low ∷ high ∷ [])) old mid) (room : length mid.known.core.held
    ≤ 2 ^ 39) where
  hand : Hand
  hand = may.home.0

  in_hand : mid.known.core.hand ≡ Some may.home.0
  in_hand = hand_now c ∙ may.home.2.1

  enough : AreHeld (low ∷ high ∷ []) mid.known.core.held
  enough x two = omega (arith, names_now c x, times-slots_of x (low ∷ high ∷ []) two, times-nil x)

  pub may_make : (first second : ℕ) → first ≡ low → second ≡ high
      → MayMake mid.known variable first second
  may_make first second a b = subst (λ (p : ℕ × ℕ). MayMake mid.known variable p.0 p.1)
      (λ i. (sym a i, sym b i)) (record {
        ready = ready_now c may.home.2.0;
        draft = (slot, draft_now c ∙ may.draft);
        hand = (
          may.home.0,
          in_hand,
          (
            may.home.1,
            sym (same_words (node_word variable low high) t may.home.0.entries
                may.home.2.2) ∙ may.new,
          ),
        );
        few = subst (λ (v : View). variable < v.sizes.variables) (sym c.core) may.few;
        above_low = subst (λ (s : Tree). StartsAbove variable s) (sym (same_tree c low may.low_held))
            may.above_low;
        above_high = subst (λ (s : Tree). StartsAbove variable s) (sym (same_tree c high may.high_held))
            may.above_high;
        differ = may.differ;
        held = enough;
        room = room;
      })

  -- and then it is made
  module _ (new : Standing) (first second r : ℕ) (a : first ≡ low) (b : second ≡ high)
      (known : IsKnown old.known)
      (step : Steps mid (drafted mid.known.core (node_word variable first second)) new)
      (name : mid.known.core.draft ≡ Some r) (tree : tree_of new.known r
      ≡ Node variable (tree_of mid.known first) (tree_of mid.known second)) where
    draft : mid.known.core.draft ≡ Some slot
    draft = draft_now c ∙ may.draft

    slot_is : slot ≡ r
    slot_is = let e : Some slot ≡ Some r = sym draft ∙ name in cc

    low_small : first < 2 ^ 20
    low_small = subst (λ (n : ℕ). n < 2 ^ 20) (sym a) (held_small old.known low known may.low_held)

    high_small : second < 2 ^ 20
    high_small = subst (λ (n : ℕ). n < 2 ^ 20) (sym b) (held_small old.known high known
        may.high_held)

    word : ℕ
    word = node_word variable first second

    wrote_here : Steps mid (wrote mid.known.core slot may.home.0 (node_word variable first second))
        new
    wrote_here = subst (λ (v : View). Steps mid v new) (λ j. wrote mid.known.core
        (draft_of (draft j)) (hand_of (in_hand j)) (node_word variable first second)) step

    pub after : Hand
    after = record may.home.0 {
      entries = may.home.0.entries ++ (
        node_word variable first second,
        slot,
      ) ∷ [];
    }

    made_hand : Changes [] (slot ∷ []) (Some (record may.home.0 {
      entries = may.home.0.entries
          ++ (node_word variable first second, slot) ∷ [];
    })) None old new
    made_hand =
        let f = fields variable first second low_small high_small in
        let both : children (node_word variable first second) ≡ low ∷ high ∷ [] =
        λ i. (f.low_is ∙ a) i ∷ (f.high_is ∙ b) i ∷ [] in
        on c (slot ∷ []) (writes slot low high (node_word variable first second) may.home.0 mid new
        enough both wrote_here) (λ x. omega (arith)) (λ x. omega (arith)) (omega arith)

    pub made : IsMade variable low high r old new
    made = record {
      changes =
          subst (λ (h : Option Hand). Changes [] (r ∷ []) h None old new) (sym (hand_now made_hand))
          (subst (λ (n : ℕ). Changes [] (n ∷ []) (Some (record may.home.0 {
            entries =
                may.home.0.entries ++ (node_word variable first second, slot) ∷ [];
          })) None old new)
          slot_is made_hand);
      first = subst (λ (n : ℕ). 2 ≤ n) slot_is (known.draft slot may.draft).0;
      tree = tree ∙ (λ i. Node variable ((ap (tree_of mid.known) a ∙ same_tree c low may.low_held)
          i) ((ap (tree_of mid.known) b ∙ same_tree c high may.high_held) i));
    }

    pub home_made : (s : ℕ) (u : Entries) → u ≡ t ++ (node_word variable first second, slot) ∷ []
        → MayHome old.known.core s t → MayHome new.known.core s u
    home_made s u is home =
        let h : home.0 ≡ may.home.0 = (let e : Some home.0 ≡ Some may.home.0 = sym home.2.1
        ∙ may.home.2.1 in cc) in (
          record may.home.0 {
            entries = may.home.0.entries ++ (
              node_word variable first second,
              slot,
            ) ∷ [];
          },
          ap (λ (g : Hand). g.stripe) (sym h) ∙ home.1,
          (
            ready_now made_hand may.home.2.0,
            hand_now made_hand,
            subst (λ (l : Entries). SameEntries l (may.home.0.entries
                ++ (node_word variable first second, slot) ∷ [])) (sym is)
                (same_more (node_word variable first second, slot) t may.home.0.entries
                may.home.2.2),
          ),
        )

-- a word that is not in the map comes last
pub inserted : (word slot : ℕ) (t : Entries) → table_word word t ≡ 0
    → insert_entry nat_eq t word slot ≡ t ++ (word, slot) ∷ []
unfolding table_word
inserted word slot [] none = refl
inserted word slot (e ∷ es) none = go (ℕ_discrete e.0 word) (λ rest. inserted word slot es rest)
  where
    go : Dec (e.0 ≡ word) →
        (sum_by (λ (f : ℕ × ℕ). cond {A = ℕ} (eqb f.0 word) 1 0) es ≡ 0
        → insert_entry nat_eq es word slot ≡ es ++ (word, slot) ∷ []) →
        insert_entry nat_eq (e ∷ es) word slot ≡ (e ∷ es) ++ (word, slot) ∷ []
    go (yes same) later = absurd (let one = ap {B = ℕ} (λ (b : Bool). cond b 1 0)
        (eq-eqb e.0 word same) in
        omega (arith, sum_by-cons (λ (f : ℕ × ℕ). cond {A = ℕ} (eqb f.0 word) 1 0) e es))
    go (no other) later =
        let apart : nat_eq word e.0 ≡ false = ne_eqb word e.0 (λ q. other (sym q)) in
        let gone = ap {B = ℕ} (λ (b : Bool). cond b 1 0) (ne_eqb e.0 word other) in
        rw apart (ap (λ (l : Entries). e ∷ l)
        (later (omega (
          arith,
          sum_by-cons (λ (f : ℕ × ℕ). cond {A = ℕ} (eqb f.0 word) 1 0) e
              es,
        ))))
