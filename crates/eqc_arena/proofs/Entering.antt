-- A node is found in the map of the stripe in hand, or made there.
use Rattle.std.proofs.Common.{◌≡◌, ℕ, suc, ◌<◌, ◌≤◌, [], ◌∷◌, sum_by, cond, eqb, nat_eq, eq-eqb}
use Rattle.std.proofs.Common.{ne_eqb, Bool, true, false, Option, Some, None, Result, Ok, Err, IfOk}
use Rattle.std.proofs.Common.{OnOk, OnErr, refl, sym, ap, subst, ◌∙◌, arith, inl, inr}
use Rattle.std.proofs.lemmas.List.Sums.{sum_by-cons}
use Rattle.std.specs.Map.{lookup}
use mathlib.Core.Option.{some}
use native.Mathlib.Decide.{ℕ_discrete}
use lib.ListN.{get_elem?}
use Rattle.eqc_tree.specs.Tree.{Tree, Node, StartsAbove}
use Rattle.eqc_tree.specs.Word.{node_word}
use Rattle.eqc_tree.specs.declared.stopping.Stop.{Stop}
use Rattle.eqc_core.specs.View.{View, Hand}
use Rattle.eqc_core.specs.Words.{variable_of, low_of, high_of}
use Rattle.eqc_core.specs.Tables.{Entries, table_word}
use Rattle.eqc_core.specs.Moves.{IsReady}
use Rattle.eqc_core.specs.Counting.{Knows, upped}
use Rattle.eqc_core.specs.Making.{unclaimed}
use Rattle.eqc_core.proofs.Names.{times-nil}
use Rattle.eqc_core.proofs.Bounds.{fields}
use Rattle.eqc_core.proofs.Tables.{has_le}
use Rattle.eqc_guard.specs.Known.{IsHeld, IsKnown, tree_of}
use Rattle.eqc_guard.specs.Standing.{Standing, Steps}
use Rattle.eqc_guard.specs.Searching.{IsDrafted}
use Rattle.eqc_guard.specs.Locking.{MayHome}
use Rattle.eqc_guard.specs.Making.{IsEntry, Ups}
use Rattle.eqc_guard.specs.declared.reference.Ref.{Ref}
use Rattle.eqc_guard.proofs.Making.{held_small}
use Rattle.eqc_arena.specs.Changing.{Changes, Exchanges}
use Rattle.eqc_arena.specs.Nodes.{MayPut, MayEnter, IsMade}
use Rattle.eqc_arena.proofs.Changing.{stays, hand_now, draft_now, ready_now, lengths_now}
use Rattle.eqc_arena.proofs.Changing.{held_still, same_tree, here, and, still, ups, claims}
use Rattle.eqc_arena.proofs.Changing.{unclaims}
use Rattle.eqc_arena.proofs.Entries.{in_both, home_stays}

-- what a map has for a word is an entry
pub looked : (word x : ℕ) (t : Entries) → lookup (nat_eq word) t ≡ Some x → (i : ℕ)
    × (get_elem? t i ≡ some (word, x))
looked word x [] is = absurd (cc)
looked word x (e ∷ es) is = go (ℕ_discrete word e.0) (λ k. looked word x es k)
  where
    go : Dec (word ≡ e.0) → (lookup (nat_eq word) es ≡ Some x → (i : ℕ)
        × (get_elem? es i ≡ some (word, x))) → (i : ℕ) × (get_elem? (e ∷ es) i ≡ some (word, x))
    go (yes same) later =
        let b : nat_eq word e.0 ≡ true = eq-eqb word e.0 same in
        let h : Some e.1 ≡ Some x = ap (λ (q : Bool). cond q (Some e.1) (lookup (nat_eq word) es))
        (sym b) ∙ is in
        let value : e.1 ≡ x = cc in
        (0, λ i. some (sym same i, value i))
    go (no other) later =
        let b : nat_eq word e.0 ≡ false = ne_eqb word e.0 other in
        let r = later (ap (λ (q : Bool). cond q (Some e.1) (lookup (nat_eq word) es)) (sym b) ∙ is)
        in
        (suc r.0, r.1)

-- and where it has nothing, the word is in no entry
pub missed : (word : ℕ) (t : Entries) → lookup (nat_eq word) t ≡ None → table_word word t ≡ 0
unfolding table_word
missed word [] is = refl
missed word (e ∷ es) is = go (ℕ_discrete word e.0) (λ k. missed word es k)
  where
    go : Dec (word ≡ e.0) → (lookup (nat_eq word) es ≡ None
        → sum_by (λ (f : ℕ × ℕ). cond {A = ℕ} (eqb f.0 word) 1 0) es ≡ 0)
        → sum_by (λ (f : ℕ × ℕ). cond {A = ℕ} (eqb f.0 word) 1 0) (e ∷ es) ≡ 0
    go (yes same) later =
        let b : nat_eq word e.0 ≡ true = eq-eqb word e.0 same in
        let h : Some e.1 ≡ None = ap (λ (q : Bool). cond q (Some e.1) (lookup (nat_eq word) es))
        (sym b) ∙ is in absurd (cc)
    go (no other) later =
        let b : nat_eq word e.0 ≡ false = ne_eqb word e.0 other in
        let rest = later (ap (λ (q : Bool). cond q (Some e.1) (lookup (nat_eq word) es)) (sym b)
        ∙ is) in
        let gone = ap {B = ℕ} (λ (q : Bool). cond q 1 0) (ne_eqb e.0 word (λ q. other (sym q))) in
        omega (arith, sum_by-cons (λ (f : ℕ × ℕ). cond {A = ℕ} (eqb f.0 word) 1 0) e es)

module _ (t : Entries) (variable low high : ℕ) (old : Standing) (known : IsKnown old.known)
    (may : MayEnter old.known t variable low high) where
  -- an entry was found
  module _ (word x : ℕ) (is : word ≡ node_word variable low high) (found : lookup (nat_eq word) t
      ≡ Some x) where
    pub entry : IsEntry old.known.core word x
    entry = let r = looked word x t found in let j = in_both t may.home.0.entries r.0 (word, x)
        may.home.2.2 r.1 in (may.home.0, j.0, may.home.2.1, j.1)

    pub slot_there : (2 ≤ x) × (x < old.known.core.sizes.names)
    slot_there = let e = entry in let k = known.entries e.0 e.1 (word, x) e.2 e.3 in (k.0, k.1)

    pub kept : Knows old.known.core x
    kept = let e = entry in inr (inr (inl (e.0, e.2, has_le e.0.entries e.1 (word, x) e.3)))

    module _ (new : Standing) (step : Steps old (upped old.known.core x) new) (tells : Ups old.known
        x new.known) where
      found_node : IsMade variable low high x old new
      found_node =
          let f = fields variable low high (held_small old.known low known may.low_held)
          (held_small old.known high known may.high_held) in
          let v : variable_of word ≡ variable = ap variable_of is ∙ f.variable_is in
          let l : low_of word ≡ low = ap low_of is ∙ f.low_is in
          let h : high_of word ≡ high = ap high_of is ∙ f.high_is in
          let up = ups x old new step in
          record {
            changes = subst (λ (g : Option Hand). Changes [] (x ∷ []) g None old new)
                (sym (hand_now up)) (subst (λ (d : Option ℕ). Changes [] (x ∷ []) old.known.core.hand
                d old new) may.no_draft up);
            first = slot_there.0;
            tree = tells word entry (subst (λ (n : ℕ). IsHeld old.known.core n) (sym l)
                may.low_held) (subst (λ (n : ℕ). IsHeld old.known.core n) (sym h) may.high_held)
                ∙ (λ i. Node (v i) (tree_of old.known (l i)) (tree_of old.known (h i)));
          }

    pub found_made : (new : Standing) (o : Result Ref Stop) → IfOk o (λ r. r.number ≡ x)
        → OnOk o (Steps old (upped old.known.core x) new) →
        OnOk o (Ups old.known x new.known) → IfOk o (λ r. IsMade variable low high r.number old new)
    found_made new (Ok r) name step tells = subst (λ (n : ℕ). IsMade variable low high n old new)
        (sym name) (found_node new step tells)
    found_made new (Err e) name step tells = tt

  -- none was found, and a slot was claimed
  module _ (slot : ℕ) (mid : Standing) (drafted : IsDrafted slot old mid) where
    claim : Changes [] [] old.known.core.hand (Some slot) old mid
    claim = claims slot old mid drafted

    pub may_put : table_word (node_word variable low high) t ≡ 0
        → MayPut mid.known t slot variable low high
    may_put none = record {
      home = home_stays _ t old.known.core mid.known.core (hand_now claim)
          (ap (λ (v : View). v.position) claim.core) may.home;
      draft = draft_now claim;
      new = none;
      room = let r = may.room in omega (arith, lengths_now claim);
      few = subst (λ (v : View). variable < v.sizes.variables) (sym claim.core) may.few;
      low_held = held_still claim low may.low_held;
      high_held = held_still claim high may.high_held;
      above_low = subst (λ (s : Tree). StartsAbove variable s)
          (sym (same_tree claim low may.low_held)) may.above_low;
      above_high = subst (λ (s : Tree). StartsAbove variable s)
          (sym (same_tree claim high may.high_held)) may.above_high;
      differ = may.differ;
    }

    pub then_made : (r : ℕ) (new : Standing) → IsMade variable low high r mid new
        → IsMade variable low high r old new
    then_made r new m = record {
      changes = and claim (r ∷ []) m.changes (λ x. omega (arith, times-nil x)) (omega arith);
      first = m.first;
      tree = m.tree ∙ (λ i. Node variable (same_tree claim low may.low_held i)
          (same_tree claim high may.high_held i));
    }

    -- it was refused, and the slot is given up
    pub given_up : (put new : Standing) → Exchanges [] [] mid put
        → Steps put (unclaimed put.known.core) new → Exchanges [] [] old new
    given_up put new u s =
        let a : Changes [] [] old.known.core.hand (Some slot) old put = still claim (here claim u)
        in
        let b : Changes [] [] put.known.core.hand None put new = unclaims put new s in
        let c : Changes [] [] old.known.core.hand None old new =
        still a (subst (λ (g : Option Hand). Changes [] [] g None put new) (hand_now a) b) in
        subst (λ (d : Option ℕ). Changes [] [] old.known.core.hand d old new) (sym may.no_draft) c

    pub home_claimed : (s : ℕ) (u : Entries) → MayHome old.known.core s u
        → MayHome mid.known.core s u
    home_claimed s u home = home_stays s u old.known.core mid.known.core (hand_now claim)
        (ap (λ (v : View). v.position) claim.core) home

    pub may_unclaim : (put : Standing) → Exchanges [] [] mid put → (d : ℕ) × (IsReady put.known.core
        × (put.known.core.draft ≡ Some d))
    may_unclaim put u = let a = still claim (here claim u) in
        (slot, (ready_now a may.home.2.0, draft_now a))

-- a count that was refused changes nothing
pub found_still : (old new : Standing) (o : Result Ref Stop) → IsKnown old.known
    → OnErr o (new ≡ old) → OnErr o (Exchanges [] [] old new)
found_still old new (Ok r) known same = tt
found_still old new (Err e) known same = subst (λ (s : Standing). Exchanges [] [] old s) (sym same)
    (stays old known)
