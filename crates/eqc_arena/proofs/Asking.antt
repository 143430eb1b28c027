-- A node is asked for: its stripe is taken, and put home with it.
use Rattle.std.proofs.Common.{◌≡◌, ◌≢◌, ℕ, ◌+◌, ◌-◌, ◌%◌, ◌^◌, ◌<◌, ◌≤◌, [], ◌∷◌, length, Option}
use Rattle.std.proofs.Common.{Some, None, Result, Ok, Err, IfOk, IfErr, OnOk, OnErr, refl, sym, ap}
use Rattle.std.proofs.Common.{subst, ◌∙◌, arith, inl, inr}
use Rattle.eqc_tree.specs.Tree.{Tree, Node, StartsAbove}
use Rattle.eqc_tree.specs.Word.{node_word}
use Rattle.eqc_tree.specs.declared.stopping.Stop.{Stop}
use Rattle.eqc_tree.specs.declared.stopping.Stop.TheVariants.{NodeLimit, References, Threads}
use Rattle.eqc_core.specs.View.{View, Hand}
use Rattle.eqc_core.specs.Words.{slots_of, variable_of, low_of, high_of, stripe_of}
use Rattle.eqc_core.specs.Tables.{Entries}
use Rattle.eqc_core.specs.Locking.{locked, unlocked}
use Rattle.eqc_core.proofs.Names.{times-nil, times-same, two_cases}
use Rattle.eqc_core.proofs.Bounds.{fields}
use Rattle.eqc_guard.specs.Known.{Known, IsHeld, IsNamed, IsKnown, tree_of}
use Rattle.eqc_guard.specs.Standing.{Standing, Steps}
use Rattle.eqc_guard.specs.Searching.{HasSeenAll}
use Rattle.eqc_guard.specs.Locking.{MayHome}
use Rattle.eqc_guard.specs.declared.reference.Ref.{Ref}
use Rattle.eqc_arena.specs.Changing.{Changes, Exchanges}
use Rattle.eqc_arena.specs.Nodes.{MayAsk, MayEnter, IsMade, IsNodeOf, IsGiven}
use Rattle.eqc_arena.proofs.Changing.{begins, hand_now, draft_now, names_now, lengths_now}
use Rattle.eqc_arena.proofs.Changing.{held_still, same_tree, here, and, still, one_comes, locks}
use Rattle.eqc_arena.proofs.Changing.{unlocks}
use Rattle.eqc_guard.proofs.Learning.{held_named}
use Rattle.eqc_arena.proofs.Entering.{found_still}
use Rattle.eqc_arena.proofs.Entries.{home_locked}

-- the stripe of a node's word
pub stripe_is : (n variable low high : ℕ) → n ≡ variable → low < 2 ^ 20 → high < 2 ^ 20
    → (n + low + high) % 16 ≡ stripe_of (node_word variable low high)
unfolding stripe_of
stripe_is n variable low high is l h =
    let f = fields variable low high l h in
    let sum : n + low + high ≡ variable_of (node_word variable low high)
    + (low_of (node_word variable low high) + high_of (node_word variable low high)) =
    omega (arith, is, f.variable_is, f.low_is, f.high_is) in
    ap (λ (m : ℕ). m % 16) sum

module _ (t : Entries) (s variable low high : ℕ) (s0 s1 : Standing) (may : MayAsk s0.known variable
    low high) (lock : Steps s0 (locked s0.known.core s t) s1) where
  taken : Changes [] [] (Some (record { stripe = s; entries = t })) s0.known.core.draft s0 s1
  taken = locks s t s0 s1 lock

  pub may_enter : s ≡ stripe_of (node_word variable low high) → low ≢ high
      → MayEnter s1.known t variable low high
  may_enter is differ = record {
    home = subst (λ (i : ℕ). MayHome s1.known.core i t) is (home_locked s t s0 s1 may.rest.ready
        lock);
    no_draft = draft_now taken ∙ may.rest.no_draft;
    room = let r = may.room in omega (arith, lengths_now taken);
    few = subst (λ (v : View). variable < v.sizes.variables) (sym taken.core) may.few;
    low_held = held_still taken low may.low_held;
    high_held = held_still taken high may.high_held;
    above_low = subst (λ (u : Tree). StartsAbove variable u)
        (sym (same_tree taken low may.low_held)) may.above_low;
    above_high = subst (λ (u : Tree). StartsAbove variable u)
        (sym (same_tree taken high may.high_held)) may.above_high;
    differ = differ;
  }

  module _ (s2 s3 : Standing) (home : Steps s2 (unlocked s2.known.core) s3) where
    one_made : (r : ℕ) → IsMade variable low high r s1 s2 → IsMade variable low high r s0 s3
    one_made r m =
        let a : Changes [] (r ∷ []) s2.known.core.hand None s0 s2 =
        and taken (r ∷ []) m.changes (λ x. omega (arith, times-nil x)) (omega arith) in
        let u : Changes [] [] None s2.known.core.draft s2 s3 = unlocks s2 s3 home in
        let b : Changes [] (r ∷ []) None None s0 s3 =
        still a (subst (λ (d : Option ℕ). Changes [] [] None d s2 s3) (draft_now m.changes) u)
        in
        let there : IsHeld s2.known.core r =
        inr (omega (arith, names_now m.changes r, times-same r r [] refl, times-nil r)) in
        record {
          changes = subst (λ (g : Option Hand). Changes [] (r ∷ []) g None s0 s3) (sym (hand_now b))
              b;
          first = m.first;
          tree = same_tree u r there
              ∙ (m.tree ∙ (λ i. Node variable (same_tree taken low may.low_held i)
              (same_tree taken high may.high_held i)));
        }

    pub all_made : (o : Result Ref Stop) → IfOk o (λ r. IsMade variable low high r.number s1 s2)
        → IfOk o (λ r. IsMade variable low high r.number s0 s3)
    all_made (Ok r) m = one_made r.number m
    all_made (Err e) m = tt

    pub all_still : (o : Result Ref Stop) → OnErr o (Exchanges [] [] s1 s2)
        → OnErr o (Exchanges [] [] s0 s3)
    all_still (Ok r) e = tt
    all_still (Err x) e =
        let a : Changes [] [] (Some (record { stripe = s; entries = t })) s0.known.core.draft s0
        s2 = still taken (here taken e) in
        let u : Changes [] [] None s2.known.core.draft s2 s3 = unlocks s2 s3 home in
        let b : Changes [] [] None s0.known.core.draft s0 s3 =
        still a (subst (λ (d : Option ℕ). Changes [] [] None d s2 s3) (draft_now a) u) in
        subst (λ (g : Option Hand). Changes [] [] g s0.known.core.draft s0 s3)
        (sym may.rest.no_hand) b

    pub all_seen : (o : Result Ref Stop) → IfErr o (λ e. e ≡ NodeLimit → HasSeenAll s2.known.core)
        → IfErr o (λ e. e ≡ NodeLimit → HasSeenAll s3.known.core)
    all_seen (Ok r) h = tt
    all_seen (Err e) h = λ is. subst (λ (v : View). HasSeenAll v) (sym home.known.core) (h is)

-- what is asked for after a collection is asked for as before
pub asks_still : (variable low high : ℕ) (old mid : Standing) → MayAsk old.known variable low high
    → Exchanges [] [] old mid → MayAsk mid.known variable low high
asks_still variable low high old mid may t = record {
  rest = begins may.rest t;
  cells = subst (λ (v : View). 0 < v.sizes.cells) (sym t.core) may.cells;
  room = let r = may.room in omega (arith, lengths_now t);
  few = subst (λ (v : View). variable < v.sizes.variables) (sym t.core) may.few;
  low_held = held_still t low may.low_held;
  high_held = held_still t high may.high_held;
  above_low = subst (λ (u : Tree). StartsAbove variable u) (sym (same_tree t low may.low_held))
      may.above_low;
  above_high = subst (λ (u : Tree). StartsAbove variable u) (sym (same_tree t high may.high_held))
      may.above_high;
}

-- what comes of asking after a change in which nothing went or came, told from before it
module _ (variable low high : ℕ) (old mid : Standing) (t : Exchanges [] [] old mid) where
  later_node : (new : Standing) (o : Result Ref Stop)
      → IfOk o (λ r. Exchanges [] (slots_of (r.number ∷ [])) mid new)
      → IfOk o (λ r. Exchanges [] (slots_of (r.number ∷ [])) old new)
  later_node new (Err e) m = tt
  later_node new (Ok r) m = one_comes r.number t m

  later_tree : MayAsk old.known variable low high → (new : Standing) (o : Result Ref Stop) →
      IfOk o (λ r. IsNodeOf variable (tree_of mid.known low) (tree_of mid.known high)
      (tree_of new.known r.number))
      → IfOk o (λ r. IsNodeOf variable (tree_of old.known low) (tree_of old.known high)
      (tree_of new.known r.number))
  later_tree may new (Err e) m = tt
  later_tree may new (Ok r) m =
      subst (λ (p : Tree × Tree). IsNodeOf variable p.0 p.1 (tree_of new.known r.number))
      (λ i. (same_tree t low may.low_held i, same_tree t high may.high_held i)) m

  later_still : (new : Standing) (o : Result Ref Stop) → OnErr o (Exchanges [] [] mid new)
      → OnErr o (Exchanges [] [] old new)
  later_still new (Ok r) e = tt
  later_still new (Err x) e = still t (here t e)

  later_full : (o : Result Ref Stop) → IfErr o (λ s. s ≡ References
      → 2 ^ 32 - 2 ≤ length mid.known.core.held) → IfErr o (λ s. s ≡ References
      → 2 ^ 32 - 2 ≤ length old.known.core.held)
  later_full (Ok r) h = tt
  later_full (Err e) h = λ is. omega (arith, h is, lengths_now t)

  pub later_given : MayAsk old.known variable low high → (new : Standing) (o : Result Ref Stop)
      → IsGiven variable low high o mid new → IsGiven variable low high o old new
  later_given may new o m = record {
    node = later_node new o m.node;
    tree = later_tree may new o m.tree;
    still = later_still new o m.still;
    full = later_full o m.full;
    all = m.all;
    only = m.only;
  }

-- a name that is held is named
pub held_is_named : (k : Known) (x : ℕ) → IsHeld k.core x → IsNamed k.core x
held_is_named k x (inl small) = inl small
held_is_named k x (inr some) = inr (held_named k.core x some)

-- two names have two trees
pub apart : (k : Known) (low high : ℕ) → IsKnown k → IsHeld k.core low → IsHeld k.core high
    → low ≢ high → tree_of k low ≢ tree_of k high
apart k low high known l h differ same =
    differ (known.one low high (held_is_named k low l) (held_is_named k high h) same)

module _ (variable low high : ℕ) (old mid : Standing) (may : MayAsk old.known variable low high)
    (known : IsKnown old.known) (differ : low ≢ high) (t : Exchanges [] [] old mid) where
  node_made : (new : Standing) (o : Result Ref Stop) → new.known.core.hand ≡ None
      → IfOk o (λ r. IsMade variable low high r.number mid new) →
      IfOk o (λ r. Exchanges [] (slots_of (r.number ∷ [])) old new)
  node_made new (Err e) hand m = tt
  node_made new (Ok r) hand m =
      let a = and t (r.number ∷ []) m.changes (λ x. omega (arith, times-nil x)) (omega arith) in
      let b : Changes [] (r.number ∷ []) old.known.core.hand None old new =
      subst (λ (g : Option Hand). Changes [] (r.number ∷ []) g None old new) (hand
      ∙ sym may.rest.no_hand) a in
      let c : Changes [] (r.number ∷ []) old.known.core.hand old.known.core.draft old new =
      subst (λ (d : Option ℕ). Changes [] (r.number ∷ []) old.known.core.hand d old new)
      (sym may.rest.no_draft) b in
      elim (two_cases r.number) [
        | inl s ↦ absurd (let two = m.first in let small = s.1 in
            omega arith)
        | inr s ↦ rw s.0 c
      ]

  node_tree : (new : Standing) (o : Result Ref Stop)
      → IfOk o (λ r. IsMade variable low high r.number mid new) →
      IfOk o (λ r. IsNodeOf variable (tree_of old.known low) (tree_of old.known high)
      (tree_of new.known r.number))
  node_tree new (Err e) m = tt
  node_tree new (Ok r) m =
      let is : tree_of new.known r.number ≡ Node variable (tree_of old.known low)
      (tree_of old.known high) = m.tree
      ∙ (λ i. Node variable (same_tree t low may.low_held i) (same_tree t high may.high_held i)) in (
        (λ same. absurd (apart old.known low high known may.low_held may.high_held differ same)),
        λ other. is,
      )

  -- an attempt, at once or after a collection
  pub attempt_given : (new : Standing) (o : Result Ref Stop) → new.known.core.hand ≡ None
      → IfOk o (λ r. IsMade variable low high r.number mid new) → OnErr o (Exchanges [] [] mid new)
      → IfErr o (λ s. s ≡ References → 2 ^ 32 - 2 ≤ length mid.known.core.held)
      → IfErr o (λ s. s ≡ NodeLimit → HasSeenAll new.known.core) →
      IfErr o (λ s. s ≢ Threads) → IsGiven variable low high o old new
  attempt_given new o hand made kept full all only = record {
    node = node_made new o hand made;
    tree = node_tree new o made;
    still = later_still variable low high old mid t new o kept;
    full = later_full variable low high old mid t o full;
    all = all;
    only = only;
  }

-- where both children are one, its copy is the node
pub copy_given : (variable low high : ℕ) (old new : Standing) (o : Result Ref Stop)
    → IsKnown old.known → low ≡ high → IsHeld old.known.core low →
    IfOk o (λ r. r.number ≡ low) → OnOk o (Exchanges [] (slots_of (low ∷ [])) old new)
    → OnErr o (new ≡ old) → OnErr o (2 ^ 32 - 1 ≤ length old.known.core.held)
    → IfErr o (λ s. s ≡ References) → IsGiven variable low high o old new
copy_given variable low high old new (Err e) known same held name t kept full only = record {
  node = tt;
  tree = tt;
  still = found_still old new (Err e) known kept;
  full = λ is. omega (arith, full);
  all = λ is. absurd (cc);
  only = λ is. cc;
}
copy_given variable low high old new (Ok r) known same held name t kept full only = record {
  node = subst (λ (x : ℕ). Exchanges [] (slots_of (x ∷ [])) old new) (sym name) t;
  tree = (
    (λ trees. ap (tree_of new.known) name ∙ same_tree t low held),
    λ other. absurd (other (ap (tree_of old.known) same)),
  );
  still = tt;
  full = tt;
  all = tt;
  only = tt;
}
