-- A node that was asked for, and is among the names then.
use Rattle.std.proofs.Common.{◌≡◌, ◌≢◌, ◌⊎◌, ℕ, ◌-◌, ◌^◌, ◌<◌, ◌≤◌, List, [], ◌∷◌, length, Result}
use Rattle.std.proofs.Common.{Ok, Err, IfOk, IfErr, refl, sym, ap, subst, ◌∙◌, arith, inl, inr}
use Rattle.eqc_tree.specs.Tree.{Tree, Node, value, StartsAbove}
use Rattle.eqc_tree.specs.declared.stopping.Stop.{Stop}
use Rattle.eqc_tree.specs.declared.stopping.Stop.TheVariants.{NodeLimit, Memory, Threads}
use Rattle.eqc_tree.specs.declared.stopping.Stop.TheVariants.{References}
use Rattle.eqc_core.specs.Words.{slots_of}
use Rattle.eqc_guard.specs.Known.{IsHeld, IsKnown, tree_of}
use Rattle.eqc_guard.specs.Standing.{Standing}
use Rattle.eqc_arena.proofs.Resting.{rest_begins}
use Rattle.eqc_arena.specs.Changing.{Exchanges}
use Rattle.eqc_arena.specs.Nodes.{MayAsk, IsNodeOf}
use Rattle.eqc_core.proofs.Names.{times-nil}
use Rattle.eqc_arena.proofs.Asking.{apart}
use Rattle.eqc_apply.specs.Names.{Has, Settles, IsThere}
use Rattle.eqc_apply.specs.Before.{IsBefore, IsSeat}
use Rattle.eqc_apply.specs.Combining.{IsNode}
use Rattle.eqc_apply.proofs.Once.{few_held, has_after, changes_before, seat_of, seat_trans}
use Rattle.eqc_apply.proofs.Once.{held_counted}

-- the errors that are left
pub two_stops : (s : Stop) → s ≢ Threads → s ≢ References → (s ≡ NodeLimit) ⊎ (s ≡ Memory)
two_stops NodeLimit a b = inl refl
two_stops Memory a b = inr refl
two_stops Threads a b = absurd (a refl)
two_stops References a b = absurd (b refl)

module _ (variable low high n : ℕ) (counts : List ℕ) (s0 s1 : Standing) (h : Has [] n s0 counts)
    (known : IsKnown s0.known)
    (low_held : IsHeld s0.known.core low) (high_held : IsHeld s0.known.core high) where
  -- a worker may ask for a node over its names
  pub may_ask : variable < n → StartsAbove variable (tree_of s0.known low)
      → StartsAbove variable (tree_of s0.known high) → MayAsk s0.known variable low high
  may_ask few l u = record {
    rest = rest_begins h.rest;
    cells = h.cells;
    room = let f = few_held h known in omega arith;
    few = let r = h.range in omega arith;
    low_held = low_held;
    high_held = high_held;
    above_low = l;
    above_high = u;
  }

  -- and is not refused for the references that it holds
  pub two_left : (s : Stop) → s ≢ Threads
      → (s ≡ References → 2 ^ 32 - 2 ≤ length s0.known.core.held) → (s ≡ NodeLimit) ⊎ (s ≡ Memory)
  two_left s a b = two_stops s a (λ e. let f = few_held h known in let full = b e in omega arith)

  -- the node came, and was counted
  module _ (r : ℕ) (t : Exchanges [] (slots_of (r ∷ [])) s0 s1) where
    pub came_has : Has (slots_of (r ∷ [])) n s1 counts
    came_has = has_after t [] (slots_of (r ∷ [])) n counts (λ y. omega (arith, times-nil y)) h

    module _ (s2 : Standing) (settles : Settles counts s1 s2) where
      pub came_before : IsBefore s0.known s2.known
      came_before = record {
        held = λ x p. settles.held x (held_counted h x p);
        tree = λ x p. settles.tree x (held_counted h x p) ∙ (changes_before t).tree x p;
      }

      pub came_seat : IsSeat s0.known.core s2.known.core
      came_seat = seat_trans (seat_of t) settles.seat

      module _ (differ : low ≢ high) (is : IsNodeOf variable (tree_of s0.known low)
          (tree_of s0.known high) (tree_of s1.known r)) where
        one_node : (x : ℕ) → (x ≡ r) × IsThere x s1 s2 → IsNode n s2.known variable low high x
        one_node x p = record {
          within = p.1.0;
          starts = λ w below. subst (StartsAbove w) (sym tree) below;
          function = λ a. ap (λ (u : Tree). value u a) (tree
              ∙ (λ i. Node variable (sym (came_before.tree low low_held) i)
              (sym (came_before.tree high high_held) i)));
        }
          where
            tree : tree_of s2.known x ≡ Node variable (tree_of s0.known low) (tree_of s0.known high)
            tree = p.1.1 ∙ (ap (tree_of s1.known) p.0
                ∙ is.1 (apart s0.known low high known low_held high_held differ))

        pub node_is : (o : Result ℕ Stop) → IfOk o (λ x. (x ≡ r) × IsThere x s1 s2)
            → IfOk o (λ x. IsNode n s2.known variable low high x)
        node_is (Ok x) p = one_node x p
        node_is (Err e) p = tt

-- want of memory is one of them
pub memory_left : (o : Result ℕ Stop) → IfErr o (λ s. s ≡ Memory) → IfErr o (λ s. (s ≡ NodeLimit)
    ⊎ (s ≡ Memory))
memory_left (Ok x) e = tt
memory_left (Err s) e = inr e
