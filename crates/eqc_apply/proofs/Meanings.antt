-- What names mean to an operation, and that they keep it.
use native.Mathlib.Decide.{dec_le}
use Rattle.std.proofs.Common.{ℕ, ◌<◌, ◌≤◌, Option, refl, ◌∙◌, ap, arith, inl, inr}
use Rattle.eqc_tree.specs.Tree.{Tree, False, True, Node, value, StartsAbove}
use Rattle.eqc_tree.specs.declared.operation.Op.{Op}
use Rattle.eqc_plain.specs.Store.{root}
use Rattle.eqc_plain.specs.Combining.{AreHalves, IsWhole, HasBoth}
use Rattle.eqc_plain.proofs.Combining.{Stays, HasConstants, combined, both_stay}
use Rattle.eqc_core.specs.Words.{times}
use Rattle.eqc_guard.specs.Known.{Known, IsHeld, tree_of}
use Rattle.eqc_apply.specs.declared.held.Held.{Held}
use Rattle.eqc_apply.specs.Extending.{Extends}
use Rattle.eqc_plain.specs.Spending.{Spends}
use Rattle.eqc_apply.specs.Combining.{IsNode, AreCofactors, IsResult}
use Rattle.eqc_apply.specs.Meaning.{meaning_of, meaning_in, kept_of}
use Rattle.eqc_apply.proofs.Once.{before_refl, before_trans, seat_refl, seat_trans, held_some}
use Rattle.eqc_plain.proofs.Spending.{spends_refl, spends_trans}
use Rattle.eqc_apply.proofs.Reading.{root_constant, starts_root}

pub extends_refl : (n : Held) → Extends n n
extends_refl n = record {
  forest = refl;
  seat = seat_refl n.worker.known.core;
  variables = refl;
  references = λ x. refl;
  before = before_refl n.worker.known;
  turns = spends_refl n.turns;
}

pub extends_trans : (a b c : Held) → Extends a b → Extends b c → Extends a c
extends_trans a b c p q =
    record {
      forest = q.forest ∙ p.forest;
      seat = seat_trans p.seat q.seat;
      variables = q.variables ∙ p.variables;
      references = λ x. q.references x ∙ p.references x;
      before = before_trans p.before q.before;
      turns = spends_trans p.turns q.turns;
    }

-- a turn was taken
pub taken : (a b : Held) (t : Option ℕ) → Extends a b → Spends b.turns t
    → Extends a (record b { turns = t })
taken a b t e s = record {
  forest = e.forest;
  seat = e.seat;
  variables = e.variables;
  references =
      e.references;
  before = e.before;
  turns = spends_trans e.turns s;
}

-- names keep their meaning
pub names_stay : (old new : Held) → Extends old new → Stays (meaning_in old) (meaning_in new)
names_stay old new e =
    record {
      variables = e.variables;
      there = e.before.held;
      root = λ x h. rw (e.variables, e.before.tree x h) refl;
      says = λ x a h. ap (λ t. value t a) (e.before.tree x h);
    }

-- the two ways to say that a name is held
pub from_kept : (variables : ℕ) (k : Known) → Stays (kept_of variables k) (meaning_of variables k)
from_kept variables k = record {
  variables = refl;
  there = λ x h. held x h (dec_le 2 x);
  root =
      λ x h. refl;
  says = λ x a h. refl;
}
  where
    held : (x : ℕ) → (2 ≤ x → 0 < times x k.core.held) → Dec (2 ≤ x) → IsHeld k.core x
    held x h (yes two) = inr (h two)
    held x h (no n) = inl (omega arith)

pub to_kept : (variables : ℕ) (k : Known) → Stays (meaning_of variables k) (kept_of variables k)
to_kept variables k = record {
  variables = refl;
  there = λ x h two. held_some k.core x two h;
  root =
      λ x h. refl;
  says = λ x a h. refl;
}

pub names_constants : (variables : ℕ) (k : Known) → HasConstants (meaning_of variables k)
names_constants variables k = record {
  there = λ x h. inl h;
  root = root_constant variables k;
  zero_says = λ a. refl;
  one_says = λ a. refl;
}

pub halves_of : {variables : ℕ} {k : Known} {v x low high : ℕ} → v < variables
    → AreCofactors variables k v x low high → AreHalves (meaning_of variables k) v x low high
halves_of {variables} {k} {v} {x} {low} {high} below c =
    record {
      low_within = c.low_within;
      high_within = c.high_within;
      above_low = starts_root variables v (tree_of k low) below c.above_low;
      above_high = starts_root variables v (tree_of k high) below c.above_high;
      function = c.function;
    }

-- what starts below all that v is below starts no higher than v
starts_from : (n v : ℕ) (t : Tree) → v < n → ((w : ℕ) → w < v → StartsAbove w t) → v ≤ root n t
starts_from n v False below h = omega arith
starts_from n v True below h = omega arith
starts_from n v (Node u low high) below h = go (dec_le v u)
  where
    go : Dec (v ≤ u) → v ≤ u
    go (yes le) = le
    go (no m) = let s : u < u = h u (omega arith) in absurd (omega arith)

pub whole_of : {variables : ℕ} {k : Known} {v low high x : ℕ} → v < variables
    → IsNode variables k v low high x → IsWhole (meaning_of variables k) v low high x
whole_of {variables} {k} {v} {low} {high} {x} below n = record {
  within = n.within;
  root_at =
      starts_from variables v (tree_of k x) below n.starts;
  function = n.function;
}

-- the node over both results has the operation's result
pub node_right : (old new : Held) (op : Op) (f g v low high x : ℕ) → Extends old new
    → HasBoth (meaning_in old) op f g v low high →
    IsNode new.variables new.worker.known v low high x → IsResult new.variables op new.worker.known
    f g x
node_right old new op f g v low high x e b n =
    combined (meaning_in new) op v f g low high x (both_stay (names_stay old new e) b)
    (whole_of (omega (arith, b.expansion.below, e.variables)) n)
