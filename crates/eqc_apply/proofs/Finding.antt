-- Results in the cells that all workers share.
use Rattle.std.proofs.Common.{◌≡◌, ℕ, Bool, List, [], ◌∷◌, ◌++◌, length-append, refl, sym, ap, ◌∙◌}
use Rattle.std.proofs.Common.{arith}
use Rattle.eqc_tree.specs.Tree.{Tree, value}
use Rattle.eqc_tree.specs.Operation.{operate}
use Rattle.eqc_tree.specs.declared.operation.Op.{Op}
use Rattle.eqc_core.specs.Words.{slots_of}
use Rattle.eqc_core.proofs.Names.{times-nil, times-append}
use Rattle.eqc_guard.specs.Acquiring.{IsPassed}
use Rattle.eqc_guard.specs.Known.{IsHeld, IsKnown, tree_of}
use Rattle.eqc_guard.specs.Standing.{Standing}
use Rattle.eqc_cache.specs.Finding.{IsHit}
use Rattle.eqc_arena.specs.Changing.{Changes}
use Rattle.eqc_apply.specs.Names.{IsThere}
use Rattle.eqc_apply.specs.Before.{IsBefore}
use Rattle.eqc_apply.specs.Combining.{IsResult}
use Rattle.eqc_guard.proofs.Snapshots.{first_all}
use Rattle.eqc_arena.proofs.Asking.{held_is_named}
use Rattle.eqc_apply.proofs.Reading.{starts_below, starts_root}
use Rattle.eqc_apply.proofs.Above.{starts_both}

-- nothing was found
pub passes : (old new : Standing) → IsPassed 0 old new
    → Changes [] [] old.known.core.hand old.known.core.draft old new
passes old new s = record {
  forest = s.stands.forest;
  held = old.known.core.held;
  phase = s.phase;
  retired = old.known.core.retired;
  read = old.known.core.read;
  turn = old.known.core.turn;
  stops = old.known.core.stops;
  core = s.stands.core;
  quiet = λ q. s.quiet;
  enough = λ x. omega (arith, times-nil x);
  names = λ x. refl;
  lengths = refl;
  trees = λ x two h. s.stands.trees x two (omega arith);
  snapshots = first_all old.known new.known s.stands.others;
  copy = s.stands.copy;
  known = s.stands.known;
}

-- a result was found, and is held once more
pub hits : (op : Op) (f g r : ℕ) (old new : Standing) → IsHit op f g r old new
    → Changes [] (slots_of (r ∷ [])) old.known.core.hand old.known.core.draft old new
hits op f g r old new s = record {
  forest = s.forest;
  held = old.known.core.held ++ slots_of (r ∷ []);
  phase = s.phase;
  retired = old.known.core.retired;
  read = old.known.core.read;
  turn = old.known.core.turn;
  stops = old.known.core.stops;
  core = s.core;
  quiet = λ q. s.quiet;
  enough = λ x. omega (arith, times-nil x);
  names = λ x. omega (arith, times-append x old.known.core.held (slots_of (r ∷ [])), times-nil x);
  lengths = omega (arith, length-append old.known.core.held (slots_of (r ∷ [])));
  trees = λ x two h. s.trees x two (omega arith);
  snapshots = s.snapshots;
  copy = s.copy;
  known = s.known;
}

-- it is a result among the names then
module _ (n : ℕ) (counts : List ℕ) (op : Op) (f g r x : ℕ) (s0 s1 s2 : Standing)
    (function : (a : ℕ → Bool) → operate op (value (tree_of s0.known f) a)
    (value (tree_of s0.known g) a) ≡ value (tree_of s1.known r) a)
    (hf : IsHeld s0.known.core f) (hg : IsHeld s0.known.core g) (b : IsBefore s0.known s2.known)
    (is : x ≡ r) (there : IsThere x s1 s2)
    (known : IsKnown s2.known) where
  pub found_result : IsResult n op s2.known f g x
  found_result = record {
    first = b.held f hf;
    second = b.held g hg;
    within = there.0;
    above = λ v few above_f above_g. starts_root n v (tree_of s2.known x) few
        (starts_both op (tree_of s2.known f) (tree_of s2.known g)
        (known.canonical f (held_is_named s2.known f (b.held f hf)))
        (known.canonical g (held_is_named s2.known g (b.held g hg)))
        (tree_of s2.known x) (known.canonical x (held_is_named s2.known x there.0)) says v
        (starts_below n v (tree_of s2.known f) above_f) (starts_below n v (tree_of s2.known g)
        above_g));
    function = says;
  }
    where
      tree : tree_of s2.known x ≡ tree_of s1.known r
      tree = there.1 ∙ ap (tree_of s1.known) is

      says : (a : ℕ → Bool) → value (tree_of s2.known x) a
          ≡ operate op (value (tree_of s2.known f) a) (value (tree_of s2.known g) a)
      says a = ap (λ (t : Tree). value t a) tree
          ∙ (sym (function a) ∙ (λ i. operate op (value (sym (b.tree f hf) i) a)
          (value (sym (b.tree g hg) i) a)))
