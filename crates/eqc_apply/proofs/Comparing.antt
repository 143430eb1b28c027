-- A result is compared, and nothing is counted.
use Rattle.std.proofs.Common.{◌≡◌, ◌↔◌, ℕ, ◌<◌, ◌≤◌, List, [], set, nat_eq, Bool, IsTrue, Option}
use Rattle.std.proofs.Common.{Some, None, IfSome, refl, sym, ap, subst, ◌∙◌, arith, inl, inr}
use Rattle.std.proofs.Common.{⊎_elim, eqb-true}
use Rattle.std.proofs.lemmas.Bool.{eq-eqb}
use mathlib.Core.Option.{some}
use lib.ListN.{get_elem?}
use Rattle.eqc_tree.specs.Tree.{Tree, value, SameFunction}
use Rattle.eqc_tree.specs.Operation.{operate}
use Rattle.eqc_tree.specs.Holding.{Entry, IsHeld as IsIn, says}
use Rattle.eqc_tree.specs.declared.operation.Op.{Op}
use Rattle.eqc_core.specs.declared.phase.Phase.{Phase}
use Rattle.eqc_core.specs.View.{View}
use Rattle.eqc_core.specs.Words.{times}
use Rattle.eqc_core.specs.Moves.{IsQuiet}
use Rattle.eqc_core.proofs.Lists.{at_set}
use Rattle.eqc_guard.specs.Known.{Known, IsHeld, IsKnown, tree_of}
use Rattle.eqc_guard.specs.Standing.{Standing}
use Rattle.eqc_guard.proofs.Acquiring.{held_tree_stays}
use Rattle.eqc_cache.specs.declared.peeking.Snapshot.{Snapshot}
use Rattle.eqc_cache.specs.Peeking.{Passes, IsPeeked}
use Rattle.eqc_cache.proofs.Snapshots.{held_keep}
use Rattle.eqc_arena.proofs.Resting.{AreQuiet}
use Rattle.eqc_apply.specs.declared.held.Held.{Held}
use Rattle.eqc_apply.specs.Before.{IsBefore, IsSeat}
use Rattle.eqc_apply.specs.Combining.{IsResult, Compares}
use Rattle.eqc_apply.specs.Extending.{entry_in, holding_in}
use Rattle.eqc_apply.specs.Names.{Has}
use Rattle.eqc_apply.proofs.Answering.{referred_tree, operate_referred, same_names}

-- what is held stays held where the list stays
pub held_on : (v u : View) (x : ℕ) → u.held ≡ v.held → IsHeld v x → IsHeld u x
held_on v u x same (inl lt) = inl lt
held_on v u x same (inr h) = inr (subst (λ (l : List ℕ). 0 < times x l) (sym same) h)

-- a snapshot that was compared tells of the operation
pub snapshot_compares : (op : Op) (f g r : ℕ) (s : Snapshot) (old mid : Standing) (same : Bool)
    → IsPeeked op f g s old mid → IsHeld old.known.core r →
    IsTrue same ↔ SameFunction (tree_of mid.known s.number) (tree_of mid.known r)
    → Compares op old.known f g r same
snapshot_compares op f g r s old mid same p held told =
    let tree : tree_of mid.known r ≡ tree_of old.known r = held_keep op f g s old mid p r held in (
      λ t a. p.function a ∙ (told.0 t a ∙ ap (λ (u : Tree). value u a) tree),
      λ all. told.1 (λ a. sym (p.function a) ∙ (all a ∙ ap (λ (u : Tree). value u a) (sym tree))),
    )

-- so does the number of a result
pub number_compares : (variables : ℕ) (k : Known) (op : Op) (f g x r : ℕ) → IsKnown k
    → IsResult variables op k f g x → IsHeld k.core r → Compares op k f g r (nat_eq x r)
number_compares variables k op f g x r known right held = (
  λ e a. sym (right.function a) ∙ ap (λ (n : ℕ). value (tree_of k n) a) (eqb-true x r e),
  λ all. eq-eqb x r (same_names k x r known right.within held (λ a. right.function a ∙ all a)),
)

-- told of what the references say
module _ (op : Op) (n : Held) (s t u : Standing) (f g r : ℕ) (hf : IsIn (holding_in n)
    (entry_in s.known f)) (hg : IsIn (holding_in n) (entry_in t.known g)) (hr : IsIn (holding_in n)
    (entry_in u.known r)) where
  pub says_compares : (same : Bool) → Compares op n.worker.known f g r same
      → IsTrue same ↔ ((a : ℕ → Bool) → operate op (says (entry_in s.known f) a)
      (says (entry_in t.known g) a) ≡ says (entry_in u.known r) a)
  says_compares same told =
      let tree : tree_of u.known r ≡ tree_of n.worker.known r = referred_tree n u r hr in (
        λ e a. sym (operate_referred op n s t f g hf hg a)
            ∙ (told.0 e a ∙ ap (λ (v : Tree). value v a) (sym tree)),
        λ all. told.1 (λ a. operate_referred op n s t f g hf hg a
            ∙ (all a ∙ ap (λ (v : Tree). value v a) tree)),
      )

  pub says_if : (o : Option Bool) → IfSome o (Compares op n.worker.known f g r)
      → IfSome o (λ same. IsTrue same ↔ ((a : ℕ → Bool) → operate op (says (entry_in s.known f) a)
      (says (entry_in t.known g) a) ≡ says (entry_in u.known r) a))
  says_if None told = tt
  says_if (Some same) told = says_compares same told

-- phases that are quiet stay so where one is set to a quiet one
quiet_at : (ps : List Phase) (k : ℕ) (p : Phase) → IsQuiet p → AreQuiet ps → AreQuiet (set ps k p)
quiet_at ps k p quiet all j q e = ⊎_elim (λ t. subst (λ (o : Phase). IsQuiet o) t.1 quiet)
    (λ t. all j q t.1) (at_set ps k j p q e)

-- a worker none of whose words announces a name holds what it held, and is at rest
module _ (old new : Standing) (p : Passes old new) where
  pub passed_has : (n : ℕ) (counts : List ℕ) → Has [] n old counts → Has [] n new counts
  passed_has n counts h = record {
    rest = record {
      ready = ap (λ (v : View). v.position) p.passed.stands.core ∙ h.rest.ready;
      quiet = subst (λ (v : View). AreQuiet v.phases) (sym p.passed.stands.core)
          (quiet_at old.known.core.phases p.word p.passed.phase p.passed.quiet h.rest.quiet);
      no_draft = ap (λ (v : View). v.draft) p.passed.stands.core ∙ h.rest.no_draft;
      no_hand = ap (λ (v : View). v.hand) p.passed.stands.core ∙ h.rest.no_hand;
    };
    cells = subst (λ (v : View). 0 < v.sizes.cells) (sym p.passed.stands.core) h.cells;
    range = h.range ∙ sym (ap (λ (v : View). v.sizes.variables) p.passed.stands.core);
    constants = h.constants;
    once = λ x two. ap (λ (v : View). times x v.held) p.passed.stands.core ∙ h.once x two;
  }

  pub passed_before : IsBefore old.known new.known
  passed_before = record {
    held = λ x h. subst (λ (v : View). IsHeld v x) (sym p.passed.stands.core) h;
    tree = λ x h. held_tree_stays p.word p.passed.phase old new x p.passed.stands h;
  }

  pub passed_seat : IsSeat old.known.core new.known.core
  passed_seat = record {
    sizes = ap (λ (v : View). v.sizes) p.passed.stands.core;
    number = ap (λ (v : View). v.number) p.passed.stands.core;
    out = ap (λ (v : View). v.out) p.passed.stands.core;
  }

  pub passed_held : new.known.core.held ≡ old.known.core.held
  passed_held = ap (λ (v : View). v.held) p.passed.stands.core
