-- What is held while an operation is done for another worker.
use Rattle.std.proofs.Common.{◌≡◌, ℕ, Bool, refl, sym, ap, ◌∙◌, arith}
use Rattle.eqc_tree.specs.Tree.{Tree, value}
use Rattle.eqc_tree.specs.Operation.{operate}
use Rattle.eqc_tree.specs.Holding.{Entry, Holding, IsHeld as IsIn, Keeps, Gains, Loses, says}
use Rattle.eqc_tree.specs.declared.operation.Op.{Op}
use Rattle.eqc_tree.proofs.HoldingLemmas.{counts_itself}
use Rattle.eqc_guard.specs.Known.{IsHeld, tree_of}
use Rattle.eqc_apply.specs.declared.held.Held.{Held}
use Rattle.eqc_apply.specs.declared.reference.Ref.{Ref}
use Rattle.eqc_apply.specs.Extending.{Extends, holding_in}
use Rattle.eqc_apply.specs.Referring.{entry_of}
use Rattle.eqc_apply.proofs.Answering.{extends_stays, stays_keeps, referred_tree, is_referenced}
use Rattle.eqc_apply.proofs.Answering.{referenced_held}

pub keeps_refl : (a : Holding) → Keeps a a
keeps_refl a = record { variables = refl; held = λ e. refl }

pub keeps_trans : {a b c : Holding} → Keeps a b → Keeps b c → Keeps a c
keeps_trans p q = record { variables = q.variables ∙ p.variables; held = λ e. q.held e ∙ p.held e }

-- a reference came and went, and nothing else changed
pub kept_again : {a b c d : Holding} (r : Entry) (f : (ℕ → Bool) → Bool) → Gains a b r f → Keeps b c
    → Loses c d r → Keeps a d
kept_again r f g k l = record {
  variables = l.variables ∙ (k.variables ∙ g.variables);
  held =
      λ e. omega (arith, l.held e, k.held e, g.held e);
}

-- what came is held, and what was held still is
pub gained_held : {a b : Holding} (r : Entry) (f : (ℕ → Bool) → Bool) → Gains a b r f → IsIn b r
gained_held {a} r f g = omega (arith, g.held r, counts_itself a r)

pub gained_still : {a b : Holding} (r e : Entry) (f : (ℕ → Bool) → Bool) → Gains a b r f → IsIn a e
    → IsIn b e
gained_still r e f g h = omega (arith, g.held e)

pub kept_held : {a b : Holding} (e : Entry) → Keeps a b → IsIn a e → IsIn b e
kept_held e k h = omega (arith, k.held e)

pub extends_keeps : (old new : Held) → Extends old new → Keeps (holding_in old) (holding_in new)
extends_keeps old new e = stays_keeps old new (extends_stays old new e)

-- the name of a reference that is held
pub name_held : (n : Held) (r : Ref) → IsIn (holding_in n) (entry_of r)
    → IsHeld n.worker.known.core r.name
name_held n r h = referenced_held n r.name (is_referenced n r.at.value r.name h)

-- the function of a result, in the trees that the worker knows now
pub says_right : (n : Held) (op : Op) (f g r : Ref) → IsIn (holding_in n) (entry_of f)
    → IsIn (holding_in n) (entry_of g) → IsIn (holding_in n) (entry_of r)
    → ((a : ℕ → Bool) → says (entry_of r) a ≡ operate op (says (entry_of f) a)
    (says (entry_of g) a))
    → (a : ℕ → Bool) → operate op (value (tree_of n.worker.known f.name) a)
    (value (tree_of n.worker.known g.name) a) ≡ value (tree_of n.worker.known r.name) a
says_right n op f g r hf hg hr right a =
    (λ i. operate op (value (sym (referred_tree n f.at.value f.name hf) i) a)
    (value (sym (referred_tree n g.at.value g.name hg) i) a))
    ∙ (sym (right a) ∙ ap (λ (t : Tree). value t a) (referred_tree n r.at.value r.name hr))
