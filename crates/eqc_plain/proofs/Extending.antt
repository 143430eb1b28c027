use Rattle.std.proofs.Common.{◌≡◌, ℕ, ◌+◌, Bool, true, false, cond, List, refl, ap, ◌∙◌}
use Rattle.eqc_tree.specs.Tree.{Tree, value}
use Rattle.eqc_tree.specs.Operation.{operate}
use Rattle.eqc_tree.specs.declared.operation.Op.{Op}
use Rattle.eqc_tree.specs.Holding.{Entry, Holding, weight, Keeps, Gains}
use Rattle.eqc_plain.specs.declared.store.Store.{Store}
use Rattle.eqc_plain.specs.Extending.{Extends}
use Rattle.eqc_plain.specs.Store.{tree_at, IsNode}
use Rattle.eqc_plain.proofs.Trees.{tree_at-zero, tree_at-one}
use Rattle.eqc_plain.proofs.Growing.{grows_trans}

-- a store that came by two steps
pub extends_trans : (a b c : Store) → Extends a b → Extends b c → Extends a c
extends_trans a b c p q =
    record {
      grows = grows_trans a.nodes b.nodes c.nodes p.grows q.grows;
      keeps = record {
        variables = q.keeps.variables ∙ p.keeps.variables;
        held = λ e. q.keeps.held e
            ∙ p.keeps.held e;
      };
      variables = q.variables ∙ p.variables;
      limit = q.limit ∙ p.limit;
    }

-- what comes after a store has grown
pub keeps_then_gains : (a b c : Holding) (r : Entry) (f h : (ℕ → Bool) → Bool) → Keeps a b
    → Gains b c r f → ((x : ℕ → Bool) → f x ≡ h x) → Gains a c r h
keeps_then_gains a b c r f h k g e =
    record {
      variables = g.variables ∙ k.variables;
      held = λ d. g.held d
          ∙ ap (λ n. n + weight r d) (k.held d);
      function = λ x. g.function x ∙ e x;
    }

is_variable : (b : Bool) → cond b true false ≡ b
is_variable true = refl
is_variable false = refl

-- a variable's node
pub literal_value : (ws : List ℕ) (variables v x : ℕ) → IsNode variables ws v 0 1 x → (a : ℕ → Bool)
    → value (tree_at ws x) a ≡ a v
literal_value ws variables v x n a =
    let z : value (tree_at ws 0) a ≡ false = ap (λ t. value t a) (tree_at-zero ws) in
    let o : value (tree_at ws 1) a ≡ true = ap (λ t. value t a) (tree_at-one ws) in
    n.function a ∙ rw (z, o) (is_variable (a v))

-- an operation on equal trees
pub operate_same : (op : Op) (s t u v : Tree) (a : ℕ → Bool) → s ≡ u → t ≡ v
    → operate op (value s a) (value t a) ≡ operate op (value u a) (value v a)
operate_same op s t u v a p q = rw (p, q) refl
