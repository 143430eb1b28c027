-- Assumptions by which a cone's root is true and its first positions have given values, and what
-- their refutation says.
use Rattle.std.proofs.Common.{◌≡◌, ℕ, ◌+◌, ◌*◌, ◌<◌, ◌≤◌, Bool, true, false, not, ◌||◌, List, []}
use Rattle.std.proofs.Common.{◌∷◌, ◌++◌, length, get_or, refl, sym, ◌∙◌, ap, arith}
use Rattle.std.specs.List.{list_any}
use Rattle.std.proofs.lemmas.List.{get_or_append_left}
use Rattle.std.proofs.lemmas.List.Folds.{list_any-append}
use Rattle.eqc_xag.specs.declared.node.Node.{Node}
use Rattle.eqc_xag.specs.Graph.{literal_value, differ}
use Rattle.eqc_rup.specs.Clauses.{IsRefuted}
use Rattle.eqc_witness.specs.Cones.{AreAssumptions, IsCone, holds_under, values_at}

-- so far: the literals of the first k positions
pub record AreAssumed (nodes : List Node) (root : ℕ) (first : List Bool) (k : ℕ)
    (literals : List ℕ) : Type 0 where
  pub all : AreAssumptions nodes root first literals

or_false : (b : Bool) → (b || false) ≡ b
or_false true = refl
or_false false = refl

pub assumed_root : (nodes : List Node) (root : ℕ) (first : List Bool)
    → AreAssumed nodes root first 0 (root ∷ [])
assumed_root nodes root first =
    record {
      all = record { each = λ rest. or_false (not (holds_under nodes root (first ++ rest))) };
    }

-- the literal of a position that has its value is true
differ_itself : (b : Bool) → differ (not b) b ≡ true
differ_itself true = refl
differ_itself false = refl

-- that of one position more
pub assumed_more : (nodes : List Node) (root n : ℕ) (first : List Bool) (k l : ℕ) (value : Bool)
    (literals : List ℕ) → IsCone nodes root n →
    length first ≤ n → k < length first → value ≡ get_or first k false
    → ((a : ℕ → Bool) → literal_value nodes a l ≡ differ (not value) (literal_value nodes a (2 * k
    + 2))) →
    AreAssumed nodes root first k literals → AreAssumed nodes root first (k + 1) (literals ++ l
    ∷ [])
assumed_more nodes root n first k l value literals cone few inside is by so_far = record {
  all = record {
    each = λ rest.
        let a : ℕ → Bool = values_at (first ++ rest) in
        let given : values_at (first ++ rest) k ≡ value = get_or_append_left first rest false k
        inside ∙ sym is in
        let true_there : literal_value nodes (values_at (first ++ rest)) l ≡ true =
        by (values_at (first ++ rest))
        ∙ (ap (differ (not value)) (cone.inputs.value k (values_at (first ++ rest))
        (omega arith) ∙ given) ∙ differ_itself value) in
        list_any-append (λ m. not (literal_value nodes (values_at (first ++ rest)) m)) literals (l
        ∷ [])
        ∙ (ap (λ b. list_any (λ m. not (literal_value nodes (values_at (first ++ rest)) m)) literals
        || (not b || false)) true_there
        ∙ (or_false (list_any (λ m. not (literal_value nodes (values_at (first ++ rest)) m))
        literals) ∙ so_far.all.each rest));
  };
}

not_true : (b : Bool) → not b ≡ true → b ≡ false
not_true true e = sym e
not_true false e = refl

-- where the assumptions are refuted, the root is false under all values that begin so
pub refuted_root : (nodes : List Node) (root : ℕ) (first : List Bool) (literals : List ℕ)
    → AreAssumptions nodes root first literals →
    IsRefuted nodes literals → (rest : List Bool) → holds_under nodes root (first ++ rest) ≡ false
refuted_root nodes root first literals are refuted rest =
    not_true (holds_under nodes root (first ++ rest)) (sym (are.each rest)
    ∙ refuted.one_is_false (values_at (first ++ rest)))
