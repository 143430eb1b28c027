-- What the table of structural hashing holds.
use Rattle.std.proofs.Common.{◌≡◌, ℕ, ◌+◌, ◌/◌, ◌<◌, Bool, List, [], length, refl, sym, ap, ◌∙◌}
use Rattle.std.proofs.Common.{subst, arith}
use Rattle.std.proofs.Math.ListN.{set, replicate}
use Rattle.std.proofs.lemmas.List.Elements.{All-replicate, All-nil, All-weaker}
use Rattle.eqc_xag.specs.declared.node.Node.{Node}
use Rattle.eqc_xag.specs.declared.node.Node.TheVariants.{Constant, Input, And, Xor}
use Rattle.eqc_xag.specs.Graph.{literal_value, node_value, IsWithin, IsBelow, IsGraph, Extends}
use Rattle.eqc_xag.proofs.GraphLemmas.{node_same}
use Rattle.eqc_sweep.specs.declared.table.Known.{Known}
use Rattle.eqc_sweep.specs.Known.{IsLiteralOf, AreKnown}
use Rattle.eqc_sweep.proofs.ConstantLemmas.{value_false}

-- nothing is known
pub known_none : (nodes : List Node) → AreKnown nodes []
known_none nodes = record { each = All-nil (λ (k : Known). IsLiteralOf nodes k.node k.literal) }

-- free places are true
pub known_free : (nodes : List Node) (entries : List Known) (n : ℕ) (k : Known) → IsGraph nodes
    → entries ≡ replicate n k → k.node ≡ Constant → k.literal ≡ 0 → AreKnown nodes entries
known_free nodes entries n k g same e h =
    let P : Known → Type 0 = λ k. IsLiteralOf nodes k.node k.literal in
    let zero_is : IsLiteralOf nodes Constant 0 = record {
      operands = tt;
      within =
          omega (arith, g.some);
      value = λ a. value_false nodes g a;
    } in
    let is : IsLiteralOf nodes k.node k.literal =
    subst (λ (m : Node). IsLiteralOf nodes m k.literal) (sym e)
    (subst (λ (l : ℕ). IsLiteralOf nodes Constant l) (sym h) zero_is) in
    subst (λ (all : List Known). AreKnown nodes all) (sym same) (record {
      each =
          All-replicate P n k is;
    })

pub below_most : (k m : ℕ) (n : Node) → k < m + 1 → IsBelow k n → IsBelow m n
below_most k m Constant le below = tt
below_most k m (Input v) le below = tt
below_most k m (And x y) le below = (omega (arith, le, below.0), omega (arith, le, below.1))
below_most k m (Xor x y) le below = (omega (arith, le, below.0), omega (arith, le, below.1))

-- what is known of a graph is known of one that extends it
pub literal_extended : (old new : List Node) (n : Node) (l : ℕ) → Extends old new
    → IsLiteralOf old n l → IsLiteralOf new n l
literal_extended old new n l e is = record {
  operands = below_most (length old) (length new) n (omega (arith, e.longer)) is.operands;
  within = omega (arith, e.longer, is.within);
  value = λ a. e.same l a is.within
      ∙ (is.value a ∙ node_same a (literal_value old a) (literal_value new a) (length old) n
      is.operands (λ m low. sym (e.same m a low)));
}

pub known_extended : (old new : List Node) (entries : List Known) → Extends old new
    → AreKnown old entries → AreKnown new entries
known_extended old new entries e known =
    record {
      each =
          All-weaker (λ (k : Known). IsLiteralOf old k.node k.literal) (λ (k : Known). IsLiteralOf
          new k.node k.literal)
          (λ k is. literal_extended old new k.node k.literal e is) entries known.each;
    }
