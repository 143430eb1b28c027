-- What stands for the literals of steps since two of them are equal.
use Rattle.std.proofs.Common.{◌≡◌, ℕ, ◌/◌, ◌<◌, Bool, not, List, length}
use Rattle.std.proofs.Common.{set, Option, Some, None, IfSome, sym, ◌∙◌, ap, inl, inr, arith}
use Rattle.std.proofs.Common.{replicate}
use Rattle.std.proofs.lemmas.Bool.{cases_eq, cases_lt}
use Rattle.std.proofs.lemmas.List.{get_or-set_same, get_or-set_other, get_or-replicate, get_or_past}
use Rattle.std.proofs.lemmas.List.{length-replicate}
use Rattle.eqc_xag.specs.declared.node.Node.{Node}
use Rattle.eqc_xag.specs.Graph.{IsWithin, literal_value}
use Rattle.eqc_sweep.specs.Finding.{AreEqual}
use Rattle.eqc_sweep.specs.Sweeping.{HasValue}
use Rattle.eqc_pair.specs.PairOf.{PairOf}
use Rattle.eqc_build.specs.Building.{reference_of}
use Rattle.eqc_build.specs.Steps.{value_at}
use Rattle.eqc_gates.specs.Entering.{AreLiterals}

-- the first of two equal literals stands for the second one
pub stands : (nodes : List Node) (f : (ℕ → Bool) → Bool) (first second l : ℕ) → IsWithin nodes first
    → AreEqual nodes first second → HasValue nodes l f → l ≡ second → HasValue nodes first f
stands nodes f first second l within equal has is = record {
  within = within;
  value = λ a. equal.value a ∙ (ap (literal_value nodes a) (sym is) ∙ has.value a);
}

-- and its complement for the complement
pub stands_turned : (nodes : List Node) (f : (ℕ → Bool)
    → Bool) (first second l not_first not_second : ℕ) → IsWithin nodes first
    → AreEqual nodes first second → HasValue nodes l f → l ≡ not_second
    → not_first / 2 ≡ first / 2 → ((ns : List Node) (a : ℕ → Bool) → literal_value ns a not_first
    ≡ not (literal_value ns a first))
    → ((ns : List Node) (a : ℕ → Bool) → literal_value ns a not_second
    ≡ not (literal_value ns a second)) → HasValue nodes not_first f
stands_turned nodes f first second l not_first not_second within equal has is node turned other =
    record {
      within = omega (arith, within, node);
      value = λ a. turned nodes a ∙ (ap not (equal.value a) ∙ (sym (other nodes a)
          ∙ (ap (literal_value nodes a) (sym is) ∙ has.value a)));
    }

-- a table of literals gets another one of a step's value
pub literals_set : (p : PairOf) (nodes : List Node) (table : List (Option ℕ)) (step l : ℕ)
    → AreLiterals p nodes table → HasValue nodes l (λ a. value_at p a step) → step < length table
    → AreLiterals p nodes (set table step (Some l))
literals_set p nodes table step l are has inside = record {
  each = λ k m there. elim (cases_eq k step) [
    | inl same ↦
        let found : Some l ≡ Some m = sym (get_or-set_same table step (Some l) None inside)
        ∙ (ap (reference_of (set table step (Some l))) (sym same) ∙ there) in
        let e : l ≡ m = cc in rw same (rw (← e) has)
    | inr apart ↦ are.each k m (sym (get_or-set_other table step k (Some l) None apart) ∙ there)
  ];
}

-- what a step has in a table is of the graph, and has its value
pub entry_has : (p : PairOf) (nodes : List Node) (table : List (Option ℕ)) (step : ℕ) (x : Option ℕ)
    → AreLiterals p nodes table → x ≡ reference_of table step
    → IfSome x (λ l. HasValue nodes l (λ a. value_at p a step))
entry_has p nodes table step (Some l) are is = are.each step l (sym is)
entry_has p nodes table step None are is = record {}

-- a table without literals
pub literals_none : (p : PairOf) (nodes : List Node) (table : List (Option ℕ)) (n : ℕ)
    → table ≡ replicate n None → AreLiterals p nodes table
literals_none p nodes table n is = let nothing : Option ℕ = None in rw is (record {
  each = λ k l there. absurd (let none : None ≡ Some l = sym (elim (cases_lt k n) [
    | inl inside ↦ get_or-replicate n k None None inside
    | inr past ↦ get_or_past (replicate n nothing) k None
        (omega (arith, past, length-replicate n nothing))
  ]) ∙ there in cc);
})
