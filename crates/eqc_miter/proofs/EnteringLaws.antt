-- Literals of steps that are taken away.
use Rattle.std.proofs.Common.{◌≡◌, ℕ, ◌∙◌, ◌<◌, List, length, set, Option, Some, None, sym, ap, inl}
use Rattle.std.proofs.Common.{inr}
use Rattle.std.proofs.lemmas.Bool.{cases_eq}
use Rattle.std.proofs.lemmas.List.{get_or-set_same, get_or-set_other}
use Rattle.eqc_xag.specs.declared.node.Node.{Node}
use Rattle.eqc_pair.specs.PairOf.{PairOf}
use Rattle.eqc_build.specs.Building.{reference_of}
use Rattle.eqc_build.specs.Steps.{StepsOf}
use Rattle.eqc_gates.specs.Entering.{AreLiterals}
use Rattle.eqc_literals.specs.Literals.{IsInside}

-- literals are those of their steps still where one of them is taken away
literals_without : (p : PairOf) (nodes : List Node) (table more : List (Option ℕ)) (k : ℕ)
    → AreLiterals p nodes table → k < length table → more ≡ set table k None
    → AreLiterals p nodes more
literals_without p nodes table more k are inside is = rw is (record {
  each = λ i l there. elim (cases_eq i k) [
    | inl same ↦ absurd (let none : None ≡ Some l = sym (get_or-set_same table k None None inside)
        ∙ (ap (reference_of (set table k None)) (sym same) ∙ there) in cc)
    | inr apart ↦ are.each i l (sym (get_or-set_other table k i None None apart) ∙ there)
  ];
})

-- the same of the literals of steps in a graph
pub inside_without : (g : StepsOf) (nodes : List Node) (table more : List (Option ℕ)) (k : ℕ)
    → IsInside g nodes table → k < length table → more ≡ set table k None → IsInside g nodes more
inside_without g nodes table more k inside within is = record {
  lawful = inside.lawful;
  values = literals_without g.pair nodes table more k inside.values within is;
}
