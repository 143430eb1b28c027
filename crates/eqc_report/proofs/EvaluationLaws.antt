-- The values that a walk reads are the signals'.
use Rattle.std.proofs.Common.{◌≡◌, ℕ, Bool, false, List, get_or, map, Option, Some, IfSome, sym}
use Rattle.std.proofs.Common.{subst, ◌∙◌, arith}
use Rattle.std.proofs.lemmas.List.{length-map, get_or-map, get_or_default, same_lists}
use Rattle.indexmap.specs.IndexMap.{IndexMap}
use Rattle.eqc_netlist.specs.Graph.{FlatOf, value_of}
use Rattle.eqc_netlist.specs.Evaluating.{values_of}
use Rattle.eqc_report.specs.Evaluation.{AreRight, AreRead}

pub read_values : {S : Type 0} (f : FlatOf) (inputs : List Bool) (known : IndexMap ℕ Bool S)
    (signals : List ℕ) (read : List Bool) →
    AreRight f inputs known → AreRead known signals read
    → read ≡ map (value_of f (values_of inputs)) signals
read_values f inputs known signals read right are =
    same_lists read (map (value_of f (values_of inputs)) signals) (are.long
    ∙ sym (length-map signals (value_of f (values_of inputs))))
    (λ k d inside.
    get_or_default read k d false (omega arith)
    ∙ right (get_or signals k 0) (get_or read k false) (are.each k (omega (arith, are.long)))
    ∙ sym (get_or-map (value_of f (values_of inputs)) signals k 0 d (omega (arith, are.long))))

-- what holds of a value that is there
pub holds_of : {X : Type 0} (P : X → Type 0) (o : Option X) (x : X) → o ≡ Some x → IfSome o P → P x
holds_of P o x e p = subst (λ q. IfSome q P) e p
