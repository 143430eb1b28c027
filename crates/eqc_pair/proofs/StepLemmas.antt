-- The step of each signal of a netlist.
use Rattle.std.proofs.Common.{◌≡◌, ℕ, ◌<◌, List, length, get_or, sym, ◌∙◌, ap, arith}
use Rattle.eqc_netlist.specs.Graph.{FlatOf, IsFlat}
use Rattle.eqc_netlist.proofs.EvaluationLaws.{step_of}
use Rattle.eqc_pair.specs.PairOf.{ArePlaces}

-- the steps of all signals, from the steps of those of an order
pub places_done : (f : FlatOf) (places : List ℕ) → IsFlat f → length places ≡ length f.drivers
    → ((i : ℕ) → i < length f.steps → get_or places (get_or f.steps i 0) 0 ≡ i) → ArePlaces f places
places_done f places h size is = record {
  size = size;
  within = λ s inside. (let w = step_of f s h inside in
      omega (arith, w.1, is w.0 w.1, ap (λ t. get_or places t 0) w.2));
  at = λ s inside. (let w = step_of f s h inside in
      ap (λ i. get_or f.steps i 0) (sym (ap (λ t. get_or places t 0) w.2) ∙ is w.0 w.1) ∙ w.2);
}
