-- A pair's netlists are matched, and its assumption with them.
use Rattle.std.proofs.Common.{◌≡◌, ℕ, ◌<◌, [], List, length, get_or, sym, ◌∙◌, ap, arith}
use Rattle.std.proofs.lemmas.List.{get_or-map, length-map}
use Rattle.std.proofs.lemmas.List.FromFn.{length-map-range_with_len, get_or-map-range_with_len}
use Rattle.eqc_pair.specs.Matched.{position_of}
use Rattle.eqc_tree.specs.Assigned.{AreDistinct}
use Rattle.eqc_pair.specs.PairOf.{PairOf, IsPair, assumed, variable_in, variables_in}
use Rattle.eqc_pair.specs.PairOf.{first_variables, second_variables, assumed_variables}
use Rattle.eqc_pair.specs.PairOf.{second_signals, output_signal}
use Rattle.eqc_build.specs.Building.{AreVariables}
use Rattle.eqc_pair.proofs.PlaceLemmas.{place_below, all_named}
use Rattle.eqc_pair.proofs.OrderedLemmas.{both_ways}
use Rattle.eqc_pair.proofs.AssumptionLemmas.{assumed_known}

pub variables_at : (n i : ℕ) (order : List ℕ) → i < n → get_or (variables_in n order) i 0
    ≡ variable_in order i
variables_at n i order h = get_or-map-range_with_len (variable_in order) 0 n i i 0 h (omega arith)

-- no two inputs have one variable
pub variables_distinct : (p : PairOf) → IsPair p → AreDistinct (first_variables p)
unfolding first_variables
variables_distinct p h i j hi hj e =
    let ii : i < length p.first.inputs =
    omega (arith, length-map-range_with_len (variable_in p.order) 0 (length p.first.inputs)) in
    let jj : j < length p.first.inputs =
    omega (arith, length-map-range_with_len (variable_in p.order) 0 (length p.first.inputs)) in
    let same : variable_in p.order i ≡ variable_in p.order j =
    sym (variables_at (length p.first.inputs) i p.order ii)
    ∙ (e ∙ variables_at (length p.first.inputs) j p.order jj) in
    sym (h.ordered.at_variable i ii) ∙ (ap (λ v. get_or p.order v 0) same
    ∙ h.ordered.at_variable j jj)

-- each input of the second has the variable of the first's input of its name, and each output of
-- the first has
-- the signal of the second's output of its name
pub record AreMatched (p : PairOf) : Type 0 where
  pub first : AreVariables p.first (first_variables p) (length p.first.inputs)
  pub distinct : AreDistinct (first_variables p)
  pub second : AreVariables p.second (second_variables p) (length p.first.inputs)
  pub inputs : (i : ℕ) → i < length p.second.inputs
      → position_of p.first.inputs (get_or p.second.inputs i []) < length p.first.inputs
  pub same : (i : ℕ) → i < length p.second.inputs → get_or (second_variables p) i 0
      ≡ get_or (first_variables p) (position_of p.first.inputs (get_or p.second.inputs i [])) 0
  pub size : length (second_signals p) ≡ length p.first.outputs
  pub signals : (o : ℕ) → o < length p.first.outputs → get_or (second_signals p) o 0
      ≡ get_or p.second.output_signals (position_of p.second.outputs (get_or p.first.outputs o []))
      0
  pub within : (o : ℕ) → o < length p.first.outputs → get_or (second_signals p) o 0
      < length p.second.drivers

pub pair_matched : (p : PairOf) → IsPair p → AreMatched p
unfolding first_variables second_variables second_signals
pair_matched p h = record {
  first = record {
    size = long;
    below = λ i lt. let inside : i < length p.first.inputs = omega (arith, long) in
        rw (variables_at (length p.first.inputs) i p.order inside) (h.ordered.variable_within i
        inside);
  };
  distinct = variables_distinct p h;
  second = record {
    size = length-map p.second.inputs (λ name. variable_in p.order (position_of p.first.inputs
        name));
    below = λ i lt.
        let inside : i < length p.second.inputs =
        omega (
          arith,
          length-map p.second.inputs (λ name. variable_in p.order
              (position_of p.first.inputs name)),
        ) in
        rw (second_at i inside) (h.ordered.variable_within (position_of p.first.inputs
        (get_or p.second.inputs i [])) (input_below i inside));
  };
  inputs = input_below;
  same = λ i inside. second_at i inside
      ∙ sym (variables_at (length p.first.inputs) (position_of p.first.inputs
      (get_or p.second.inputs i [])) p.order (input_below i inside));
  size = length-map p.first.outputs (output_signal p.second);
  signals = signal_at;
  within = λ o inside.
      rw (signal_at o inside)
      (h.second_flat.outputs_within (position_of p.second.outputs (get_or p.first.outputs o []))
      (place_below p.second.outputs (get_or p.first.outputs o []) (all_named p.second.outputs
      p.first.outputs ((both_ways p.first.outputs p.second.outputs h.same_outputs).1) o
      inside)));
}
  where
    long : length (first_variables p) ≡ length p.first.inputs
    long = length-map-range_with_len (variable_in p.order) 0 (length p.first.inputs)

    second_at : (i : ℕ) → i < length p.second.inputs → get_or (second_variables p) i 0
        ≡ variable_in p.order (position_of p.first.inputs (get_or p.second.inputs i []))
    second_at i inside = get_or-map (λ name. variable_in p.order (position_of p.first.inputs name))
        p.second.inputs i [] 0 inside

    input_below : (i : ℕ) → i < length p.second.inputs
        → position_of p.first.inputs (get_or p.second.inputs i []) < length p.first.inputs
    input_below i inside = place_below p.first.inputs (get_or p.second.inputs i [])
        (all_named p.first.inputs p.second.inputs
        ((both_ways p.first.inputs p.second.inputs h.same_inputs).0) i inside)

    signal_at : (o : ℕ) → o < length p.first.outputs → get_or (second_signals p) o 0
        ≡ get_or p.second.output_signals (position_of p.second.outputs (get_or p.first.outputs o
        [])) 0
    signal_at o inside = get_or-map (output_signal p.second) p.first.outputs o [] 0 inside

-- each input of the assumption has the variable of the first's input of its name
pub record IsAssumptionMatched (p : PairOf) : Type 0 where
  pub size : length (assumed_variables p) ≡ length (assumed p).inputs
  pub below : (i : ℕ) → i < length (assumed_variables p) → get_or (assumed_variables p) i 0
      < length p.first.inputs
  pub inputs : (i : ℕ) → i < length (assumed p).inputs
      → position_of p.first.inputs (get_or (assumed p).inputs i []) < length p.first.inputs
  pub same : (i : ℕ) → i < length (assumed p).inputs → get_or (assumed_variables p) i 0
      ≡ get_or (first_variables p) (position_of p.first.inputs (get_or (assumed p).inputs i [])) 0

pub assumption_matched : (p : PairOf) → IsPair p → IsAssumptionMatched p
unfolding first_variables assumed_variables
assumption_matched p h = record {
  size = long;
  below = λ i lt.
      (let inside : i < length (assumed p).inputs = omega (arith, long) in
      rw (at i inside) (h.ordered.variable_within (position_of p.first.inputs
      (get_or (assumed p).inputs i [])) (input_below i inside)));
  inputs = input_below;
  same = λ i inside. at i inside
      ∙ sym (variables_at (length p.first.inputs) (position_of p.first.inputs
      (get_or (assumed p).inputs i [])) p.order (input_below i inside));
}
  where
    long : length (assumed_variables p) ≡ length (assumed p).inputs
    long = length-map (assumed p).inputs (λ name. variable_in p.order (position_of p.first.inputs
        name))

    at : (i : ℕ) → i < length (assumed p).inputs → get_or (assumed_variables p) i 0
        ≡ variable_in p.order (position_of p.first.inputs (get_or (assumed p).inputs i []))
    at i inside = get_or-map (λ name. variable_in p.order (position_of p.first.inputs name))
        (assumed p).inputs i [] 0 inside

    input_below : (i : ℕ) → i < length (assumed p).inputs
        → position_of p.first.inputs (get_or (assumed p).inputs i []) < length p.first.inputs
    input_below i inside = place_below p.first.inputs (get_or (assumed p).inputs i [])
        (all_named p.first.inputs (assumed p).inputs (assumed_known p h) i inside)
