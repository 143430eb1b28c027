-- The codes behind those of models, one after the other.
use Rattle.std.proofs.Common.{List, [], ◌∷◌, ◌≡◌, ◌+◌, ◌-◌, ◌<◌, ◌≤◌, ◌⊎◌, inl, inr, ℕ, zero, suc}
use Rattle.std.proofs.Common.{true, false, refl, sym, ap, ◌∙◌, Some, None, length, map, arith}
use Rattle.std.specs.Prelude.{slice_get}
use Rattle.std.proofs.lemmas.Bool.{lt-ltb, le-ltb, cases_lt, true≢false}
use Rattle.std.proofs.lemmas.List.{length-map}
use Rattle.eqc_hierarchy.specs.Signals.{signals}
use Rattle.eqc_blif.specs.Netlist.{ModelOf}
use Rattle.eqc_hierarchy.specs.Codes.{is_too_large, has_many_inputs, is_driven_twice, is_undriven}
use Rattle.eqc_hierarchy.specs.Codes.{is_cyclic, code_of_drivers, flat_code}
use Rattle.eqc_netlist.specs.Graph.{DriverOf}
use Rattle.eqc_hierarchy.specs.Hierarchy.{model, paths}
use Rattle.eqc_hierarchy.specs.Searching.{IsClosed}
use Rattle.eqc_flat.specs.DriverTable.{IsDriven, IsDriverFault}
use Rattle.eqc_flat.specs.Ordering.{IsOrder, IsCircular}
use Rattle.eqc_netlist.specs.Drivers.{signal_deps}
use Rattle.eqc_hierarchy.proofs.Distinct.{Member}
use Rattle.eqc_flat.proofs.DriverTableLaws.{not_driven_twice, not_undriven}
use Rattle.eqc_flat.proofs.FlatLaws.{are_sourced, in_order_not_cyclic, circular_cyclic}
use Rattle.eqc_hierarchy.specs.ModelFaults.{HasNoModelFault}

pub code_29 : (library : List ModelOf) (top limit : ℕ) → HasNoModelFault library top
    → is_too_large library top ≡ true → flat_code library top limit ≡ Some 29
unfolding flat_code
code_29 library top limit h large = rw (
  h.models_there,
  h.not_recursive,
  h.formals_known,
  h.formals_once,
  h.inputs_given,
  large,
) refl

pub code_30 : (library : List ModelOf) (top limit : ℕ) → HasNoModelFault library top
    → is_too_large library top ≡ false
    → has_many_inputs library top limit ≡ true → flat_code library top limit ≡ Some 30
unfolding flat_code
code_30 library top limit h large many = rw (
  h.models_there,
  h.not_recursive,
  h.formals_known,
  h.formals_once,
  h.inputs_given,
  large,
  many,
) refl

-- where no other code applies, the first is that of what drives the signals
pub drivers_left : (library : List ModelOf) (top limit : ℕ) → HasNoModelFault library top
    → is_too_large library top ≡ false
    → has_many_inputs library top limit ≡ false → flat_code library top limit
    ≡ code_of_drivers library top
unfolding flat_code
drivers_left library top limit h large many = rw (
  h.models_there,
  h.not_recursive,
  h.formals_known,
  h.formals_once,
  h.inputs_given,
  large,
  many,
) refl

code_26 : (library : List ModelOf) (top : ℕ) → is_driven_twice library top ≡ true
    → code_of_drivers library top ≡ Some 26
code_26 library top twice = rw twice refl

code_27 : (library : List ModelOf) (top : ℕ) → is_driven_twice library top ≡ false
    → is_undriven library top ≡ true → code_of_drivers library top ≡ Some 27
code_27 library top twice none = rw (twice, none) refl

code_28 : (library : List ModelOf) (top : ℕ) → is_driven_twice library top ≡ false
    → is_undriven library top ≡ false
    → is_cyclic library top ≡ true → code_of_drivers library top ≡ Some 28
code_28 library top twice none circle = rw (twice, none, circle) refl

code_none : (library : List ModelOf) (top : ℕ) → is_driven_twice library top ≡ false
    → is_undriven library top ≡ false
    → is_cyclic library top ≡ false → code_of_drivers library top ≡ None
code_none library top twice none circle = rw (twice, none, circle) refl

-- why some signal has not one driver, as a code of the hierarchy
pub driver_code : (library : List ModelOf) (top code : ℕ) → IsDriverFault library top code
    → (code ≡ 72) ⊎ (code_of_drivers library top ≡ Some code)
driver_code library top code (inl refused) = inl refused
driver_code library top code (inr (inl (is, twice))) = inr (code_26 library top twice
    ∙ ap Some (sym is))
driver_code library top code (inr (inr (is, once, none))) = inr (code_27 library top once none
    ∙ ap Some (sym is))

pub many_inputs : (library : List ModelOf) (top limit : ℕ)
    → limit < length (model library top).inputs → has_many_inputs library top limit ≡ true
unfolding has_many_inputs
many_inputs library top limit more = lt-ltb limit (length (model library top).inputs) more

pub few_inputs : (library : List ModelOf) (top limit : ℕ) → length (model library top).inputs
    ≤ limit → has_many_inputs library top limit ≡ false
unfolding has_many_inputs
few_inputs library top limit few = le-ltb limit (length (model library top).inputs) few

-- the codes behind the drivers, where there is an order of the signals
pub accepted : (library : List ModelOf) (top : ℕ) (drivers : List DriverOf) (steps : List ℕ)
    → IsDriven library top drivers
    → IsOrder drivers steps → code_of_drivers library top ≡ None
accepted library top drivers steps driven order =
    code_none library top (not_driven_twice library top (map (λ (d : DriverOf). Some d) drivers)
    driven)
    (not_undriven library top drivers driven) (in_order_not_cyclic library top drivers steps driven
    order)

pub circular : (library : List ModelOf) (top : ℕ) (drivers : List DriverOf)
    → IsDriven library top drivers → IsCircular drivers
    → code_of_drivers library top ≡ Some 28
circular library top drivers driven circle =
    code_28 library top (not_driven_twice library top (map (λ (d : DriverOf). Some d) drivers)
    driven)
    (not_undriven library top drivers driven) (circular_cyclic library top drivers driven circle)

-- drivers of a hierarchy depend on signals that have drivers
pub driven_closed : (library : List ModelOf) (top : ℕ) (drivers : List DriverOf) (n : ℕ)
    → n ≡ length drivers → IsDriven library top drivers → IsClosed (signal_deps drivers) n
driven_closed library top drivers n size driven = λ s k t inside e.
    (let sourced = are_sourced library top [] [] [] drivers [] driven in
    let less : t < length drivers = sourced.closed s t (omega (arith, size, inside))
    (got_member (signal_deps drivers s) k t e) in
    omega (arith, size, less))
  where
    got_member : (xs : List ℕ) (k t : ℕ) → slice_get xs k ≡ Some t → Member t xs
    got_member [] k t e = absurd (cc)
    got_member (x ∷ xs) zero t e = inl (let same : x ≡ t = cc in same)
    got_member (x ∷ xs) (suc k) t e = inr (got_member xs k t e)

pub few_drivers : (library : List ModelOf) (top : ℕ) (drivers : List DriverOf)
    → is_too_large library top ≡ false → IsDriven library top drivers → length drivers ≤ 1048576
unfolding is_too_large
few_drivers library top drivers small driven =
    let size = driven.size in
    elim (cases_lt 1048576 (length (signals library top) + (length (paths library top) - 1))) [
      | inl many ↦ absurd (true≢false (sym (lt-ltb 1048576 (length (signals library top)
          + (length (paths library top) - 1)) many) ∙ small))
      | inr few ↦ omega (arith, few, size, length-map drivers (λ (d : DriverOf). Some d))
    ]
