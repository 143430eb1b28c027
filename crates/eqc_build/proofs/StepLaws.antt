-- The steps of a pair: what they use comes before them, and their values are those of signals.
use Rattle.std.proofs.Common.{◌≡◌, ℕ, zero, suc, ◌+◌, ◌-◌, ◌<◌, ◌≤◌, Bool, List, [], ◌∷◌, length}
use Rattle.std.proofs.Common.{map, get_or, refl, sym, ◌∙◌, ap, arith, inl, inr, subst, Option, Some}
use Rattle.std.proofs.Common.{None, IfSome}
use Rattle.std.specs.Option.{option_map_or, option_copied, unwrap_or}
use Rattle.std.specs.Borrow.{Bor}
use Rattle.std.proofs.lemmas.List.{get_or-map, length-map}
use Rattle.std.proofs.lemmas.Bool.{lt-ltb, le-ltb, cases_lt}
use Rattle.eqc_netlist.specs.Graph.{FlatOf, IsFlat, FollowsDrivers, DriverOf, input, tie, cover}
use Rattle.eqc_netlist.specs.Graph.{driver_at, dependencies, driven, value_of}
use Rattle.eqc_netlist.proofs.EvaluationLaws.{dep_before}
use Rattle.eqc_pair.specs.PairOf.{PairOf, IsPair, IsAssumption, ArePlaces, no_netlist, assumed}
use Rattle.eqc_pair.specs.PairOf.{first_variables, second_variables, assumed_variables}
use Rattle.eqc_pair.specs.PairOf.{second_signals}
use Rattle.eqc_pair.proofs.AssumptionLemmas.{assumed_flat}
use Rattle.eqc_build.specs.Schedule.{AreWithin}
use Rattle.eqc_build.specs.Steps.{StepsOf, AreSteps, IsChoice, IsSide, inputs_under, assumed_start}
use Rattle.eqc_build.specs.Steps.{steps_in, value_at, chosen_for, step_in, uses_in, uses_of}
use Rattle.eqc_build.specs.Steps.{first_root, second_root, roots_of, assumed_root, goals_of}
use Rattle.eqc_build.specs.StepDrivers.{IsDriverIn, IsMadeBy}
use Rattle.eqc_build.specs.declared.steps.StepDriver.{StepDriver}
use Rattle.eqc_build.specs.declared.steps.StepDriver.TheVariants.{Variable, Copy, Cover, Table}
use Rattle.eqc_build.specs.declared.cover_tables.CoverTable.{CoverTable}
use Rattle.eqc_build.proofs.PairLaws.{pair_matched, assumption_matched}

-- ---- steps of the first netlist, of the second and of the assumption

pub value_first : (p : PairOf) (a : ℕ → Bool) (k : ℕ) → k < length p.first.drivers
    → value_at p a k ≡ value_of p.first (inputs_under (first_variables p) a) (get_or p.first.steps k
    0)
unfolding value_at
value_first p a k lt = rw (lt-ltb k (length p.first.drivers) lt) refl

behind : (n j : ℕ) → n + j - n ≡ j
behind n j = omega arith

pub value_second : (p : PairOf) (a : ℕ → Bool) (j : ℕ) → j < length p.second.drivers →
    value_at p a (length p.first.drivers + j) ≡ value_of p.second (inputs_under (second_variables p)
    a) (get_or p.second.steps j 0)
unfolding value_at
value_second p a j lt = rw (
  le-ltb (length p.first.drivers + j) (length p.first.drivers)
      (omega arith),
  lt-ltb (length p.first.drivers + j) (assumed_start p) (omega (arith, lt)),
)
    (ap (λ i. value_of p.second (inputs_under (second_variables p) a) (get_or p.second.steps i 0))
    (behind (length p.first.drivers) j))

pub value_assumed : (p : PairOf) (a : ℕ → Bool) (j : ℕ) → value_at p a (assumed_start p + j)
    ≡ value_of (assumed p) (inputs_under (assumed_variables p) a) (get_or (assumed p).steps j 0)
unfolding value_at
value_assumed p a j = rw (
  le-ltb (assumed_start p + j) (length p.first.drivers) (omega arith),
  le-ltb (assumed_start p + j) (assumed_start p) (omega arith),
)
    (ap (λ i. value_of (assumed p) (inputs_under (assumed_variables p) a) (get_or (assumed p).steps
    i 0)) (behind (assumed_start p) j))

pub uses_first : (g : StepsOf) (k : ℕ) → k < length g.pair.first.drivers
    → uses_of g k ≡ uses_in g.pair.first g.chosen g.places 0 k
unfolding uses_of
uses_first g k lt = rw (lt-ltb k (length g.pair.first.drivers) lt) refl

pub uses_second : (g : StepsOf) (j : ℕ) → j < length g.pair.second.drivers
    → uses_of g (length g.pair.first.drivers + j) ≡ uses_in g.pair.second g.chosen g.others
    (length g.pair.first.drivers) j
unfolding uses_of
uses_second g j lt = rw (
  le-ltb (length g.pair.first.drivers + j) (length g.pair.first.drivers)
      (omega arith),
  lt-ltb (length g.pair.first.drivers + j) (assumed_start g.pair)
      (omega (arith, lt)),
)
    (ap (uses_in g.pair.second g.chosen g.others (length g.pair.first.drivers))
    (behind (length g.pair.first.drivers) j))

pub uses_assumed : (g : StepsOf) (j : ℕ) → uses_of g (assumed_start g.pair + j)
    ≡ uses_in (assumed g.pair) g.chosen g.further (assumed_start g.pair) j
unfolding uses_of
uses_assumed g j = rw (
  le-ltb (assumed_start g.pair + j) (length g.pair.first.drivers)
      (omega arith),
  le-ltb (assumed_start g.pair + j) (assumed_start g.pair) (omega arith),
)
    (ap (uses_in (assumed g.pair) g.chosen g.further (assumed_start g.pair))
    (behind (assumed_start g.pair) j))

-- what holds of a step of each of the three holds of each step
pub for_each_step : (p : PairOf) (P : ℕ → Type 0) → ((k : ℕ) → k < length p.first.drivers → P k) →
    ((j : ℕ) → j < length p.second.drivers → P (length p.first.drivers + j))
    → ((j : ℕ) → j < length (assumed p).drivers → P (assumed_start p + j)) →
    (k : ℕ) → k < steps_in p → P k
for_each_step p P first second third k inside = elim (cases_lt k (length p.first.drivers)) [
  | inl lt ↦ first k lt
  | inr past ↦ elim (cases_lt k (assumed_start p)) [
    | inl lt ↦ subst P (let e : length p.first.drivers + (k - length p.first.drivers) ≡ k =
        omega (arith, past) in e) (second (k - length p.first.drivers) (omega (arith, past, lt)))
    | inr behind_both ↦ subst P (let e : assumed_start p + (k - assumed_start p) ≡ k =
        omega (arith, behind_both) in e) (third (k - assumed_start p) (omega (
          arith,
          behind_both,
          inside,
        )))
  ]
]

-- ---- what a step uses

-- the place of a step's signal is the step
pub place_of_step : (f : FlatOf) (places : List ℕ) (k : ℕ) → IsFlat f → ArePlaces f places
    → k < length f.steps → get_or places (get_or f.steps k 0) 0 ≡ k
place_of_step f places k flat p lt =
    let inside = flat.steps_within k lt in
    flat.once (get_or places (get_or f.steps k 0) 0) k (p.within (get_or f.steps k 0) inside) lt
    (p.at (get_or f.steps k 0) inside)

side_before : (f : FlatOf) (chosen places : List ℕ) (start k c : ℕ) → IsFlat f → ArePlaces f places
    →
    ((i : ℕ) → i < start + length f.drivers → chosen_for chosen i ≤ i) → k < length f.drivers
    → c < length (uses_in f chosen places start k) →
    get_or (uses_in f chosen places start k) c 0 < start + k
unfolding step_in
side_before f chosen places start k c flat p early inside within =
    let deps = dependencies (driver_at f (get_or f.steps k 0)) in
    let lt : c < length deps = omega (arith, within, length-map deps (step_in chosen places start))
    in
    let b = dep_before f k c flat (omega (arith, inside, flat.step_count)) lt in
    let place : get_or places (get_or deps c 0) 0 ≡ b.0 = ap (λ s. get_or places s 0) (sym b.2)
    ∙ place_of_step f places b.0 flat p (omega (arith, b.1, inside, flat.step_count)) in
    let at : get_or (map (step_in chosen places start) deps) c 0 ≡ step_in chosen places start
    (get_or deps c 0) = get_or-map (step_in chosen places start) deps c 0 0 lt in
    omega (
      arith,
      at,
      early (start + get_or places (get_or deps c 0) 0) (omega (
        arith,
        place,
        b.1,
        inside,
      )),
      place,
      b.1,
    )

-- it comes before the step
pub uses_before : (g : StepsOf) (k c : ℕ) → AreSteps g → k < steps_in g.pair
    → c < length (uses_of g k) → get_or (uses_of g k) c 0 < k
uses_before g k c h inside = for_each_step g.pair (λ i. c < length (uses_of g i)
    → get_or (uses_of g i) c 0 < i)
    (λ i lt.
    subst (λ us. c < length us → get_or us c 0 < i) (sym (uses_first g i lt))
    (λ w. omega (
      arith,
      side_before g.pair.first g.chosen g.places 0 i c h.lawful.first_flat
          h.places (λ x less. h.choice.early x (omega (arith, less))) lt w,
    )))
    (λ j lt.
    subst (λ us. c < length us → get_or us c 0 < length g.pair.first.drivers + j)
    (sym (uses_second g j lt))
    (side_before g.pair.second g.chosen g.others (length g.pair.first.drivers) j c
    h.lawful.second_flat h.others (λ x low. h.choice.early x (omega (arith, low))) lt))
    (λ j lt.
    subst (λ us. c < length us → get_or us c 0 < assumed_start g.pair + j) (sym (uses_assumed g j))
    (side_before (assumed g.pair) g.chosen g.further (assumed_start g.pair) j c
    (assumed_flat g.pair h.lawful) h.further (λ x low. h.choice.early x low) lt))
    k inside

pub uses_within : (g : StepsOf) (k c : ℕ) → AreSteps g → k < steps_in g.pair
    → c < length (uses_of g k) → get_or (uses_of g k) c 0 < steps_in g.pair
uses_within g k c h inside within = omega (arith, uses_before g k c h inside within, inside)

-- ---- the step of a signal

pub first_made : (g : StepsOf) (a : ℕ → Bool) (s : ℕ) → AreSteps g → s < length g.pair.first.drivers
    →
    value_at g.pair a (step_in g.chosen g.places 0 s) ≡ value_of g.pair.first
    (inputs_under (first_variables g.pair) a) s
unfolding step_in
first_made g a s h inside =
    let lt : get_or g.places s 0 < length g.pair.first.drivers =
    omega (arith, h.places.within s inside, h.lawful.first_flat.step_count) in
    let zero : 0 + get_or g.places s 0 ≡ get_or g.places s 0 = omega arith in
    h.choice.same (0 + get_or g.places s 0) a (omega (arith, lt))
    ∙ (ap (value_at g.pair a) zero
    ∙ (value_first g.pair a (get_or g.places s 0) lt
    ∙ ap (value_of g.pair.first (inputs_under (first_variables g.pair) a)) (h.places.at s inside)))

pub second_made : (g : StepsOf) (a : ℕ → Bool) (t : ℕ) → AreSteps g
    → t < length g.pair.second.drivers →
    value_at g.pair a (step_in g.chosen g.others (length g.pair.first.drivers) t)
    ≡ value_of g.pair.second (inputs_under (second_variables g.pair) a) t
unfolding step_in
second_made g a t h inside =
    let n = length g.pair.first.drivers in
    let lt : get_or g.others t 0 < length g.pair.second.drivers =
    omega (arith, h.others.within t inside, h.lawful.second_flat.step_count) in
    h.choice.same (n + get_or g.others t 0) a (omega (arith, lt))
    ∙ (value_second g.pair a (get_or g.others t 0) lt
    ∙ ap (value_of g.pair.second (inputs_under (second_variables g.pair) a)) (h.others.at t inside))

pub assumed_made : (g : StepsOf) (a : ℕ → Bool) (t : ℕ) → AreSteps g
    → t < length (assumed g.pair).drivers →
    value_at g.pair a (step_in g.chosen g.further (assumed_start g.pair) t)
    ≡ value_of (assumed g.pair) (inputs_under (assumed_variables g.pair) a) t
unfolding step_in
assumed_made g a t h inside =
    let lt : get_or g.further t 0 < length (assumed g.pair).drivers =
    omega (arith, h.further.within t inside, (assumed_flat g.pair h.lawful).step_count) in
    h.choice.same (assumed_start g.pair + get_or g.further t 0) a (omega (arith, lt))
    ∙ (value_assumed g.pair a (get_or g.further t 0)
    ∙ ap (value_of (assumed g.pair) (inputs_under (assumed_variables g.pair) a))
    (h.further.at t inside))

-- the steps of an output's two signals
pub first_root_within : (g : StepsOf) (output : ℕ) → AreSteps g
    → output < length g.pair.first.outputs → first_root g output < steps_in g.pair
unfolding step_in
first_root_within g output h inside =
    let s = get_or g.pair.first.output_signals output 0 in
    let place = h.places.within s (h.lawful.first_flat.outputs_within output inside) in
    omega (
      arith,
      place,
      h.lawful.first_flat.step_count,
      h.choice.early (0 + get_or g.places s 0)
          (omega (arith, place, h.lawful.first_flat.step_count)),
    )

pub second_root_within : (g : StepsOf) (output : ℕ) → AreSteps g
    → output < length g.pair.first.outputs → second_root g output < steps_in g.pair
unfolding step_in
second_root_within g output h inside =
    let n = length g.pair.first.drivers in
    let t = get_or (second_signals g.pair) output 0 in
    let place = h.others.within t ((pair_matched g.pair h.lawful).within output inside) in
    omega (
      arith,
      place,
      h.lawful.second_flat.step_count,
      h.choice.early (n + get_or g.others t 0)
          (omega (arith, place, h.lawful.second_flat.step_count)),
    )

pub root_first : (g : StepsOf) (output : ℕ) → get_or (roots_of g output) 0 0 ≡ first_root g output
unfolding roots_of
root_first g output = refl

pub root_second : (g : StepsOf) (output : ℕ) → get_or (roots_of g output) 1 0 ≡ second_root g output
unfolding roots_of
root_second g output = refl

-- they are two
pub roots_twice : (g : StepsOf) (output : ℕ) (roots : List ℕ) → roots ≡ roots_of g output
    → get_or roots 0 0 ∷ get_or roots 1 0 ∷ [] ≡ roots_of g output
unfolding roots_of
roots_twice g output roots is = rw is refl

pub roots_within : (g : StepsOf) (output k : ℕ) → AreSteps g → output < length g.pair.first.outputs
    → k < length (roots_of g output) → get_or (roots_of g output) k 0 < steps_in g.pair
unfolding roots_of
roots_within g output zero h inside lt = first_root_within g output h inside
roots_within g output (suc zero) h inside lt = second_root_within g output h inside
roots_within g output (suc (suc k)) h inside lt = absurd (omega arith)

-- the assumption that a call lends, or none
pub lent_none : (p : PairOf) (lent : Option (Bor FlatOf)) → option_copied lent ≡ p.assumes
    → lent ≡ None → p.assumes ≡ None
lent_none p lent is none = sym is ∙ ap option_copied none

pub lent_some : (p : PairOf) (lent : Option (Bor FlatOf)) (netlist : Bor FlatOf)
    → option_copied lent ≡ p.assumes → lent ≡ Some netlist → p.assumes ≡ Some netlist.now
lent_some p lent netlist is some = sym is ∙ ap option_copied some

pub assumed_of : (p : PairOf) (netlist : FlatOf) → p.assumes ≡ Some netlist → assumed p ≡ netlist
assumed_of p netlist is = ap (λ o. unwrap_or o no_netlist) is

pub nothing_assumed : (p : PairOf) → p.assumes ≡ None → length (assumed p).drivers ≡ 0
nothing_assumed p none = ap (λ o. length (unwrap_or o no_netlist).drivers) none

pub assumption_of_pair : (p : PairOf) (netlist : FlatOf) → IsPair p → p.assumes ≡ Some netlist
    → IsAssumption p.first.inputs netlist
assumption_of_pair p netlist h is = subst (λ o. IfSome o (IsAssumption p.first.inputs)) is
    h.assuming

-- the step of the assumption's output, which is listed where there is an assumption
module _ (g : StepsOf) (h : AreSteps g) (netlist : FlatOf) (is : g.pair.assumes ≡ Some netlist)
  where
    pub output_assumed : get_or netlist.output_signals 0 0 < length (assumed g.pair).drivers
    output_assumed =
        let one = assumption_of_pair g.pair netlist h.lawful is in
        subst (λ (f : FlatOf). get_or netlist.output_signals 0 0 < length f.drivers)
        (sym (assumed_of g.pair netlist is)) (one.flat.outputs_within 0
        (omega (arith, one.one_output)))

    pub assumed_root_is : assumed_root g ≡ step_in g.chosen g.further (assumed_start g.pair)
        (get_or netlist.output_signals 0 0) ∷ []
    unfolding assumed_root
    assumed_root_is = ap (λ o. option_map_or (λ (f : FlatOf). step_in g.chosen g.further
        (assumed_start g.pair) (get_or f.output_signals 0 0) ∷ []) o []) is

    pub assumed_step_within : step_in g.chosen g.further (assumed_start g.pair)
        (get_or netlist.output_signals 0 0) < steps_in g.pair
    unfolding step_in
    assumed_step_within =
        let t = get_or netlist.output_signals 0 0 in
        let place = h.further.within t output_assumed in
        omega (
          arith,
          place,
          (assumed_flat g.pair h.lawful).step_count,
          h.choice.early (assumed_start g.pair + get_or g.further t 0)
              (omega (arith, place, (assumed_flat g.pair h.lawful).step_count)),
        )

-- there is none without an assumption
pub no_assumed_root : (g : StepsOf) → g.pair.assumes ≡ None → assumed_root g ≡ []
unfolding assumed_root
no_assumed_root g none =
    ap (λ o. option_map_or (λ (f : FlatOf). step_in g.chosen g.further (assumed_start g.pair)
    (get_or f.output_signals 0 0) ∷ []) o []) none

pub assumed_root_within : (g : StepsOf) → AreSteps g → AreWithin g (assumed_root g)
assumed_root_within g h = by g.pair.assumes refl
  where
    by : (o : Option FlatOf) → g.pair.assumes ≡ o → AreWithin g (assumed_root g)
    by None is = rw (no_assumed_root g is) (record { each = λ k lt. absurd (omega arith) })
    by (Some f) is = rw (assumed_root_is g h f is) (record {
      each = λ k lt. (let zero : k ≡ 0 =
          omega arith in rw zero (assumed_step_within g h f is));
    })

-- what a comparison of an output needs: two steps, or three with that of the assumption
pub goals_two : (g : StepsOf) (output : ℕ) (roots : List ℕ) → roots ≡ roots_of g output
    → [] ≡ assumed_root g → get_or roots 0 0 ∷ get_or roots 1 0 ∷ [] ≡ goals_of g output
unfolding roots_of
goals_two g output roots is none = rw (is, sym none) refl

pub goals_three : (g : StepsOf) (output third : ℕ) (roots : List ℕ) → roots ≡ roots_of g output
    → third ∷ [] ≡ assumed_root g → get_or roots 0 0 ∷ get_or roots 1 0 ∷ third ∷ []
    ≡ goals_of g output
unfolding roots_of
goals_three g output third roots is one = rw (is, sym one) refl

-- they are steps
pub goals_within : (g : StepsOf) (output : ℕ) → AreSteps g → output < length g.pair.first.outputs
    → AreWithin g (goals_of g output)
unfolding roots_of
goals_within g output h inside = record { each = each }
  where
    each : (k : ℕ) → k < length (goals_of g output) → get_or (goals_of g output) k 0
        < steps_in g.pair
    each zero lt = first_root_within g output h inside
    each (suc zero) lt = second_root_within g output h inside
    each (suc (suc k)) lt = (assumed_root_within g h).each k (omega arith)

-- ---- what makes a step's value

-- values of steps that are those of signals
values_mapped : (v w : ℕ → Bool) (t : ℕ → ℕ) (signals : List ℕ) → ((k : ℕ) → k < length signals
    → v (t (get_or signals k 0)) ≡ w (get_or signals k 0)) → map v (map t signals) ≡ map w signals
values_mapped v w t [] same = refl
values_mapped v w t (s ∷ signals) same =
    let here : v (t s) ≡ w s = same 0 (omega arith) in
    let others = values_mapped v w t signals (λ k h. same (suc k) (omega arith)) in
    cc

-- what a driver makes is the value of its signal
driven_value : (f : FlatOf) (b : ℕ → Bool) (s : ℕ) (driver : DriverOf) → FollowsDrivers f
    → s < length f.drivers → driver_at f s ≡ driver → driven f.rows b (value_of f b) driver
    ≡ value_of f b s
driven_value f b s driver follows inside is = ap (driven f.rows b (value_of f b)) (sym is)
    ∙ sym (follows b s inside)

pub made_in : (g : StepsOf) (f : FlatOf) (wide : Option FlatOf) (tables : List (ℕ × CoverTable))
    (variables places : List ℕ) (start k at : ℕ) (driver : StepDriver) →
    IsSide g f wide tables variables places start k at → IsDriverIn f variables g.chosen places
    start k driver → IsMadeBy g at driver
made_in g f wide tables variables places start k at (Variable v) side is =
    let s = get_or f.steps k 0 in
    let inside : s < length f.drivers =
    side.lawful.steps_within k (omega (arith, side.inside, side.lawful.step_count)) in
    let position : is.0 < length f.inputs = rw is.1 at (side.lawful.drivers_within s inside) in (
      omega (arith, is.2, side.below is.0 position),
      λ a. ap a is.2
          ∙ (driven_value f (inputs_under variables a) s (input is.0) side.follows inside is.1
          ∙ sym (side.value a)),
    )
made_in g f wide tables variables places start k at (Copy other) side is =
    let s = get_or f.steps k 0 in
    let inside : s < length f.drivers =
    side.lawful.steps_within k (omega (arith, side.inside, side.lawful.step_count)) in
    let there : is.0 < length f.drivers = rw is.1 at (side.lawful.drivers_within s inside) in (
      side.uses ∙ (ap (λ d. map (step_in g.chosen places start) (dependencies d)) is.1
          ∙ ap (λ x. x ∷ []) (sym is.2)),
      λ a. ap (value_at g.pair a) is.2 ∙ (side.signal a is.0 there
          ∙ (driven_value f (inputs_under variables a) s (tie is.0) side.follows inside is.1
          ∙ sym (side.value a))),
    )
made_in g f wide tables variables places start k at (Cover columns rows known) side is =
    let s = get_or f.steps k 0 in
    let inside : s < length f.drivers =
    side.lawful.steps_within k (omega (arith, side.inside, side.lawful.step_count)) in
    let there = rw is.2 at (side.lawful.drivers_within s inside) in (
      side.uses ∙ (ap (λ d. map (step_in g.chosen places start) (dependencies d)) is.2 ∙ sym is.3),
      λ a.
          let b = inputs_under variables a in
          let columns_are : map (value_at g.pair a) columns ≡ map (value_of f b) is.0 =
          ap (map (value_at g.pair a)) is.3
          ∙ values_mapped (value_at g.pair a) (value_of f b) (step_in g.chosen places start) is.0
          (λ i lt. side.signal a (get_or is.0 i 0) (there.0 i lt)) in
          rw (is.4, columns_are) (driven_value f b s (cover is.0 is.1) side.follows inside is.2
          ∙ sym (side.value a)),
      is.5,
    )
made_in g f wide tables variables places start k at (Table columns table) side is =
    let s = get_or f.steps k 0 in
    let inside : s < length f.drivers =
    side.lawful.steps_within k (omega (arith, side.inside, side.lawful.step_count)) in
    let there = rw is.2 at (side.lawful.drivers_within s inside) in (
      side.uses ∙ (ap (λ d. map (step_in g.chosen places start) (dependencies d)) is.2 ∙ sym is.3),
      rw is.3 (omega (arith, is.4, length-map is.0 (step_in g.chosen places start))),
      λ a.
          let b = inputs_under variables a in
          let columns_are : map (value_at g.pair a) columns ≡ map (value_of f b) is.0 =
          ap (map (value_at g.pair a)) is.3
          ∙ values_mapped (value_at g.pair a) (value_of f b) (step_in g.chosen places start) is.0
          (λ i lt. side.signal a (get_or is.0 i 0) (there.0 i lt)) in
          rw columns_are (is.5.value (map (value_of f b) is.0) (length-map is.0 (value_of f b)))
          ∙ (driven_value f b s (cover is.0 is.1) side.follows inside is.2 ∙ sym (side.value a)),
    )

pub side_first : (g : StepsOf) (k : ℕ) → AreSteps g → k < length g.pair.first.drivers
    → IsSide g g.pair.first (Some g.wide.0) g.tables.first (first_variables g.pair) g.places 0 k k
side_first g k h lt = record {
  lawful = h.lawful.first_flat;
  follows = h.first_follows;
  places_are = h.places;
  tables_are = h.tables.first;
  wide_is = h.wide_first;
  begins = omega arith;
  inside = lt;
  size = (pair_matched g.pair h.lawful).first.size;
  below = λ position inside. (let m = (pair_matched g.pair h.lawful).first in
      m.below position (omega (arith, inside, m.size)));
  uses = uses_first g k lt;
  value = λ a. value_first g.pair a k lt;
  signal = λ a s inside. first_made g a s h inside;
}

pub side_second : (g : StepsOf) (k j : ℕ) → AreSteps g → k ≡ length g.pair.first.drivers + j
    → j < length g.pair.second.drivers →
    IsSide g g.pair.second (Some g.wide.1) g.tables.second (second_variables g.pair) g.others
    (length g.pair.first.drivers) j k
side_second g k j h is lt = rw is (record {
  lawful = h.lawful.second_flat;
  follows = h.second_follows;
  places_are = h.others;
  tables_are = h.tables.second;
  wide_is = h.wide_second;
  begins = omega (arith, h.lawful.first_flat.few_signals);
  inside = lt;
  size = (pair_matched g.pair h.lawful).second.size;
  below = λ position inside. (let m = (pair_matched g.pair h.lawful).second in
      m.below position (omega (arith, inside, m.size)));
  uses = uses_second g j lt;
  value = λ a. value_second g.pair a j lt;
  signal = λ a s inside. second_made g a s h inside;
})

pub side_assumed : (g : StepsOf) (k j : ℕ) → AreSteps g → k ≡ assumed_start g.pair + j
    → j < length (assumed g.pair).drivers →
    IsSide g (assumed g.pair) None g.tables.assumed (assumed_variables g.pair) g.further
    (assumed_start g.pair) j k
side_assumed g k j h is lt = rw is (record {
  lawful = assumed_flat g.pair h.lawful;
  follows = h.assumed_follows;
  places_are = h.further;
  tables_are = h.tables.assumed;
  wide_is = tt;
  begins = omega (arith, h.lawful.first_flat.few_signals, h.lawful.second_flat.few_signals);
  inside = lt;
  size = (assumption_matched g.pair h.lawful).size;
  below = λ position inside. (let m = assumption_matched g.pair h.lawful in
      m.below position (omega (arith, inside, m.size)));
  uses = uses_assumed g j;
  value = λ a. value_assumed g.pair a j;
  signal = λ a s inside. assumed_made g a s h inside;
})

-- steps each of which is made
pub each_choice : (p : PairOf) → IsChoice p []
each_choice p = record { early = λ k lt. omega arith; same = λ k a lt. refl }
