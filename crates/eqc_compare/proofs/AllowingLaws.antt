-- What an assumption allows: by the step of its output, by the variables of the inputs, and by
-- their names.
use Rattle.std.proofs.Common.{◌≡◌, ◌↔◌, ℕ, ◌<◌, Bool, true, false, true≢false, IsTrue, List, []}
use Rattle.std.proofs.Common.{◌∷◌, map, length, get_or, refl, sym, ◌∙◌, ap, arith, Option, Some}
use Rattle.std.proofs.Common.{None, Result, Ok, Err, IfOk, option_map, subst}
use Rattle.std.specs.Option.{option_map_or, unwrap_or}
use Rattle.std.proofs.lemmas.List.{length-map}
use Rattle.eqc_tree.specs.Assigned.{assigned, DependsOnlyOn}
use Rattle.eqc_tree.proofs.AssignedLemmas.{assigned_values}
use Rattle.eqc_netlist.specs.Graph.{FlatOf, value_of}
use Rattle.eqc_pair.specs.Matched.{position_of}
use Rattle.eqc_pair.specs.PairOf.{PairOf, IsPair, no_netlist, assumed, first_variables}
use Rattle.eqc_pair.specs.PairOf.{assumed_variables}
use Rattle.eqc_pair.proofs.AssumptionLemmas.{assumed_flat}
use Rattle.eqc_pair.proofs.PlaceLemmas.{place_itself}
use Rattle.eqc_build.specs.Steps.{StepsOf, AreSteps, assumed_start, inputs_under, step_in, value_at}
use Rattle.eqc_build.specs.Steps.{assumed_root}
use Rattle.eqc_build.proofs.PairLaws.{pair_matched, assumption_matched}
use Rattle.eqc_build.proofs.StepLaws.{assumed_made, output_assumed, assumed_root_is}
use Rattle.eqc_build.proofs.StepLaws.{no_assumed_root, assumption_of_pair}
use Rattle.eqc_compare.specs.Verdict.{values_for, is_allowed, allows_none}
use Rattle.eqc_compare.specs.Comparing.{netlist_of, assumption_of, allowed_at}
use Rattle.eqc_compare.proofs.CompareLaws.{value_agrees}
use Rattle.eqc_compare.proofs.MatchedLemmas.{assigned_value}
use Rattle.eqc_compare.proofs.VerdictLemmas.{none_allowed, some_allowed, all_allowed}

-- ---- without an assumption

pub allowed_none : (p : PairOf) (a : ℕ → Bool) → p.assumes ≡ None → allowed_at p a ≡ true
unfolding allowed_at
allowed_none p a none = ap (λ o. option_map_or (λ (f : FlatOf). value_of f
    (inputs_under (assumed_variables p) a) (get_or f.output_signals 0 0)) o true) none

-- ---- with one

module _ (p : PairOf) (netlist : FlatOf) (is : p.assumes ≡ Some netlist) where
  assumed_is : netlist ≡ assumed p
  assumed_is = sym (ap (λ o. unwrap_or o no_netlist) is)

  pub allowed_some : (a : ℕ → Bool)
      → allowed_at p a ≡ value_of (assumed p) (inputs_under (assumed_variables p) a)
      (get_or (assumed p).output_signals 0 0)
  unfolding allowed_at
  allowed_some a =
      ap (λ o. option_map_or (λ (f : FlatOf). value_of f (inputs_under (assumed_variables p) a)
      (get_or f.output_signals 0 0)) o true) is
      ∙ ap (λ (f : FlatOf). value_of f (inputs_under (assumed_variables p) a)
      (get_or f.output_signals 0 0)) assumed_is

  pub root_within : IsPair p → get_or (assumed p).output_signals 0 0 < length (assumed p).drivers
  root_within h =
      let one = assumption_of_pair p netlist h is in
      subst (λ (f : FlatOf). get_or f.output_signals 0 0 < length f.drivers) assumed_is
      (one.flat.outputs_within 0 (omega (arith, one.one_output)))

  -- by names
  named_some : (a : List Bool) →
      is_allowed (netlist_of p.first) (assumption_of p) a ≡ value_of (assumed p)
      (values_for p.first.inputs a (assumed p).inputs)
      (get_or (assumed p).output_signals (position_of (assumed p).outputs
      (get_or (assumed p).outputs 0 [])) 0)
  named_some a =
      ap (λ o. is_allowed (netlist_of p.first) (option_map netlist_of o) a) is
      ∙ ap (λ (f : FlatOf). value_of f (values_for p.first.inputs a f.inputs)
      (get_or f.output_signals (position_of f.outputs (get_or f.outputs 0 [])) 0)) assumed_is

  first_place : IsPair p → position_of (assumed p).outputs (get_or (assumed p).outputs 0 []) ≡ 0
  first_place h =
      let one = assumption_of_pair p netlist h is in
      let some : 0 < length (assumed p).outputs = subst (λ (f : FlatOf). 0 < length f.outputs)
      assumed_is (omega (arith, one.one_output)) in
      place_itself (assumed p).outputs 0 (assumed_flat p h).outputs_differ some

  -- what it allows by variables is what it allows by names
  pub allowed_by_name : (a : List Bool) → IsPair p → allowed_at p (assigned (first_variables p) a)
      ≡ is_allowed (netlist_of p.first) (assumption_of p) a
  allowed_by_name a h =
      let m = pair_matched p h in
      let n = assumption_matched p h in
      allowed_some (assigned (first_variables p) a)
      ∙ (value_agrees (assumed p) (inputs_under (assumed_variables p) (assigned (first_variables p)
      a))
      (values_for p.first.inputs a (assumed p).inputs) (get_or (assumed p).output_signals 0 0)
      (assumed_flat p h)
      (λ i within. rw (n.same i within) (assigned_value (first_variables p) p.first.inputs
      (assumed p).inputs a i m.distinct (omega (arith, m.first.size, n.inputs i within))))
      (root_within h)
      ∙ sym (named_some a ∙ ap (λ k. value_of (assumed p) (values_for p.first.inputs a
      (assumed p).inputs) (get_or (assumed p).output_signals k 0)) (first_place h)))

  -- it depends on the variables of the inputs alone
  pub depends_some : IsPair p → DependsOnlyOn (first_variables p) (allowed_at p)
  depends_some h x y same =
      let m = pair_matched p h in
      let n = assumption_matched p h in
      allowed_some x
      ∙ (value_agrees (assumed p) (inputs_under (assumed_variables p) x)
      (inputs_under (assumed_variables p) y) (get_or (assumed p).output_signals 0 0)
      (assumed_flat p h)
      (λ i within. rw (n.same i within)
      (same (position_of p.first.inputs (get_or (assumed p).inputs i []))
      (omega (arith, m.first.size, n.inputs i within)))) (root_within h)
      ∙ sym (allowed_some y))

-- ---- with one or without

pub allowed_is : (p : PairOf) (a : List Bool) → IsPair p
    → allowed_at p (assigned (first_variables p) a) ≡ is_allowed (netlist_of p.first)
    (assumption_of p) a
allowed_is p a h = by p.assumes refl
  where
    by : (o : Option FlatOf) → p.assumes ≡ o → allowed_at p (assigned (first_variables p) a)
        ≡ is_allowed (netlist_of p.first) (assumption_of p) a
    by None is = allowed_none p (assigned (first_variables p) a) is
        ∙ sym (ap (λ o. is_allowed (netlist_of p.first) (option_map netlist_of o) a) is)
    by (Some f) is = allowed_by_name p f is a h

pub allowed_depends : (p : PairOf) → IsPair p → DependsOnlyOn (first_variables p) (allowed_at p)
allowed_depends p h = by p.assumes refl
  where
    by : (o : Option FlatOf) → p.assumes ≡ o → DependsOnlyOn (first_variables p) (allowed_at p)
    by None is = λ x y same. allowed_none p x is ∙ sym (allowed_none p y is)
    by (Some f) is = depends_some p f is h

-- ---- by the step of its output

no_front : {X : Type 0} (x : X) (xs : List X) → [] ≡ x ∷ xs → ⊥
no_front x xs e = cc

pub none_assumed : (g : StepsOf) → [] ≡ assumed_root g → g.pair.assumes ≡ None
unfolding assumed_root
none_assumed g none = by g.pair.assumes none
  where
    by : (o : Option FlatOf) → [] ≡ option_map_or (λ (f : FlatOf). step_in g.chosen g.further
        (assumed_start g.pair) (get_or f.output_signals 0 0) ∷ []) o [] → o ≡ None
    by None is = refl
    by (Some f) is = absurd (no_front (step_in g.chosen g.further (assumed_start g.pair)
        (get_or f.output_signals 0 0)) [] is)

pub allowed_without : (g : StepsOf) (a : ℕ → Bool) → [] ≡ assumed_root g → allowed_at g.pair a
    ≡ true
allowed_without g a none = allowed_none g.pair a (none_assumed g none)

pub root_says : (g : StepsOf) (root : ℕ) (a : ℕ → Bool) → AreSteps g → root ∷ [] ≡ assumed_root g
    → value_at g.pair a root ≡ allowed_at g.pair a
root_says g root a h is = by g.pair.assumes refl
  where
    by : (o : Option FlatOf) → g.pair.assumes ≡ o → value_at g.pair a root ≡ allowed_at g.pair a
    by None e = absurd (no_front root [] (sym (no_assumed_root g e) ∙ sym is))
    by (Some f) e =
        let same : root ≡ step_in g.chosen g.further (assumed_start g.pair) (get_or f.output_signals
        0 0) = ap (λ l. get_or l 0 0) (is ∙ assumed_root_is g h f e) in
        ap (value_at g.pair a) same
        ∙ (assumed_made g a (get_or f.output_signals 0 0) h (output_assumed g h f e)
        ∙ (ap (λ (k : FlatOf). value_of (assumed g.pair) (inputs_under (assumed_variables g.pair) a)
        (get_or k.output_signals 0 0)) (assumed_is g.pair f e)
        ∙ sym (allowed_some g.pair f e a)))

-- ---- that it allows none

-- a step that is never 1, if it is that of the assumption's output, and one that is not
pub never_is : (g : StepsOf) (root : ℕ) (never : Bool) → AreSteps g → root ∷ [] ≡ assumed_root g →
    IsTrue never ↔ ((a : ℕ → Bool) → value_at g.pair a root ≡ false)
    → never ≡ allows_none (netlist_of g.pair.first) (assumption_of g.pair)
never_is g root true h is tells =
    sym (none_allowed (netlist_of g.pair.first) (assumption_of g.pair)
    (λ a long. sym (allowed_is g.pair a h.lawful)
    ∙ (sym (root_says g root (assigned (first_variables g.pair) a) h is)
    ∙ tells.0 refl (assigned (first_variables g.pair) a))))
never_is g root false h is tells =
    sym (some_allowed (netlist_of g.pair.first) (assumption_of g.pair)
    (λ forbids. true≢false (sym (tells.1 (λ a. root_says g root a h is
    ∙ (under a ∙ forbids (map a (first_variables g.pair)) (long a)))))))
  where
    long : (a : ℕ → Bool) → length (map a (first_variables g.pair)) ≡ length g.pair.first.inputs
    long a = length-map (first_variables g.pair) a ∙ (pair_matched g.pair h.lawful).first.size

    under : (a : ℕ → Bool) → allowed_at g.pair a ≡ is_allowed (netlist_of g.pair.first)
        (assumption_of g.pair) (map a (first_variables g.pair))
    under a =
        allowed_depends g.pair h.lawful a (assigned (first_variables g.pair)
        (map a (first_variables g.pair)))
        (λ i inside. sym (assigned_values (first_variables g.pair) a i
        (pair_matched g.pair h.lawful).distinct inside))
        ∙ allowed_is g.pair (map a (first_variables g.pair)) h.lawful

pub never_told : {E : Type 0} (g : StepsOf) (root : ℕ) (result : Result Bool E) → AreSteps g
    → root ∷ [] ≡ assumed_root g →
    IfOk result (λ never. IsTrue never ↔ ((a : ℕ → Bool) → value_at g.pair a root ≡ false)) →
    IfOk result (λ none. none ≡ allows_none (netlist_of g.pair.first) (assumption_of g.pair))
never_told g root (Ok never) h is tells = never_is g root never h is tells
never_told g root (Err stop) h is tells = tt

pub not_without : (g : StepsOf) → [] ≡ assumed_root g
    → false ≡ allows_none (netlist_of g.pair.first) (assumption_of g.pair)
not_without g none = sym (ap (λ o. allows_none (netlist_of g.pair.first) (option_map netlist_of o))
    (none_assumed g none) ∙ all_allowed (netlist_of g.pair.first))
