-- The diagram of where an output of a pair differs: what it says, and its least assignment.
use Rattle.std.proofs.Common.{◌≡◌, ℕ, ◌<◌, Bool, true, false, ◌&&◌, List, [], ◌∷◌, length, find}
use Rattle.std.proofs.Common.{get_or, refl, sym, ◌∙◌, ap, arith, Option, Some, None, Result, Ok}
use Rattle.std.proofs.Common.{Err, IfOk, IsSome, subst}
use Rattle.eqc_tree.specs.Holding.{Entry, Holding, IsHeld, says, Keeps, Gains, Loses}
use Rattle.eqc_tree.specs.Operation.{operate}
use Rattle.eqc_tree.specs.declared.operation.Op.TheVariants.{Xor, And}
use Rattle.eqc_tree.proofs.HoldingLemmas.{counts_itself}
use Rattle.eqc_netlist.specs.Graph.{value_of}
use Rattle.eqc_build.specs.Building.{IsBuilt, AreReady, reference_of}
use Rattle.eqc_build.specs.Steps.{StepsOf, AreSteps, inputs_under, value_at, first_root}
use Rattle.eqc_build.specs.Steps.{second_root, roots_of, assumed_root, goals_of}
use Rattle.eqc_tree.specs.Assigned.{assigned, DependsOnlyOn, assignments}
use Rattle.eqc_pair.specs.Matched.{position_of}
use Rattle.eqc_compare.specs.Verdict.{values_for, first_value, second_value, least_difference}
use Rattle.eqc_pair.specs.PairOf.{PairOf, IsPair, first_variables, second_variables, second_signals}
use Rattle.eqc_compare.specs.Comparing.{netlist_of, assumption_of, values_differ_at, allowed_at}
use Rattle.eqc_compare.specs.Comparing.{differs_at, SaysDifference}
use Rattle.eqc_compare.proofs.AllowingLaws.{allowed_is, allowed_depends, allowed_without, root_says}
use Rattle.eqc_compare.proofs.MatchedLemmas.{assigned_value, IsDifference, least_of_difference}
use Rattle.eqc_compare.proofs.MatchedLemmas.{none_of_difference}
use Rattle.eqc_build.proofs.StepLaws.{first_made, second_made}
use Rattle.eqc_compare.proofs.CompareLaws.{value_agrees, xor_differs}
use Rattle.eqc_build.proofs.PairLaws.{AreMatched, pair_matched}
use Rattle.eqc_pair.proofs.PlaceLemmas.{place_itself}

-- two diagrams that say where an output's values differ
pub xor_says : {X : Type 0} (entry : X → Entry) (g : StepsOf) (o : ℕ) (table : List (Option X))
    (x y : X) (a : ℕ → Bool) → AreSteps g →
    o < length g.pair.first.outputs → IsBuilt entry g.pair table
    → reference_of table (first_root g o) ≡ Some x →
    reference_of table (second_root g o) ≡ Some y
    → operate Xor (says (entry x) a) (says (entry y) a) ≡ values_differ_at g.pair o a
unfolding values_differ_at
xor_says entry g o table x y a h inside b ix iy =
    let s = get_or g.pair.first.output_signals o 0 in
    let t = get_or (second_signals g.pair) o 0 in
    let first : says (entry x) a ≡ value_of g.pair.first (inputs_under (first_variables g.pair) a)
    s = b.values (first_root g o) x ix a
    ∙ first_made g a s h (h.lawful.first_flat.outputs_within o inside) in
    let second : says (entry y) a ≡ value_of g.pair.second (inputs_under (second_variables g.pair)
    a) t = b.values (second_root g o) y iy a
    ∙ second_made g a t h ((pair_matched g.pair h.lawful).within o inside) in
    rw (first, second) (sym (xor_differs (value_of g.pair.first
    (inputs_under (first_variables g.pair) a) s) (value_of g.pair.second
    (inputs_under (second_variables g.pair) a) t)))

-- an output of the first netlist under an assignment
first_value_is : (p : PairOf) (o : ℕ) (a : List Bool) → IsPair p → o < length p.first.outputs →
    value_of p.first (inputs_under (first_variables p) (assigned (first_variables p) a))
    (get_or p.first.output_signals o 0) ≡ first_value (netlist_of p.first)
    (get_or p.first.outputs o []) a
first_value_is p o a h inside =
    sym (ap (λ k. value_of p.first (values_for p.first.inputs a p.first.inputs)
    (get_or p.first.output_signals k 0)) (place_itself p.first.outputs o
    h.first_flat.outputs_differ inside)
    ∙ value_agrees p.first (values_for p.first.inputs a p.first.inputs)
    (inputs_under (first_variables p) (assigned (first_variables p) a))
    (get_or p.first.output_signals o 0) h.first_flat (λ i within. sym (own i within))
    (h.first_flat.outputs_within o inside))
  where
    m : AreMatched p
    m = pair_matched p h

    own : (i : ℕ) → i < length p.first.inputs
        → assigned (first_variables p) a (get_or (first_variables p) i 0)
        ≡ values_for p.first.inputs a p.first.inputs i
    own i within =
        let place : position_of p.first.inputs (get_or p.first.inputs i []) ≡ i =
        place_itself p.first.inputs i h.first_flat.inputs_differ within in
        let P : ℕ → Type 0 = λ k. k < length (first_variables p)
        → assigned (first_variables p) a (get_or (first_variables p) k 0)
        ≡ values_for p.first.inputs a p.first.inputs i in
        subst P place (assigned_value (first_variables p) p.first.inputs p.first.inputs a i
        m.distinct) (omega (arith, m.first.size))

-- and the second's of its name
second_value_is : (p : PairOf) (o : ℕ) (a : List Bool) → IsPair p → o < length p.first.outputs →
    value_of p.second (inputs_under (second_variables p) (assigned (first_variables p) a))
    (get_or (second_signals p) o 0) ≡ second_value
    (netlist_of p.first) (netlist_of p.second) (get_or p.first.outputs o []) a
second_value_is p o a h inside =
    let m = pair_matched p h in
    sym (ap (value_of p.second (values_for p.first.inputs a p.second.inputs))
    (sym (m.signals o inside))
    ∙ value_agrees p.second (values_for p.first.inputs a p.second.inputs)
    (inputs_under (second_variables p) (assigned (first_variables p) a))
    (get_or (second_signals p) o 0) h.second_flat
    (λ i within. rw (m.same i within) (sym (assigned_value (first_variables p) p.first.inputs
    p.second.inputs a i m.distinct (omega (arith, m.first.size, m.inputs i within)))))
    (m.within o inside))

-- where the signals of an output differ and the assumption allows it is where the output does
pub differs_is : (p : PairOf) (o : ℕ) (f : (ℕ → Bool) → Bool) → IsPair p
    → o < length p.first.outputs → SaysDifference p o f →
    IsDifference (netlist_of p.first) (netlist_of p.second) (assumption_of p)
    (get_or p.first.outputs o []) (first_variables p) f
unfolding differs_at values_differ_at
differs_is p o f h inside s = record {
  size = (pair_matched p h).first.size;
  agrees = λ a long. s.each (assigned (first_variables p) a)
      ∙ rw (allowed_is p a h, first_value_is p o a h inside, second_value_is p o a h inside) refl;
}

-- it depends on the variables of the inputs alone
pub differs_depends : (p : PairOf) (o : ℕ) (f : (ℕ → Bool) → Bool) → IsPair p
    → o < length p.first.outputs → SaysDifference p o f → DependsOnlyOn (first_variables p) f
unfolding differs_at values_differ_at
differs_depends p o f h inside s x y same =
    let m = pair_matched p h in
    let first =
    value_agrees p.first (inputs_under (first_variables p) x) (inputs_under (first_variables p) y)
    (get_or p.first.output_signals o 0)
    h.first_flat (λ i within. same i (omega (arith, m.first.size))) (h.first_flat.outputs_within o
    inside) in
    let second = value_agrees p.second (inputs_under (second_variables p) x)
    (inputs_under (second_variables p) y) (get_or (second_signals p) o 0) h.second_flat
    (λ i within. rw (m.same i within)
    (same (position_of p.first.inputs (get_or p.second.inputs i []))
    (omega (arith, m.first.size, m.inputs i within)))) (m.within o inside) in
    s.each x ∙ (rw (allowed_depends p h x y same, first, second) (sym (s.each y)))

pub least_is : (p : PairOf) (o : ℕ) (f : (ℕ → Bool) → Bool) → IsPair p → o < length p.first.outputs
    → SaysDifference p o f →
    find (λ a. f (assigned (first_variables p) a)) (assignments (length (first_variables p)))
    ≡ least_difference (netlist_of p.first)
    (netlist_of p.second) (assumption_of p) (get_or p.first.outputs o [])
least_is p o f h inside s = least_of_difference (netlist_of p.first) (netlist_of p.second)
    (assumption_of p) (get_or p.first.outputs o []) (first_variables p) f (differs_is p o f h inside
    s)

pub none_is : (p : PairOf) (o : ℕ) (f : (ℕ → Bool) → Bool) → IsPair p → o < length p.first.outputs
    → SaysDifference p o f →
    ((a : ℕ → Bool) → f a ≡ false) →
    least_difference (netlist_of p.first) (netlist_of p.second) (assumption_of p)
    (get_or p.first.outputs o []) ≡ None
none_is p o f h inside s never = none_of_difference (netlist_of p.first) (netlist_of p.second)
    (assumption_of p) (get_or p.first.outputs o []) (first_variables p) f (differs_is p o f h inside
    s) never

-- a reference that was made is held, and given back it leaves what was held before
pub gained_held : (d0 d1 : Holding) (r : Entry) (f : (ℕ → Bool) → Bool) → Gains d0 d1 r f
    → IsHeld d1 r
gained_held d0 d1 r f g = omega (arith, g.held r, counts_itself d0 r)

pub gained_lost : (d0 d1 d2 : Holding) (r : Entry) (f : (ℕ → Bool) → Bool) → Gains d0 d1 r f
    → Loses d1 d2 r → Keeps d0 d2
gained_lost d0 d1 d2 r f g l = record {
  variables = l.variables ∙ g.variables;
  held =
      λ e. omega (arith, g.held e, l.held e);
}

pub gained_says : (d0 d1 : Holding) (r : Entry) (p : PairOf) (o : ℕ)
    → Gains d0 d1 r (differs_at p o) → SaysDifference p o (says r)
gained_says d0 d1 r p o g = record { each = g.function }

-- a diagram that is given back whatever is found
pub kept_lost : (d0 d1 d2 : Holding) (r : Entry) → Keeps d0 d1 → Loses d1 d2 r → Loses d0 d2 r
kept_lost d0 d1 d2 r k l = record {
  variables = l.variables ∙ k.variables;
  held =
      λ e. omega (arith, k.held e, l.held e);
}

-- an operation of a reference that was made, which is given back behind it
pub gained_behind : {X E : Type 0} (entry : X → Entry) (d0 d1 d2 d3 : Holding) (r : Entry)
    (result : Result X E) (f g h : (ℕ → Bool) → Bool) →
    ((a : ℕ → Bool) → g a ≡ h a) → Gains d0 d1 r f → IfOk result (λ s. Gains d1 d2 (entry s) g)
    → Loses d2 d3 r →
    IfOk result (λ s. Gains d0 d3 (entry s) h)
gained_behind entry d0 d1 d2 d3 r (Err e) f g h same first second l = tt
gained_behind entry d0 d1 d2 d3 r (Ok s) f g h same first second l = record {
  variables = l.variables ∙ (second.variables ∙ first.variables);
  held = λ e. omega (arith, first.held e, second.held e, l.held e);
  function = λ a. second.function a ∙ same a;
}

-- what is held stays so beside it
pub still_held : (d0 d1 : Holding) (r s : Entry) (f : (ℕ → Bool) → Bool) → IsHeld d0 r
    → Gains d0 d1 s f → IsHeld d1 r
still_held d0 d1 r s f held g = omega (arith, held, g.held r)

-- the step of the assumption's output is one of those that an output needs
pub third_ready : {X : Type 0} (table : List (Option X)) (g : StepsOf) (o root : ℕ)
    → AreReady table (goals_of g o) → root ∷ [] ≡ assumed_root g → IsSome (reference_of table root)
unfolding roots_of
third_ready table g o root ready is =
    let one : 1 ≡ length (assumed_root g) = ap length is in
    subst (λ k. IsSome (reference_of table k)) (ap (λ l. get_or l 0 0) (sym is))
    (ready.each 2 (omega (arith, one)))

-- where an output's two values differ is where it differs, if there is no assumption
pub differs_without : (g : StepsOf) (o : ℕ) (a : ℕ → Bool) → [] ≡ assumed_root g
    → values_differ_at g.pair o a ≡ differs_at g.pair o a
unfolding differs_at
differs_without g o a none =
    sym (ap (λ b. b && values_differ_at g.pair o a) (allowed_without g a none))

-- and with one where its output is 1, too
pub differs_with : (g : StepsOf) (o root : ℕ) (a : ℕ → Bool) (allowed differ : Bool) → AreSteps g
    → root ∷ [] ≡ assumed_root g →
    allowed ≡ value_at g.pair a root → differ ≡ values_differ_at g.pair o a
    → operate And allowed differ ≡ differs_at g.pair o a
unfolding differs_at
differs_with g o root a allowed differ h is says_allowed says_differ = rw (
  says_allowed
      ∙ root_says g root a h is,
  says_differ,
) (and_is (allowed_at g.pair a) (values_differ_at g.pair o
    a))
  where
    and_is : (x y : Bool) → operate And x y ≡ (x && y)
    and_is true y = refl
    and_is false y = refl
