-- Laws of literals that have the values of steps wherever the assumption holds.
use Rattle.std.proofs.Common.{◌≡◌, ℕ, ◌+◌, ◌/◌, Bool, true, false, ◌&&◌, List, [], ◌∷◌, ◌++◌}
use Rattle.std.proofs.Common.{length, get_or, Option, Some, None, IfSome, refl, sym, ◌∙◌, ap, subst}
use Rattle.std.proofs.Common.{inl, inr, arith}
use Rattle.std.proofs.lemmas.Bool.{cases_eq, cases_lt}
use Rattle.std.proofs.lemmas.List.{get_or_push, get_or_append_left, get_or_past, length_push}
use Rattle.eqc_netlist.specs.Graph.{FlatOf, value_of}
use Rattle.eqc_xag.specs.declared.node.Node.{Node}
use Rattle.eqc_xag.specs.Graph.{differ, literal_value, Extends}
use Rattle.eqc_xag.proofs.GraphLemmas.{extends_itself, extends_along}
use Rattle.eqc_sweep.specs.Sweeping.{HasValue}
use Rattle.eqc_pair.specs.PairOf.{PairOf, assumed_variables}
use Rattle.eqc_build.specs.Building.{reference_of}
use Rattle.eqc_build.specs.Steps.{StepsOf, AreSteps, assumed_start, inputs_under, step_in, value_at}
use Rattle.eqc_build.specs.Steps.{assumed_root}
use Rattle.eqc_build.proofs.StepLaws.{assumed_made, assumed_of, assumed_root_is, no_assumed_root}
use Rattle.eqc_build.proofs.StepLaws.{output_assumed}
use Rattle.eqc_gates.specs.Entering.{AreLiterals}
use Rattle.eqc_place.specs.Places.{IsAllowed, HasAllowedValue, HaveAllowedValues, AreProved}
use Rattle.eqc_place.specs.Allowed.{IsUnder}

-- ---- the assumption

no_front : {X : Type 0} (x : X) (xs : List X) → [] ≡ x ∷ xs → ⊥
no_front x xs e = cc

-- the step of its output is 1 under values that it allows
pub root_holds : (g : StepsOf) (root : ℕ) (a : ℕ → Bool) → AreSteps g → root ∷ [] ≡ assumed_root g
    → IsAllowed g.pair a → value_at g.pair a root ≡ true
root_holds g root a h is allowed = by g.pair.assumes refl
  where
    by : (o : Option FlatOf) → g.pair.assumes ≡ o → value_at g.pair a root ≡ true
    by None e = absurd (no_front root [] (sym (no_assumed_root g e) ∙ sym is))
    by (Some f) e =
        let same : root ≡ step_in g.chosen g.further (assumed_start g.pair) (get_or f.output_signals
        0 0) = ap (λ l. get_or l 0 0) (is ∙ assumed_root_is g h f e) in
        let holds : value_of f (inputs_under (assumed_variables g.pair) a) (get_or f.output_signals
        0 0) ≡ true =
        subst (λ o. IfSome o (λ (k : FlatOf). value_of k (inputs_under (assumed_variables g.pair) a)
        (get_or k.output_signals 0 0) ≡ true)) e allowed.holds in
        ap (value_at g.pair a) same
        ∙ (assumed_made g a (get_or f.output_signals 0 0) h (output_assumed g h f e)
        ∙ (ap (λ (k : FlatOf). value_of k (inputs_under (assumed_variables g.pair) a)
        (get_or f.output_signals 0 0)) (assumed_of g.pair f e) ∙ holds))

-- ---- a conjunction with it

-- what is negated, joined with what is true and negated again is as before
negated_twice : (sign b c : Bool) → b ≡ true → differ sign (b && differ sign c) ≡ c
negated_twice true true true is = refl
negated_twice true true false is = refl
negated_twice false true true is = refl
negated_twice false true false is = refl
negated_twice sign false c is = absurd (let q = is in cc)

pub under_value : (old new : List Node) (assumed x y both l : ℕ) (sign : Bool) →
    ((nodes : List Node) (a : ℕ → Bool) → literal_value nodes a y
    ≡ differ sign (literal_value nodes a x)) →
    HasValue new both (λ a. literal_value old a assumed && literal_value old a y) → l / 2 ≡ both / 2
    →
    ((nodes : List Node) (a : ℕ → Bool) → literal_value nodes a l
    ≡ differ sign (literal_value nodes a both)) → IsUnder old new assumed x l
under_value old new assumed x y both l sign y_is has node l_is = record {
  within = omega (arith, has.within, node);
  value = λ a holds.
      l_is new a
      ∙ (ap (differ sign) (has.value a ∙ ap (λ b. literal_value old a assumed && b) (y_is old a))
      ∙ negated_twice sign (literal_value old a assumed) (literal_value old a x) holds);
}

-- ---- tables that grow

-- literals that have the values of steps have them where these are allowed
pub proved_everywhere : (p : PairOf) (nodes : List Node) (table : List (Option ℕ))
    → AreLiterals p nodes table → AreProved p table
proved_everywhere p nodes table are = record {
  nodes = nodes;
  are = record {
    each = λ k l is. (let h = are.each k l is in record {
      within = h.within;
      value =
          λ a allowed. h.value a;
    });
  };
}

values_stay : (p : PairOf) (old new : List Node) (table : List (Option ℕ)) → Extends old new
    → HaveAllowedValues p old table → HaveAllowedValues p new table
values_stay p old new table more have = record {
  each = λ k l is. (let h = have.each k l is in
      record {
        within = omega (arith, h.within, more.longer);
        value =
            λ a allowed. more.same l a h.within ∙ h.value a allowed;
      });
}

-- the first k steps have theirs
pub record IsGrowing (p : PairOf) (old now : List Node) (table : List (Option ℕ)) (k : ℕ) : Type 0
  where
    pub size : length table ≡ k
    pub extends : Extends old now
    pub values : HaveAllowedValues p now table

pub growing_begins : (p : PairOf) (nodes : List Node) → IsGrowing p nodes nodes [] 0
growing_begins p nodes = record {
  size = refl;
  extends = extends_itself nodes;
  values =
      record { each = λ k l is. absurd (let q = is in cc) };
}

growing_more : (p : PairOf) (old now new : List Node) (table more : List (Option ℕ)) (k : ℕ)
    (x : Option ℕ) → IsGrowing p old now table k → Extends now new →
    ((l : ℕ) → x ≡ Some l → HasAllowedValue p new k l) → more ≡ table ++ x ∷ []
    → IsGrowing p old new more (k + 1)
growing_more p old now new table more k x so_far extends value is = rw is (record {
  size = length_push table x ∙ ap (λ n. n + 1) so_far.size;
  extends = extends_along old now new so_far.extends extends;
  values = record {
    each = λ i l there. elim (cases_lt i k) [
      | inl front ↦ (values_stay p now new table extends so_far.values).each i l
          (sym (get_or_append_left table (x ∷ []) None i (omega (arith, front, so_far.size))) ∙ there)
      | inr past ↦ elim (cases_eq i k) [
        | inl last ↦ rw last (value l (sym (get_or_push table x None k so_far.size)
            ∙ (ap (reference_of (table ++ x ∷ [])) (sym last) ∙ there)))
        | inr apart ↦ absurd (let none : None ≡ Some l =
            sym (get_or_past (table ++ x ∷ []) i None (omega (
              arith,
              past,
              apart,
              so_far.size,
              length_push table x,
            ))) ∙ there in cc)
      ]
    ];
  };
})

pub growing_none : (p : PairOf) (old now : List Node) (table more : List (Option ℕ)) (k : ℕ)
    → IsGrowing p old now table k → more ≡ table ++ None ∷ [] → IsGrowing p old now more (k + 1)
growing_none p old now table more k so_far is = growing_more p old now now table more k None so_far
    (extends_itself now) (λ l same. absurd (let q = same in cc)) is

-- one more step with the conjunction of its literal and the assumption
pub growing_under : (g : StepsOf) (old now new : List Node) (literals table more : List (Option ℕ))
    (root assumed k x l : ℕ) → AreSteps g → root ∷ [] ≡ assumed_root g →
    AreLiterals g.pair old literals → reference_of literals root ≡ Some assumed
    → reference_of literals k ≡ Some x → IsGrowing g.pair old now table k → Extends now new
    → IsUnder now new assumed x l
    → more ≡ table ++ Some l ∷ [] → IsGrowing g.pair old new more (k + 1)
growing_under g old now new literals table more root assumed k x l h is are there here so_far
    extends under added =
    growing_more g.pair old now new table more k (Some l) so_far extends (λ m same. (let e : l ≡ m =
    cc in rw (← e) has)) added
  where
    at_root : HasValue old assumed (λ a. value_at g.pair a root)
    at_root = are.each root assumed there

    at_step : HasValue old x (λ a. value_at g.pair a k)
    at_step = are.each k x here

    has : HasAllowedValue g.pair new k l
    has = record {
      within = under.within;
      value = λ a allowed.
          under.value a (so_far.extends.same assumed a at_root.within
          ∙ (at_root.value a ∙ root_holds g root a h is allowed))
          ∙ (so_far.extends.same x a at_step.within ∙ at_step.value a);
    }

-- all of them
pub grown : (p : PairOf) (old now : List Node) (table : List (Option ℕ)) (k : ℕ)
    → IsGrowing p old now table k → AreProved p table
grown p old now table k so_far = record { nodes = now; are = so_far.values }

-- none
pub proved_none : (p : PairOf) (nodes : List Node) → AreProved p []
proved_none p nodes = grown p nodes nodes [] 0 (growing_begins p nodes)
