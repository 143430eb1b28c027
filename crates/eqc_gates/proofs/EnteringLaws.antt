-- Laws of the literals of steps: tables that grow, and the columns of a cover among them.
use Rattle.std.proofs.Common.{◌≡◌, ℕ, zero, suc, ◌+◌, ◌<◌, ◌≤◌, Bool, true, false, List, [], ◌∷◌}
use Rattle.std.proofs.Common.{◌++◌, length, get_or, take, map, Option, Some, None, IsSome, refl}
use Rattle.std.proofs.Common.{sym, ◌∙◌, ap, inl, inr, arith}
use Rattle.std.proofs.lemmas.Bool.{cases_eq, cases_lt, false≢true}
use Rattle.std.proofs.lemmas.List.{take_more, map-append, get_or_push, get_or_append_left}
use Rattle.std.proofs.lemmas.List.{get_or_past, length_push}
use Rattle.eqc_xag.specs.declared.node.Node.{Node}
use Rattle.eqc_xag.specs.Graph.{literal_value, IsWithin, Extends}
use Rattle.eqc_xag.proofs.GraphLemmas.{extends_itself, extends_along}
use Rattle.eqc_sweep.specs.Sweeping.{HasValue}
use Rattle.eqc_pair.specs.PairOf.{PairOf}
use Rattle.eqc_build.specs.Building.{reference_of, AreReady}
use Rattle.eqc_build.specs.Steps.{StepsOf, AreSteps, steps_in, uses_of, value_at}
use Rattle.eqc_build.proofs.StepLaws.{uses_before}
use Rattle.eqc_gates.specs.Literals.{AreWithin}
use Rattle.eqc_gates.specs.Entering.{is_marked, AreLiterals, AreEntered, AreClosed}

-- ---- the columns of a cover

pub found_more : (table : List (Option ℕ)) (steps old new : List ℕ) (i l : ℕ) → i < length steps →
    map (λ x. Some x) old ≡ map (reference_of table) (take i steps)
    → reference_of table (get_or steps i 0) ≡ Some l → new ≡ old ++ l ∷ []
    → map (λ x. Some x) new ≡ map (reference_of table) (take (i + 1) steps)
found_more table steps old new i l inside so_far here is =
    ap (map (λ (x : ℕ). Some x)) is
    ∙ (map-append (λ (x : ℕ). Some x) old (l ∷ [])
    ∙ (rw (so_far, ← here) refl
    ∙ sym (ap (map (reference_of table)) (take_more steps i 0 inside)
    ∙ map-append (reference_of table) (take i steps) (get_or steps i 0 ∷ []))))

pub found_within : (p : PairOf) (nodes : List Node) (table : List (Option ℕ)) (steps found : List ℕ)
    → AreLiterals p nodes table →
    map (λ x. Some x) found ≡ map (reference_of table) steps → AreWithin nodes found
found_within p nodes table steps [] h is = record { each = λ k inside. absurd (omega arith) }
found_within p nodes table [] (l ∷ found) h is = absurd (let q = is in cc)
found_within p nodes table (s ∷ steps) (l ∷ found) h is =
    let here : reference_of table s ≡ Some l = cc in
    let rest : map (λ (x : ℕ). Some x) found ≡ map (reference_of table) steps = cc in
    record {
      each = λ k inside. at k inside (h.each s l here).within (found_within p nodes table
          steps found h rest);
    }
  where
    at : (k : ℕ) → k < length (l ∷ found) → IsWithin nodes l → AreWithin nodes found
        → IsWithin nodes (get_or (l ∷ found) k 0)
    at zero inside first others = first
    at (suc k) inside first others = others.each k (omega arith)

pub found_values : (p : PairOf) (nodes : List Node) (table : List (Option ℕ)) (steps found : List ℕ)
    (a : ℕ → Bool) → AreLiterals p nodes table →
    map (λ x. Some x) found ≡ map (reference_of table) steps → map (literal_value nodes a) found
    ≡ map (value_at p a) steps
found_values p nodes table [] [] a h is = refl
found_values p nodes table (s ∷ steps) [] a h is = absurd (let q = is in cc)
found_values p nodes table [] (l ∷ found) a h is = absurd (let q = is in cc)
found_values p nodes table (s ∷ steps) (l ∷ found) a h is =
    let here : reference_of table s ≡ Some l = cc in
    let rest : map (λ (x : ℕ). Some x) found ≡ map (reference_of table) steps = cc in
    let value : literal_value nodes a l ≡ value_at p a s = (h.each s l here).value a in
    let others = found_values p nodes table steps found a h rest in
    cc

-- ---- tables that grow

-- literals stay those of their steps in a graph that goes on
pub literals_stay : (p : PairOf) (old new : List Node) (table : List (Option ℕ)) → Extends old new
    → AreLiterals p old table → AreLiterals p new table
literals_stay p old new table more are = record {
  each = λ k l is. (let h = are.each k l is in
      record {
        within = omega (arith, h.within, more.longer);
        value = λ a. more.same l a h.within
            ∙ h.value a;
      });
}

-- the first k steps were entered, where they are marked
pub record IsEntering (p : PairOf) (marks : List Bool) (old now : List Node)
    (table : List (Option ℕ)) (k : ℕ) : Type 0 where
  pub size : length table ≡ k
  pub extends : Extends old now
  pub literals : AreLiterals p now table
  pub entered : (i : ℕ) → i < k → is_marked marks i ≡ true → IsSome (reference_of table i)

pub entering_begins : (p : PairOf) (marks : List Bool) (nodes : List Node)
    → IsEntering p marks nodes nodes [] 0
entering_begins p marks nodes = record {
  size = refl;
  extends = extends_itself nodes;
  literals = record { each = λ k l is. absurd (let q = is in cc) };
  entered = λ i inside. absurd (omega arith);
}

pushed_front : (table : List (Option ℕ)) (x : Option ℕ) (i : ℕ) → i < length table
    → reference_of (table ++ x ∷ []) i ≡ reference_of table i
pushed_front table x i inside = get_or_append_left table (x ∷ []) None i inside

pushed_last : (table : List (Option ℕ)) (x : Option ℕ) (k : ℕ) → length table ≡ k
    → reference_of (table ++ x ∷ []) k ≡ x
pushed_last table x k size = get_or_push table x None k size

-- what is behind the table's end has no literal
pushed_past : (table : List (Option ℕ)) (x : Option ℕ) (i : ℕ) → length table < i
    → reference_of (table ++ x ∷ []) i ≡ None
pushed_past table x i past = get_or_past (table ++ x ∷ []) i None
    (omega (arith, past, length_push table x))

is_some : (o : Option ℕ) (l : ℕ) → o ≡ Some l → IsSome o
is_some o l is = rw is refl

-- one more step, with a literal or without
pub entering_more : (p : PairOf) (marks : List Bool) (old now new : List Node)
    (table more : List (Option ℕ)) (k : ℕ) (x : Option ℕ) → IsEntering p marks old now table k
    → Extends now new
    → ((l : ℕ) → x ≡ Some l → HasValue new l (λ a. value_at p a k)) → (is_marked marks k ≡ true
    → IsSome x) → more ≡ table ++ x ∷ [] → IsEntering p marks old new more (k + 1)
entering_more p marks old now new table more k x so_far extends value marked is = rw is (record {
  size = length_push table x ∙ ap (λ n. n + 1) so_far.size;
  extends = extends_along old now new so_far.extends extends;
  literals = record {
    each = λ i l there. elim (cases_lt i k) [
      | inl front ↦ (literals_stay p now new table extends so_far.literals).each i l
          (sym (pushed_front table x i (omega (arith, front, so_far.size))) ∙ there)
      | inr past ↦ elim (cases_eq i k) [
        | inl last ↦ rw last (value l (sym (pushed_last table x k so_far.size)
            ∙ (ap (reference_of (table ++ x ∷ [])) (sym last) ∙ there)))
        | inr apart ↦ absurd (let none : None ≡ Some l =
            sym (pushed_past table x i (omega (arith, past, apart, so_far.size))) ∙ there in cc)
      ]
    ];
  };
  entered = λ i inside here. elim (cases_eq i k) [
    | inl last ↦ rw (last, pushed_last table x k so_far.size)
        (marked (ap (is_marked marks) (sym last) ∙ here))
    | inr apart ↦ rw (pushed_front table x i (omega (arith, inside, apart, so_far.size)))
        (so_far.entered i (omega arith) here)
  ];
})

pub entering_literal : (p : PairOf) (marks : List Bool) (old now new : List Node)
    (table more : List (Option ℕ)) (k l : ℕ) →
    IsEntering p marks old now table k → Extends now new → HasValue new l (λ a. value_at p a k)
    → more ≡ table ++ Some l ∷ [] →
    IsEntering p marks old new more (k + 1)
entering_literal p marks old now new table more k l so_far extends value is =
    entering_more p marks old now new table more k (Some l) so_far extends
    (λ m same. (let e : l ≡ m = cc in rw (← e) value)) (λ here. is_some (Some l) l refl) is

pub entering_none : (p : PairOf) (marks : List Bool) (old now : List Node)
    (table more : List (Option ℕ)) (k : ℕ) →
    IsEntering p marks old now table k → is_marked marks k ≡ false → more ≡ table ++ None ∷ []
    → IsEntering p marks old now more (k + 1)
entering_none p marks old now table more k so_far none is =
    entering_more p marks old now now table more k None so_far (extends_itself now)
    (λ m same. absurd (let q = same in cc)) (λ here. absurd (false≢true (sym none ∙ here))) is

-- what a marked step uses has its literals
pub uses_ready : (g : StepsOf) (marks : List Bool) (old now : List Node) (table : List (Option ℕ))
    (k : ℕ) → AreSteps g → k < steps_in g.pair →
    AreClosed g marks → is_marked marks k ≡ true → IsEntering g.pair marks old now table k
    → AreReady table (uses_of g k)
uses_ready g marks old now table k steps inside closed here so_far = record {
  each = λ c lt. so_far.entered (get_or (uses_of g k) c 0) (uses_before g k c steps inside lt)
      (closed.uses k c inside here lt);
}

-- all steps
pub entered_all : (p : PairOf) (marks : List Bool) (old now : List Node) (table : List (Option ℕ))
    (k : ℕ) → length marks ≤ k → IsEntering p marks old now table k → AreEntered marks table
entered_all p marks old now table k whole so_far = record {
  each = λ i here. elim (cases_lt i k) [
    | inl inside ↦ so_far.entered i inside here
    | inr past ↦ absurd (false≢true (sym (get_or_past marks i false (omega arith)) ∙ here))
  ];
}
