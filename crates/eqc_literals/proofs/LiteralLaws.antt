-- Steps of one literal are chosen for one another, and outputs whose two steps have one literal
-- never differ.
use Rattle.std.proofs.Common.{◌≡◌, ◌⊎◌, ℕ, ◌+◌, ◌<◌, ◌≤◌, Bool, true, false, List, [], ◌∷◌}
use Rattle.std.proofs.Common.{◌++◌, length, get_or, set, min, refl, sym, ◌∙◌, ap, arith, inl}
use Rattle.std.proofs.Common.{inr, None}
use Rattle.std.proofs.lemmas.List.{get_or_append_left, get_or-set_same, get_or-set_other}
use Rattle.std.proofs.lemmas.List.{get_or_past, length-append}
use Rattle.std.proofs.Math.ListN.{length-set}
use Rattle.std.proofs.Math.Nat.{min-eq_left, min-eq_right}
use Rattle.std.proofs.Math.Seq.{get_or-append_seam}
use Rattle.std.proofs.lemmas.Bool.{cases_eq, cases_lt, true≢false}
use Rattle.eqc_netlist.specs.Graph.{value_of}
use Rattle.eqc_pair.specs.PairOf.{PairOf, first_variables, second_variables, second_signals}
use Rattle.eqc_build.specs.Steps.{StepsOf, AreSteps, IsChoice, chosen_for, first_root, second_root}
use Rattle.eqc_build.specs.Steps.{roots_of, inputs_under, steps_in, value_at}
use Rattle.eqc_build.specs.Turns.{is_marked}
use Rattle.eqc_build.proofs.PairLaws.{pair_matched}
use Rattle.eqc_build.proofs.StepLaws.{first_made, second_made, first_root_within}
use Rattle.eqc_build.proofs.StepLaws.{second_root_within, root_first, root_second}
use Rattle.eqc_compare.specs.Comparing.{allowed_at, values_differ_at, differs_at, difference_at}
use Rattle.eqc_compare.specs.Alike.{AreEqual}
use Rattle.std.specs.Prelude.{Option, Some}
use Rattle.std.specs.Option.{unwrap_or}
use Rattle.eqc_build.specs.Building.{reference_of}
use Rattle.eqc_gates.specs.Entering.{AreLiterals}
use Rattle.eqc_gates.proofs.EnteringLaws.{literals_stay}
use Rattle.eqc_literals.specs.Literals.{HaveOneLiteral, IsInside, KeepsMarks, TellEqual}
use Rattle.eqc_xag.specs.declared.node.Node.{Node}
use Rattle.eqc_xag.specs.Graph.{literal_value, Extends}
use Rattle.eqc_compare.proofs.AlikeLaws.{never_where}
use Rattle.eqc_compare.proofs.DifferenceLaws.{none_is}

-- ---- steps

-- the first step that is noted for a literal is one of the first n, and has it
abbrev pub AreNoted : List (Option ℕ) → List (Option ℕ) → ℕ → Type 0
AreNoted literals firsts n = (l first : ℕ) → reference_of firsts l ≡ Some first
    → (first < n) × (reference_of literals first ≡ Some l)

-- in place of the first n steps steps of their values are chosen
pub record AreChosen (p : PairOf) (literals firsts : List (Option ℕ)) (more : List ℕ) (n : ℕ) : Type
    0 where
  pub size : length more ≡ n
  pub noted : AreNoted literals firsts n
  pub early : (k : ℕ) → k < n → chosen_for more k ≤ k
  pub same : (k : ℕ) (a : ℕ → Bool) → k < n → value_at p a (chosen_for more k) ≡ value_at p a k

pub chosen_none : (p : PairOf) (literals firsts : List (Option ℕ))
    → ((l : ℕ) → reference_of firsts l ≡ None) → AreChosen p literals firsts [] 0
chosen_none p literals firsts none = record {
  size = refl;
  noted = λ l first is. absurd (let q : None ≡ Some first = sym (none l) ∙ is in cc);
  early = λ k lt. absurd (omega arith);
  same = λ k a lt. absurd (omega arith);
}

-- the first step of a literal is the one that came with it, or an earlier one of this literal
pub record IsFirst (literals : List (Option ℕ)) (step first l : ℕ) : Type 0 where
  pub low : first ≤ step
  pub literal : reference_of literals first ≡ Some l

pub first_is : (literals firsts : List (Option ℕ)) (n step first l : ℕ)
    → AreNoted literals firsts n → reference_of literals step ≡ Some l
    → first ≡ min (unwrap_or (reference_of firsts l) step) step → IsFirst literals step first l
first_is literals firsts n step first l noted here is = by (reference_of firsts l) refl
  where
    itself : first ≡ step → IsFirst literals step first l
    itself e = record {
      low = omega (arith, e);
      literal = ap (reference_of literals) e ∙ here;
    }

    by : (before : Option ℕ) → reference_of firsts l ≡ before → IsFirst literals step first l
    by None e = itself (is ∙ (ap (λ r. min (unwrap_or r step) step) e ∙ min-eq_left (omega arith)))
    by (Some f) e =
        let least : first ≡ min f step = is ∙ ap (λ r. min (unwrap_or r step) step) e in
        elim (cases_lt f step) [
          | inl lower ↦
              let found : first ≡ f = least ∙ min-eq_left (omega arith) in
              record {
                low = omega (arith, found);
                literal = ap (reference_of literals) found ∙ (noted l f e).1;
              }
          | inr higher ↦ itself (least ∙ min-eq_right higher)
        ]

-- one step more
chosen_more : (p : PairOf) (literals old new : List (Option ℕ)) (more : List ℕ) (n first : ℕ)
    → first ≤ n → ((a : ℕ → Bool) → value_at p a first ≡ value_at p a n)
    → AreNoted literals new (n + 1) → AreChosen p literals old more n
    → AreChosen p literals new (more ++ first ∷ []) (n + 1)
chosen_more p literals old new more n first low value noted m = record {
  size = omega (arith, m.size, length-append more (first ∷ []));
  noted = noted;
  early = λ k lt. elim (cases_eq k n) [
    | inl e ↦ omega (arith, ap (chosen_for (more ++ first ∷ [])) e, at_end, low, e)
    | inr other ↦ omega (
      arith,
      before k (omega (arith, lt, other)),
      m.early k (omega (arith, lt, other)),
    )
  ];
  same = λ k a lt. elim (cases_eq k n) [
    | inl e ↦ ap (λ i. value_at p a (chosen_for (more ++ first ∷ []) i)) e
        ∙ (ap (value_at p a) at_end ∙ (value a ∙ sym (ap (value_at p a) e)))
    | inr other ↦ ap (value_at p a) (before k (omega (arith, lt, other)))
        ∙ m.same k a (omega (arith, lt, other))
  ];
}
  where
    at_end : chosen_for (more ++ first ∷ []) n ≡ first
    at_end = ap (λ i. get_or (more ++ first ∷ []) i n) (sym m.size)
        ∙ get_or-append_seam more first [] n

    before : (k : ℕ) → k < n → chosen_for (more ++ first ∷ []) k ≡ chosen_for more k
    before k lt = get_or_append_left more (first ∷ []) k k (omega (arith, lt, m.size))

-- a step without a literal, in place of which the one is chosen that was chosen already
pub chosen_without : (p : PairOf) (chosen : List ℕ) (literals firsts : List (Option ℕ))
    (more : List ℕ) (n step : ℕ) → IsChoice p chosen → n < steps_in p
    → step ≡ chosen_for chosen n → AreChosen p literals firsts more n
    → AreChosen p literals firsts (more ++ step ∷ []) (n + 1)
chosen_without p chosen literals firsts more n step choice inside by m =
    chosen_more p literals firsts firsts more n step
    (omega (arith, by, choice.early n inside))
    (λ a. ap (value_at p a) by ∙ choice.same n a inside)
    (λ l first is. (omega (arith, (m.noted l first is).0), (m.noted l first is).1)) m

-- a step of a literal, in place of which the first one of it is chosen
pub chosen_by : (p : PairOf) (chosen : List ℕ) (literals firsts : List (Option ℕ)) (more : List ℕ)
    (n step l first : ℕ) → IsChoice p chosen → TellEqual p literals → n < steps_in p
    → step ≡ chosen_for chosen n → reference_of literals step ≡ Some l
    → first ≡ min (unwrap_or (reference_of firsts l) step) step
    → AreChosen p literals firsts more n
    → AreChosen p literals (set firsts l (Some first)) (more ++ first ∷ []) (n + 1)
chosen_by p chosen literals firsts more n step l first choice tell inside by here is m =
    chosen_more p literals firsts (set firsts l (Some first)) more n first low value noted m
  where
    found : IsFirst literals step first l
    found = first_is literals firsts n step first l m.noted here is

    early : step ≤ n
    early = omega (arith, by, choice.early n inside)

    low : first ≤ n
    low = omega (arith, found.low, early)

    value : (a : ℕ → Bool) → value_at p a first ≡ value_at p a n
    value a = tell.each first step a (omega (arith, low, inside)) (omega (arith, early, inside))
        (record { literal = l; first = found.literal; second = here })
        ∙ (ap (value_at p a) by ∙ choice.same n a inside)

    noted : AreNoted literals (set firsts l (Some first)) (n + 1)
    noted k f is = at (cases_eq k l) (cases_lt l (length firsts))
      where
        at : (k ≡ l) ⊎ (k ≡ l → ⊥) → (l < length firsts) ⊎ (length firsts ≤ l)
            → (f < n + 1) × (reference_of literals f ≡ Some k)
        at (inl e) (inl within) =
            let read : Some first ≡ Some f = sym (get_or-set_same firsts l (Some first) None within)
            ∙ (ap (reference_of (set firsts l (Some first))) (sym e) ∙ is) in
            let same : first ≡ f = cc in (
              omega (arith, low, same),
              ap (reference_of literals) (sym same) ∙ (found.literal ∙ ap Some (sym e)),
            )
        at (inl e) (inr past) =
            let none : None ≡ Some f = sym (get_or_past (set firsts l (Some first)) k None
            (omega (arith, e, past, length-set firsts l (Some first)))) ∙ is in
            absurd (cc)
        at (inr other) place =
            let met = m.noted k f (sym (get_or-set_other firsts l k (Some first) None other) ∙ is)
            in (omega (arith, met.0), met.1)

pub chosen_all : (p : PairOf) (literals firsts : List (Option ℕ)) (more : List ℕ)
    → AreChosen p literals firsts more (steps_in p) → IsChoice p more
chosen_all p literals firsts more m = record { early = m.early; same = m.same }

-- ---- outputs

-- where the steps of an output's two signals have one value under all assignments, it never differs
pub never_differs : (g : StepsOf) (o : ℕ) → AreSteps g → o < length g.pair.first.outputs →
    ((a : ℕ → Bool) → value_at g.pair a (first_root g o) ≡ value_at g.pair a (second_root g o))
    → difference_at g.pair o ≡ None
unfolding differs_at values_differ_at
never_differs g o h inside same =
    let p = g.pair in
    let s = get_or p.first.output_signals o 0 in
    let t = get_or (second_signals p) o 0 in
    none_is p o (differs_at p o) h.lawful inside (record { each = λ a. refl })
    (λ a. never_where (allowed_at p a) (value_of p.first (inputs_under (first_variables p) a) s)
    (value_of p.second (inputs_under (second_variables p) a) t)
    (sym (first_made g a s h (h.lawful.first_flat.outputs_within o inside))
    ∙ (same a ∙ second_made g a t h ((pair_matched p h.lawful).within o inside))))

-- the steps of an output's two signals, as `Steps::roots` gives them
pub roots_never_differ : (g : StepsOf) (o : ℕ) (roots : List ℕ) → AreSteps g
    → o < length g.pair.first.outputs → roots ≡ roots_of g o
    → ((a : ℕ → Bool) → value_at g.pair a (get_or roots 0 0) ≡ value_at g.pair a (get_or roots 1 0))
    → difference_at g.pair o ≡ None
roots_never_differ g o roots h inside is same =
    let first : get_or roots 0 0 ≡ first_root g o = ap (λ r. get_or r 0 0) is ∙ root_first g o in
    let second : get_or roots 1 0 ≡ second_root g o = ap (λ r. get_or r 1 0) is ∙ root_second g o in
    never_differs g o h inside (λ a. ap (value_at g.pair a) (sym first)
    ∙ (same a ∙ ap (value_at g.pair a) second))

-- each is a step
pub roots_are_steps : (g : StepsOf) (o : ℕ) (roots : List ℕ) → AreSteps g
    → o < length g.pair.first.outputs → roots ≡ roots_of g o →
    (get_or roots 0 0 < steps_in g.pair) × (get_or roots 1 0 < steps_in g.pair)
roots_are_steps g o roots h inside is =
    let first : get_or roots 0 0 ≡ first_root g o = ap (λ r. get_or r 0 0) is ∙ root_first g o in
    let second : get_or roots 1 0 ≡ second_root g o = ap (λ r. get_or r 1 0) is ∙ root_second g o in (
      omega (arith, first, first_root_within g o h inside),
      omega (arith, second, second_root_within g o h inside),
    )

pub one_literal : (g : StepsOf) (o : ℕ) (roots : List ℕ) (literals : List (Option ℕ)) → AreSteps g
    → TellEqual g.pair literals →
    o < length g.pair.first.outputs → roots ≡ roots_of g o
    → HaveOneLiteral literals (get_or roots 0 0) (get_or roots 1 0) →
    difference_at g.pair o ≡ None
one_literal g o roots literals h tell inside is have =
    let are = roots_are_steps g o roots h inside is in
    roots_never_differ g o roots h inside is (λ a. tell.each (get_or roots 0 0) (get_or roots 1 0) a
    are.0 are.1 have)

-- the first n outputs never differ where they are marked
abbrev pub AreEqualBelow : PairOf → List Bool → ℕ → Type 0
AreEqualBelow p marks n = (o : ℕ) → o < n → is_marked marks o ≡ true → difference_at p o ≡ None

-- one mark more
pub equal_more : (p : PairOf) (marks : List Bool) (mark : Bool) (n : ℕ) → length marks ≡ n
    → AreEqualBelow p marks n →
    (mark ≡ true → difference_at p n ≡ None) → AreEqualBelow p (marks ++ mark ∷ []) (n + 1)
equal_more p marks mark n size before here o less marked = by (cases_eq o n)
  where
    by : (o ≡ n) ⊎ (o ≡ n → ⊥) → difference_at p o ≡ None
    by (inl e) =
        let at : get_or (marks ++ mark ∷ []) o false ≡ mark =
        ap (λ k. get_or (marks ++ mark ∷ []) k false) (e ∙ sym size)
        ∙ get_or-append_seam marks mark [] false in
        ap (difference_at p) e ∙ here (sym at ∙ marked)
    by (inr other) =
        let lower : o < n = omega (arith, less, other) in
        before o lower (sym (get_or_append_left marks (mark ∷ []) false o
        (omega (arith, lower, size))) ∙ marked)

-- an output that is equal is marked
pub equal_set : (p : PairOf) (marks : List Bool) (o : ℕ) → AreEqual p marks → difference_at p o
    ≡ None → AreEqual p (set marks o true)
equal_set p marks o equal here = record {
  each = λ k inside marked. elim (cases_eq k o) [
    | inl e ↦ ap (difference_at p) e ∙ here
    | inr other ↦ equal.each k inside (sym (get_or-set_other marks o k true false other) ∙ marked)
  ];
}

-- of the first n outputs those that were marked are marked still
abbrev pub AreKeptBelow : List Bool → List Bool → ℕ → Type 0
AreKeptBelow old new n = (o : ℕ) → o < n → is_marked old o ≡ true → is_marked new o ≡ true

-- one mark more
pub kept_more : (old new : List Bool) (mark : Bool) (n : ℕ) → length new ≡ n
    → AreKeptBelow old new n →
    (is_marked old n ≡ true → mark ≡ true) → AreKeptBelow old (new ++ mark ∷ []) (n + 1)
kept_more old new mark n size before here o less marked = by (cases_eq o n)
  where
    by : (o ≡ n) ⊎ (o ≡ n → ⊥) → is_marked (new ++ mark ∷ []) o ≡ true
    by (inl e) = ap (λ k. get_or (new ++ mark ∷ []) k false) (e ∙ sym size)
        ∙ (get_or-append_seam new mark [] false ∙ here (ap (is_marked old) (sym e) ∙ marked))
    by (inr other) =
        let lower : o < n = omega (arith, less, other) in
        get_or_append_left new (mark ∷ []) false o (omega (arith, lower, size))
        ∙ before o lower marked

-- an output that becomes marked leaves the others as they are
pub kept_set : (p : PairOf) (old marks : List Bool) (o : ℕ) → KeepsMarks p old marks
    → KeepsMarks p old (set marks o true)
kept_set p old marks o kept k inside marked = by (cases_eq k o) (cases_lt o (length marks))
  where
    by : (k ≡ o) ⊎ (k ≡ o → ⊥) → (o < length marks) ⊎ (length marks ≤ o)
        → is_marked (set marks o true) k ≡ true
    by (inr other) place = get_or-set_other marks o k true false other ∙ kept k inside marked
    by (inl e) (inl within) = ap (λ i. get_or (set marks o true) i false) e
        ∙ get_or-set_same marks o true false within
    by (inl e) (inr past) = absurd (true≢false (sym (kept k inside marked) ∙ (ap (is_marked marks) e
        ∙ get_or_past marks o false past)))

-- ---- literals of a graph

-- no step has a literal
pub inside_none : (g : StepsOf) (nodes : List Node) → AreSteps g → IsInside g nodes []
inside_none g nodes are = record {
  lawful = are;
  values =
      record { each = λ k l is. absurd (let q = is in cc) };
}

-- steps of one literal have the value of it
pub tell_equal : (p : PairOf) (nodes : List Node) (literals : List (Option ℕ))
    → AreLiterals p nodes literals → TellEqual p literals
tell_equal p nodes literals are = record {
  each = λ j k a hj hk h. sym ((are.each j h.literal h.first).value a)
      ∙ (are.each k h.literal h.second).value a;
}

-- an output never differs whose two literals have one value under all assignments
pub asked_equal : (g : StepsOf) (nodes : List Node) (literals : List (Option ℕ)) (roots : List ℕ)
    (o x y : ℕ) → IsInside g nodes literals → o < length g.pair.first.outputs → roots ≡ roots_of g o
    → reference_of literals (get_or roots 0 0) ≡ Some x
    → reference_of literals (get_or roots 1 0) ≡ Some y
    → ((a : ℕ → Bool) → literal_value nodes a x ≡ literal_value nodes a y) → difference_at g.pair o
    ≡ None
asked_equal g nodes literals roots o x y is inside are first second same =
    roots_never_differ g o roots is.lawful inside are
    (λ a. sym ((is.values.each (get_or roots 0 0) x first).value a)
    ∙ (same a ∙ (is.values.each (get_or roots 1 0) y second).value a))

-- what is inside stays where the graph goes on
pub inside_stays : (g : StepsOf) (old new : List Node) (literals : List (Option ℕ))
    → Extends old new → IsInside g old literals → IsInside g new literals
inside_stays g old new literals extends is = record {
  lawful = is.lawful;
  values =
      literals_stay g.pair old new literals extends is.values;
}

pub inside_along : (g : StepsOf) (old between new : List Node) (literals : List (Option ℕ))
    → Extends old between → Extends between new → IsInside g old literals → IsInside g new literals
inside_along g old between new literals first second is = inside_stays g between new literals second
    (inside_stays g old between literals first is)
