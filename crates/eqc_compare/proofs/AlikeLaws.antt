-- Outputs whose two signals have one structure, and steps of one structure: classes tell them, and
-- they never differ.
use Rattle.std.proofs.Common.{◌≡◌, ◌⊎◌, ◌↔◌, ℕ, ◌+◌, ◌-◌, ◌<◌, ◌≤◌, Bool, true, false, true≢false}
use Rattle.std.proofs.Common.{◌&&◌, List, [], ◌∷◌, ◌++◌, length, map, get_or, set, min, ◌==◌, refl}
use Rattle.std.proofs.Common.{sym, ◌∙◌, ap, subst, arith, inl, inr, None}
use Rattle.std.proofs.lemmas.List.{get_or_append_left, get_or-append_right, get_or-map}
use Rattle.std.proofs.lemmas.List.{get_or-set_same, get_or-set_other, get_or_default, get_or_past}
use Rattle.std.proofs.lemmas.List.{length-append, length-map}
use Rattle.std.proofs.Math.ListN.{length-set}
use Rattle.std.proofs.Math.Nat.{min-eq_left, min-eq_right}
use Rattle.std.proofs.Math.Seq.{get_or-append_seam}
use Rattle.std.proofs.lemmas.Bool.{cases_eq, cases_lt, eqb-true, eq-eqb, lt-ltb, le-ltb}
use Rattle.eqc_netlist.specs.Graph.{FlatOf, IsFlat, FollowsDrivers, value_of}
use Rattle.eqc_strash.specs.Structure.{structure_of}
use Rattle.eqc_strash.proofs.ValueLaws.{equal_values}
use Rattle.eqc_strash.specs.Classes.{ClassesOf, AreClasses, HaveOneValueEach, TellStructures}
use Rattle.eqc_pair.specs.PairOf.{PairOf, IsPair, first_variables, second_variables, second_signals}
use Rattle.eqc_build.specs.Steps.{IsChoice, assumed_start, chosen_for, inputs_under, value_at}
use Rattle.eqc_compare.specs.Verdict.{is_different}
use Rattle.eqc_compare.specs.Comparing.{allowed_at, values_differ_at, differs_at, difference_at}
use Rattle.eqc_compare.specs.Comparing.{told_at, is_chosen_at}
use Rattle.eqc_build.specs.Turns.{is_marked}
use Rattle.eqc_compare.specs.Alike.{IsAlike, TellAlike, TellShared, AreEqual, AreSettled, AreFirst}
use Rattle.eqc_compare.specs.Alike.{step_structure}
use Rattle.eqc_build.proofs.PairLaws.{pair_matched}
use Rattle.eqc_compare.proofs.DifferenceLaws.{none_is}
use Rattle.eqc_build.proofs.StepLaws.{value_first, value_second}

-- a pair's classes
abbrev pub ArePairClasses : PairOf → ClassesOf → Type 0
ArePairClasses p c = AreClasses p.first p.second (first_variables p) (second_variables p) c

-- the classes of an output's two signals are equal exactly where it is alike
pub told : (p : PairOf) (c : ClassesOf) (o : ℕ) → IsPair p → ArePairClasses p c
    → o < length p.first.outputs →
    (get_or c.first (get_or p.first.output_signals o 0) 0
    ≡ get_or c.second (get_or (second_signals p) o 0) 0) ↔ IsAlike p o
told p c o h classes inside =
    let s = get_or p.first.output_signals o 0 in
    let t = get_or (second_signals p) o 0 in
    let first : s < length c.first = omega (
      arith,
      classes.first_size,
      h.first_flat.outputs_within o
          inside,
    ) in
    let second : t < length c.second = omega (
      arith,
      classes.second_size,
      (pair_matched p h).within
          o inside,
    ) in
    (classes.across.no_other s t first second, classes.across.all s t first second)

-- the first n outputs are marked where they are alike
abbrev pub TellFirst : PairOf → List Bool → ℕ → Type 0
TellFirst p marks n = (o : ℕ) → o < n → (is_marked marks o ≡ true) ↔ IsAlike p o

-- one mark more
pub told_more : (p : PairOf) (marks : List Bool) (mark : Bool) (n : ℕ) → length marks ≡ n
    → TellFirst p marks n → (mark ≡ true) ↔ IsAlike p n → TellFirst p (marks ++ mark ∷ []) (n + 1)
told_more p marks mark n size before here o less = by (cases_eq o n)
  where
    by : (o ≡ n) ⊎ (o ≡ n → ⊥) → (is_marked (marks ++ mark ∷ []) o ≡ true) ↔ IsAlike p o
    by (inl e) =
        let seam : get_or (marks ++ mark ∷ []) (length marks) false ≡ mark =
        get_or-append_seam marks mark [] false in
        let at : get_or (marks ++ mark ∷ []) o false ≡ mark =
        ap (λ k. get_or (marks ++ mark ∷ []) k false) (e ∙ sym size) ∙ seam in
        subst (λ m. (m ≡ true) ↔ IsAlike p o) (sym at) (subst (λ k. (mark ≡ true) ↔ IsAlike p k)
        (sym e) here)
    by (inr other) =
        let lower : o < n = omega (arith, less, other) in
        let at : get_or (marks ++ mark ∷ []) o false ≡ get_or marks o false =
        get_or_append_left marks (mark ∷ []) false o (omega (arith, lower, size)) in
        subst (λ m. (m ≡ true) ↔ IsAlike p o) (sym at) (before o lower)

-- whether the two signals of an output are of one class
abbrev pub mark_at : PairOf → ClassesOf → ℕ → Bool
mark_at p c o = get_or c.first (get_or p.first.output_signals o 0) 0 == get_or c.second
    (get_or (second_signals p) o 0) 0

-- the next output is marked where its two signals are of one class
pub marked_more : (p : PairOf) (c : ClassesOf) (marks : List Bool) (o : ℕ) → IsPair p
    → ArePairClasses p c → o < length (second_signals p) →
    length marks ≡ o → TellFirst p marks o → (length (marks ++ mark_at p c o ∷ []) ≡ o + 1)
    × TellFirst p (marks ++ mark_at p c o ∷ []) (o + 1)
marked_more p c marks o h classes less size before =
    let inside : o < length p.first.outputs = omega (arith, less, (pair_matched p h).size) in
    let here = told p c o h classes inside in
    let s = get_or c.first (get_or p.first.output_signals o 0) 0 in
    let t = get_or c.second (get_or (second_signals p) o 0) 0 in
    let mark : (mark_at p c o ≡ true) ↔ IsAlike p o =
    (λ e. here.0 (eqb-true s t e), λ a. eq-eqb s t (here.1 a)) in
    let long : length (marks ++ mark_at p c o ∷ []) ≡ o + 1 =
    omega (arith, size, length-append marks (mark_at p c o ∷ [])) in
    (long, told_more p marks (mark_at p c o) o size before mark)

-- equal values are not different
pub never : (x y : Bool) → x ≡ y → is_different x y ≡ false
never true true e = refl
never true false e = e
never false true e = sym e
never false false e = refl

-- wherever that is asked
pub never_where : (b x y : Bool) → x ≡ y → (b && is_different x y) ≡ false
never_where true x y e = never x y e
never_where false x y e = refl

-- an output that is alike never differs
pub alike_equal : (p : PairOf) (c : ClassesOf) (marks : List Bool) → IsPair p → ArePairClasses p c →
    HaveOneValueEach p.first p.second (first_variables p) (second_variables p) c → TellAlike p marks
    → AreEqual p marks
unfolding differs_at values_differ_at
alike_equal p c marks h classes values tell = record { each = each }
  where
    each : (o : ℕ) → o < length p.first.outputs → is_marked marks o ≡ true → difference_at p o
        ≡ None
    each o inside marked =
        let s = get_or p.first.output_signals o 0 in
        let t = get_or (second_signals p) o 0 in
        let same : get_or c.first s 0 ≡ get_or c.second t 0 =
        (told p c o h classes inside).1 ((tell.each o inside).0 marked) in
        none_is p o (differs_at p o) h inside (record { each = λ a. refl })
        (λ a. never_where (allowed_at p a) (value_of p.first (inputs_under (first_variables p) a) s)
        (value_of p.second (inputs_under (second_variables p) a) t)
        (values.across a s t (h.first_flat.outputs_within o inside) ((pair_matched p h).within o
        inside) same))

-- ---- outputs of which nothing is to be told

pub none_equal : (p : PairOf) → AreEqual p []
none_equal p = record { each = λ o inside marked. absurd (true≢false (sym marked)) }

-- of the first n outputs nothing is to be told of those that are marked, and all others are chosen
pub record AreSettledBelow (p : PairOf) (marks : List Bool) (n : ℕ) : Type 0 where
  pub size : length marks ≡ n
  pub none : (o : ℕ) → o < n → is_marked marks o ≡ true → told_at p o ≡ None
  pub chosen : (o : ℕ) → o < n → is_marked marks o ≡ false → is_chosen_at p o ≡ true

-- one mark more
pub settled_more : (p : PairOf) (marks : List Bool) (mark : Bool) (n : ℕ)
    → AreSettledBelow p marks n → (mark ≡ true → told_at p n ≡ None) →
    (mark ≡ false → is_chosen_at p n ≡ true) → AreSettledBelow p (marks ++ mark ∷ []) (n + 1)
settled_more p marks mark n s none chosen = record {
  size = omega (arith, s.size, length-append marks (mark ∷ []));
  none = λ o less marked. elim (cases_eq o n) [
    | inl e ↦ ap (told_at p) e ∙ none (sym (at o e) ∙ marked)
    | inr other ↦ s.none o (omega (arith, less, other)) (sym (old o (omega (arith, less, other)))
        ∙ marked)
  ];
  chosen = λ o less unmarked. elim (cases_eq o n) [
    | inl e ↦ ap (is_chosen_at p) e ∙ chosen (sym (at o e) ∙ unmarked)
    | inr other ↦ s.chosen o (omega (arith, less, other)) (sym (old o (omega (arith, less, other)))
        ∙ unmarked)
  ];
}
  where
    at : (o : ℕ) → o ≡ n → is_marked (marks ++ mark ∷ []) o ≡ mark
    at o e = ap (is_marked (marks ++ mark ∷ [])) (e ∙ sym s.size)
        ∙ get_or-append_seam marks mark [] false

    old : (o : ℕ) → o < n → is_marked (marks ++ mark ∷ []) o ≡ is_marked marks o
    old o less = get_or_append_left marks (mark ∷ []) false o (omega (arith, less, s.size))

pub settled_all : (p : PairOf) (marks : List Bool) (n : ℕ) → length p.first.outputs ≤ n
    → AreSettledBelow p marks n → AreSettled p marks
settled_all p marks n whole s = record {
  none = λ o inside marked. s.none o (omega (arith, inside, whole)) marked;
  chosen = λ o inside unmarked. s.chosen o (omega (arith, inside, whole)) unmarked;
}

-- ---- steps of one structure

-- the netlist of a side, the variables of its inputs, and the numbers of its signals' classes
abbrev pub netlist : PairOf → Bool → FlatOf
netlist p true = p.first
netlist p false = p.second

abbrev pub variables_on : PairOf → Bool → List ℕ
variables_on p true = first_variables p
variables_on p false = second_variables p

abbrev pub numbers_on : ClassesOf → Bool → List ℕ
numbers_on c true = c.first
numbers_on c false = c.second

-- the classes of the steps' signals
abbrev pub row_of : PairOf → ClassesOf → List ℕ
row_of p c = map (λ s. get_or c.first s 0) p.first.steps ++ map (λ s. get_or c.second s 0)
    p.second.steps

-- a step is that of a signal of a side
pub record IsOf (p : PairOf) (c : ClassesOf) (k : ℕ) (side : Bool) (s : ℕ) : Type 0 where
  pub inside : s < length (netlist p side).drivers
  pub structure : step_structure p k ≡ structure_of (netlist p side) (variables_on p side) s
  pub value : (a : ℕ → Bool) → value_at p a k ≡ value_of (netlist p side)
      (inputs_under (variables_on p side) a) s
  pub number : get_or (row_of p c) k 0 ≡ get_or (numbers_on c side) s 0

structure_first : (p : PairOf) (k : ℕ) → k < length p.first.drivers → step_structure p k
    ≡ structure_of p.first (first_variables p) (get_or p.first.steps k 0)
unfolding step_structure
structure_first p k lt = rw (lt-ltb k (length p.first.drivers) lt) refl

structure_second : (p : PairOf) (k : ℕ) → length p.first.drivers ≤ k → step_structure p k
    ≡ structure_of p.second (second_variables p) (get_or p.second.steps (k - length p.first.drivers)
    0)
unfolding step_structure
structure_second p k past = rw (le-ltb k (length p.first.drivers) past) refl

pub of_signal : (p : PairOf) (c : ClassesOf) (k : ℕ) → IsPair p → k < assumed_start p
    → (side : Bool) × (s : ℕ) × IsOf p c k side s
of_signal p c k h lt = elim (cases_lt k (length p.first.drivers)) [
  | inl low ↦
      let s = get_or p.first.steps k 0 in
      let size : length (map (λ s. get_or c.first s 0) p.first.steps) ≡ length p.first.steps =
      length-map p.first.steps (λ s. get_or c.first s 0) in
      let step : k < length p.first.steps = omega (arith, low, h.first_flat.step_count) in (
        true,
        s,
        record {
          inside = h.first_flat.steps_within k step;
          structure = structure_first p k low;
          value = λ a. value_first p a k low;
          number = get_or_append_left (map (λ s. get_or c.first s 0) p.first.steps)
              (map (λ s. get_or c.second s 0) p.second.steps) 0 k (omega (arith, step, size))
              ∙ get_or-map (λ s. get_or c.first s 0) p.first.steps k 0 0 step;
        },
      )
  | inr past ↦
      let n = length p.first.drivers in
      let j = k - n in
      let is : n + j ≡ k = omega (arith, past) in
      let s = get_or p.second.steps j 0 in
      let size : length (map (λ s. get_or c.first s 0) p.first.steps) ≡ n =
      length-map p.first.steps (λ s. get_or c.first s 0) ∙ h.first_flat.step_count in
      let step : j < length p.second.steps = omega (arith, lt, past, h.second_flat.step_count) in (
        false,
        s,
        record {
          inside = h.second_flat.steps_within j step;
          structure = structure_second p k past;
          value = λ a. ap (value_at p a) (sym is) ∙ value_second p a j (omega (arith, lt, past));
          number = get_or-append_right (map (λ s. get_or c.first s 0) p.first.steps)
              (map (λ s. get_or c.second s 0) p.second.steps) n k 0 size past
              ∙ get_or-map (λ s. get_or c.second s 0) p.second.steps j 0 0 step;
        },
      )
]

-- numbers tell structures on all sides
tell_back : (p : PairOf) (c : ClassesOf) →
    TellStructures (structure_of p.first (first_variables p)) (structure_of p.second
    (second_variables p)) c.first c.second →
    TellStructures (structure_of p.second (second_variables p))
    (structure_of p.first (first_variables p)) c.second c.first
tell_back p c t = record {
  no_other = λ x y hx hy e. sym (t.no_other y x hy hx (sym e));
  all = λ x y hx hy e. sym (t.all y x hy hx (sym e));
}

tell_sides : (p : PairOf) (c : ClassesOf) (x y : Bool) → ArePairClasses p c →
    TellStructures (structure_of (netlist p x) (variables_on p x)) (structure_of (netlist p y)
    (variables_on p y)) (numbers_on c x) (numbers_on c y)
tell_sides p c true true h = h.in_first
tell_sides p c true false h = h.across
tell_sides p c false true h = tell_back p c h.across
tell_sides p c false false h = h.in_second

numbered : (p : PairOf) (c : ClassesOf) (side : Bool) (s : ℕ) → ArePairClasses p c
    → s < length (netlist p side).drivers → s < length (numbers_on c side)
numbered p c true s h inside = omega (arith, inside, h.first_size)
numbered p c false s h inside = omega (arith, inside, h.second_size)

-- two steps have one number in the row exactly where they have one structure
pub row_tells : (p : PairOf) (c : ClassesOf) (j k : ℕ) → IsPair p → ArePairClasses p c
    → j < assumed_start p → k < assumed_start p →
    (get_or (row_of p c) j 0 ≡ get_or (row_of p c) k 0) ↔ (step_structure p j ≡ step_structure p k)
row_tells p c j k h classes inside within =
    let x = of_signal p c j h inside in
    let y = of_signal p c k h within in
    let t = tell_sides p c x.0 y.0 classes in
    let hx = numbered p c x.0 x.1 classes x.2.inside in
    let hy = numbered p c y.0 y.1 classes y.2.inside in (
      λ e. x.2.structure ∙ (t.no_other x.1 y.1 hx hy (sym x.2.number ∙ (e ∙ y.2.number))
          ∙ sym y.2.structure),
      λ e. x.2.number ∙ (t.all x.1 y.1 hx hy (sym x.2.structure ∙ (e ∙ y.2.structure))
          ∙ sym y.2.number),
    )

number_below : (p : PairOf) (c : ClassesOf) (side : Bool) (s : ℕ) → ArePairClasses p c
    → s < length (netlist p side).drivers → get_or (numbers_on c side) s 0 < c.count
number_below p c true s h inside = h.first_within s (omega (arith, inside, h.first_size))
number_below p c false s h inside = h.second_within s (omega (arith, inside, h.second_size))

row_size : (p : PairOf) (c : ClassesOf) → IsPair p → length (row_of p c) ≡ assumed_start p
row_size p c h =
    length-append (map (λ s. get_or c.first s 0) p.first.steps) (map (λ s. get_or c.second s 0)
    p.second.steps)
    ∙ omega (
      arith,
      length-map p.first.steps (λ s. get_or c.first s 0),
      length-map p.second.steps
          (λ s. get_or c.second s 0),
      h.first_flat.step_count,
      h.second_flat.step_count,
    )

-- the numbers in the row are those of classes
pub row_within : (p : PairOf) (c : ClassesOf) (k : ℕ) → IsPair p → ArePairClasses p c
    → k < length (row_of p c) → get_or (row_of p c) k 0 < c.count
row_within p c k h classes lt =
    let x = of_signal p c k h (omega (arith, lt, row_size p c h)) in
    omega (arith, x.2.number, number_below p c x.0 x.1 classes x.2.inside)

flat_on : (p : PairOf) (side : Bool) → IsPair p → IsFlat (netlist p side)
flat_on p true h = h.first_flat
flat_on p false h = h.second_flat

follows_on : (p : PairOf) (side : Bool) → FollowsDrivers p.first → FollowsDrivers p.second
    → FollowsDrivers (netlist p side)
follows_on p true first second = first
follows_on p false first second = second

-- steps of one structure have one value
same_value : (p : PairOf) (c : ClassesOf) (j k : ℕ) (a : ℕ → Bool) → IsPair p
    → FollowsDrivers p.first → FollowsDrivers p.second →
    j < assumed_start p → k < assumed_start p → step_structure p j ≡ step_structure p k
    → value_at p a j ≡ value_at p a k
same_value p c j k a h first second inside within e =
    let x = of_signal p c j h inside in
    let y = of_signal p c k h within in
    x.2.value a
    ∙ (equal_values (netlist p x.0) (netlist p y.0) (variables_on p x.0) (variables_on p y.0) x.1
    y.1 a (flat_on p x.0 h)
    (follows_on p x.0 first second) (flat_on p y.0 h) (follows_on p y.0 first second) x.2.inside
    y.2.inside
    (sym x.2.structure ∙ (e ∙ y.2.structure))
    ∙ sym (y.2.value a))

-- a step that is chosen for those of its structure has their value
pub shared_choice : (p : PairOf) (c : ClassesOf) (chosen : List ℕ) → IsPair p
    → FollowsDrivers p.first → FollowsDrivers p.second → TellShared p chosen → IsChoice p chosen
shared_choice p c chosen h first second shared = record {
  early = λ k lt. elim (cases_lt k (assumed_start p)) [
    | inl low ↦ shared.early k low
    | inr past ↦ omega (arith, itself k past)
  ];
  same = λ k a lt. elim (cases_lt k (assumed_start p)) [
    | inl low ↦ same_value p c (chosen_for chosen k) k a h first second
        (omega (arith, shared.early k low, low)) low (shared.same k low)
    | inr past ↦ ap (value_at p a) (itself k past)
  ];
}
  where
    itself : (k : ℕ) → assumed_start p ≤ k → chosen_for chosen k ≡ k
    itself k past = get_or_past chosen k k (omega (arith, shared.size, past))

-- the first places in a row of classes are the first steps of each structure
pub first_shared : (p : PairOf) (c : ClassesOf) (row chosen : List ℕ) → IsPair p
    → ArePairClasses p c → row ≡ row_of p c → AreFirst row chosen → TellShared p chosen
first_shared p c row chosen h classes is f = record {
  size = f.size ∙ (ap length is ∙ size);
  early = λ k lt. omega (arith, chosen_is k lt, f.early k (long k lt));
  same = λ k lt. (
      let e : get_or (row_of p c) (chosen_for chosen k) 0 ≡ get_or (row_of p c) k 0 =
      ap (λ i. get_or (row_of p c) i 0) (chosen_is k lt)
      ∙ (sym (ap (λ r. get_or r (get_or chosen k 0) 0) is) ∙ (f.same k (long k lt)
      ∙ ap (λ r. get_or r k 0) is)) in
      (row_tells p c (chosen_for chosen k) k h classes (omega (
        arith,
        chosen_is k lt,
        f.early k (long k lt),
        lt,
      )) lt).0 e);
  one = λ j k inside within same. chosen_is j inside
      ∙ (f.one j k (long j inside) (long k within) (ap (λ r. get_or r j 0) is
      ∙ ((row_tells p c j k h classes inside within).1 same ∙ sym (ap (λ r. get_or r k 0) is)))
      ∙ sym (chosen_is k within));
}
  where
    size : length (row_of p c) ≡ assumed_start p
    size = row_size p c h

    long : (k : ℕ) → k < assumed_start p → k < length row
    long k lt = omega (arith, lt, size, ap length is)

    chosen_is : (k : ℕ) → k < assumed_start p → chosen_for chosen k ≡ get_or chosen k 0
    chosen_is k lt = get_or_default chosen k k 0 (omega (arith, long k lt, f.size))

-- the classes of the first n places are met: each has its first place, and others have a number
-- above all places
pub record AreMet (row firsts places : List ℕ) (count n : ℕ) : Type 0 where
  pub classes : length firsts ≡ count
  pub size : length places ≡ n
  pub seen : (j : ℕ) → j < n → get_or firsts (get_or row j 0) 0 ≡ get_or places j 0
  pub early : (j : ℕ) → j < n → get_or places j 0 ≤ j
  pub same : (j : ℕ) → j < n → get_or row (get_or places j 0) 0 ≡ get_or row j 0
  pub fresh : (c : ℕ) → c < count → (get_or firsts c 0 ≡ 4294967295) ⊎ ((get_or firsts c 0 < n)
      × (get_or row (get_or firsts c 0) 0 ≡ c))

pub met_none : (row firsts : List ℕ) (count : ℕ) → length firsts ≡ count → ((c : ℕ) → c < count
    → get_or firsts c 0 ≡ 4294967295) → AreMet row firsts [] count 0
met_none row firsts count size none = record {
  classes = size;
  size = refl;
  seen = λ j lt. absurd (omega arith);
  early = λ j lt. absurd (omega arith);
  same = λ j lt. absurd (omega arith);
  fresh = λ c lt. inl (none c lt);
}

-- one place more, whose class has this first place, or is met there
pub met_more : (row firsts places : List ℕ) (count n first : ℕ) → n < 4294967295
    → get_or row n 0 < count →
    ((get_or firsts (get_or row n 0) 0 ≡ first) × (first < n))
    ⊎ ((n ≤ get_or firsts (get_or row n 0) 0) × (first ≡ n)) →
    AreMet row firsts places count n → AreMet row (set firsts (get_or row n 0) first) (places
    ++ first ∷ []) count (n + 1)
met_more row firsts places count n first few inside by m = record {
  classes = length-set firsts (get_or row n 0) first ∙ m.classes;
  size = omega (arith, length-append places (first ∷ []), m.size);
  seen = λ j lt. elim (cases_eq j n) [
    | inl same ↦ ap (λ i. get_or (set firsts (get_or row n 0) first) (get_or row i 0) 0) same
        ∙ (at_class ∙ sym (ap (λ i. get_or (places ++ first ∷ []) i 0) same ∙ at_end))
    | inr apart ↦ elim (cases_eq (get_or row j 0) (get_or row n 0)) [
      | inl one ↦ ap (λ c. get_or (set firsts (get_or row n 0) first) c 0) one
          ∙ (at_class ∙ (known j (omega arith) one ∙ sym (old j (omega arith))))
      | inr other ↦ get_or-set_other firsts (get_or row n 0) (get_or row j 0) first 0 other
          ∙ (m.seen j (omega arith) ∙ sym (old j (omega arith)))
    ]
  ];
  early = λ j lt. elim (cases_eq j n) [
    | inl same ↦ omega (arith, ap (λ i. get_or (places ++ first ∷ []) i 0) same, at_end, low, same)
    | inr apart ↦ omega (arith, old j (omega arith), m.early j (omega arith))
  ];
  same = λ j lt. elim (cases_eq j n) [
    | inl same ↦ ap (λ i. get_or row (get_or (places ++ first ∷ []) i 0) 0) same
        ∙ (ap (λ i. get_or row i 0) at_end ∙ (first_class ∙ ap (λ i. get_or row i 0) (sym same)))
    | inr apart ↦ ap (λ i. get_or row i 0) (old j (omega arith)) ∙ m.same j (omega arith)
  ];
  fresh = λ c lt. elim (cases_eq c (get_or row n 0)) [
    | inl same ↦
        (let e : get_or (set firsts (get_or row n 0) first) c 0 ≡ first =
        ap (λ i. get_or (set firsts (get_or row n 0) first) i 0) same ∙ at_class in
        inr (omega (arith, e, low), ap (λ i. get_or row i 0) e ∙ (first_class ∙ sym same)))
    | inr other ↦
        (let e : get_or (set firsts (get_or row n 0) first) c 0 ≡ get_or firsts c 0 =
        get_or-set_other firsts (get_or row n 0) c first 0 other in
        elim (m.fresh c lt) [
          | inl none ↦ inl (e ∙ none)
          | inr w ↦
              inr (omega (arith, e, w.0), ap (λ i. get_or row i 0) e ∙ w.1)
        ])
  ];
}
  where
    at_class : get_or (set firsts (get_or row n 0) first) (get_or row n 0) 0 ≡ first
    at_class = get_or-set_same firsts (get_or row n 0) first 0 (omega (arith, inside, m.classes))

    at_end : get_or (places ++ first ∷ []) n 0 ≡ first
    at_end = ap (λ i. get_or (places ++ first ∷ []) i 0) (sym m.size)
        ∙ get_or-append_seam places first [] 0

    old : (j : ℕ) → j < n → get_or (places ++ first ∷ []) j 0 ≡ get_or places j 0
    old j lt = get_or_append_left places (first ∷ []) 0 j (omega (arith, lt, m.size))

    low : first ≤ n
    low = elim by [ inl w ↦ omega (arith, w.1) | inr w ↦ omega (arith, w.1) ]

    first_class : get_or row first 0 ≡ get_or row n 0
    first_class = elim by [
      | inl w ↦ elim (m.fresh (get_or row n 0) inside) [
        | inl none ↦
            absurd (omega (arith, none, w.0, w.1, few))
        | inr v ↦ ap (λ i. get_or row i 0) (sym w.0)
            ∙ v.1
      ]
      | inr w ↦ ap (λ i. get_or row i 0) w.1
    ]

    -- a class that was met has its first place
    known : (j : ℕ) → j < n → get_or row j 0 ≡ get_or row n 0 → first ≡ get_or places j 0
    known j lt one = elim by [
      | inl w ↦ sym w.0 ∙ (ap (λ c. get_or firsts c 0) (sym one) ∙ m.seen j lt)
      | inr w ↦ absurd (omega (
        arith,
        w.0,
        ap (λ c. get_or firsts c 0) one,
        m.seen j lt,
        m.early j lt,
        lt,
      ))
    ]

-- the lesser of the first place that a class has and of the next place
pub lesser : (m n first : ℕ) → first ≡ min m n → ((m ≡ first) × (first < n))
    ⊎ ((n ≤ m) × (first ≡ n))
lesser m n first is = elim (cases_lt m n) [
  | inl low ↦ (let e : first ≡ m = is ∙ min-eq_left (omega arith) in
      inl (sym e, omega (arith, e, low)))
  | inr high ↦ inr (high, is ∙ min-eq_right high)
]

pub met_all : (row firsts places : List ℕ) (count : ℕ) → AreMet row firsts places count (length row)
    → AreFirst row places
met_all row firsts places count m = record {
  size = m.size;
  early = m.early;
  same = m.same;
  one = λ j k inside within same. sym (m.seen j inside) ∙ (ap (λ c. get_or firsts c 0) same
      ∙ m.seen k within);
}
