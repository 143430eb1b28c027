-- Building the diagrams of steps, one after another.
use Rattle.std.proofs.Common.{◌≡◌, ℕ, ◌+◌, ◌<◌, ◌≤◌, Bool, List, [], ◌∷◌, ◌++◌, length, map, get_or}
use Rattle.std.proofs.Common.{take, refl, sym, ◌∙◌, ap, arith, Option, Some, None, inl, inr, ◌⊎◌}
use Rattle.std.proofs.Common.{subst, IsSome}
use Rattle.std.specs.Borrow.{Bor}
use Rattle.std.proofs.lemmas.List.{get_or-set_same, get_or-set_other, take_more, map-append}
use Rattle.std.proofs.lemmas.Bool.{cases_eq, cases_lt}
use Rattle.std.proofs.Math.ListN.{length-set}
use Rattle.eqc_tree.specs.Holding.{Entry, Holding, says, Keeps, Gains}
use Rattle.eqc_pair.specs.PairOf.{PairOf}
use Rattle.eqc_cover.specs.Matching.{AreHeld, said}
use Rattle.eqc_build.specs.Building.{OwnsTable, Moves, Fills, Adds, Advances, Releases, IsLastUse}
use Rattle.eqc_build.specs.Building.{IsBuilt, AreReady, reference_of}
use Rattle.eqc_build.specs.Steps.{StepsOf, steps_in, uses_of, value_at}
use Rattle.eqc_build.specs.Schedule.{moment, end_of, AreLastMoments, AreUsedUntil, AreUsedInTurn}
use Rattle.eqc_build.specs.Schedule.{AreWanted, AreReached, IsBehind}
use Rattle.eqc_build.specs.Demand.{AreCounted, IsOfUse}
use Rattle.eqc_build.specs.declared.plan.Plan.{Plan}
use Rattle.eqc_build.proofs.DemandLaws.{made_none, made_more, of_use_before}
use Rattle.eqc_build.proofs.TableLaws.{owned_held, moves_twice}
use Rattle.std.proofs.lemmas.List.{length-append, get_or_append_left, get_or_past}
use Rattle.std.proofs.Math.Seq.{get_or-append_seam}

-- one more reference of a table
pub found_more : {X : Type 0} (table : List (Option X)) (signals : List ℕ) (i : ℕ)
    (old new : List (Bor X)) (r : Bor X) → i < length signals →
    map (λ r. Some r.now) old ≡ map (reference_of table) (take i signals)
    → reference_of table (get_or signals i 0) ≡ Some r.now →
    new ≡ old ++ r ∷ [] → map (λ r. Some r.now) new ≡ map (reference_of table)
    (take (i + 1) signals)
found_more {X = X} table signals i old new r h o is n =
    ap (map (λ (r : Bor X). Some r.now)) n ∙ (map-append (λ (r : Bor X). Some r.now) old (r ∷ [])
    ∙ (rw (o, ← is) refl ∙ sym (ap (map (reference_of table)) (take_more signals i 0 h)
    ∙ map-append (reference_of table) (take i signals) (get_or signals i 0 ∷ []))))

-- references of a table are held, and say the values of their steps
pub found_held : {X : Type 0} (entry : X → Entry) (d : Holding) (table : List (Option X))
    (signals : List ℕ) (found : List (Bor X)) →
    OwnsTable entry d table → map (λ r. Some r.now) found ≡ map (reference_of table) signals
    → AreHeld entry d found
found_held entry d table signals [] h is = record { each = tt }
found_held entry d table [] (r ∷ found) h is = absurd (let q = is in cc)
found_held entry d table (s ∷ signals) (r ∷ found) h is =
    let here : reference_of table s ≡ Some r.now = cc in
    let rest : map (λ r. Some r.now) found ≡ map (reference_of table) signals = cc in
    record {
      each = (
        owned_held entry d table s r.now h here,
        (found_held entry d table signals found h rest).each,
      );
    }

pub found_said : {X : Type 0} (entry : X → Entry) (p : PairOf) (table : List (Option X))
    (steps : List ℕ) (found : List (Bor X)) (a : ℕ → Bool) →
    IsBuilt entry p table → map (λ r. Some r.now) found ≡ map (reference_of table) steps
    → said entry found a ≡ map (value_at p a) steps
found_said entry p table [] [] a h is = refl
found_said entry p table (s ∷ steps) [] a h is = absurd (let q = is in cc)
found_said entry p table [] (r ∷ found) a h is = absurd (let q = is in cc)
found_said entry p table (s ∷ steps) (r ∷ found) a h is =
    let here : reference_of table s ≡ Some r.now = cc in
    let rest : map (λ r. Some r.now) found ≡ map (reference_of table) steps = cc in
    let value = h.values s r.now here a in
    let others = found_said entry p table steps found a h rest in
    cc

some_is : {X : Type 0} (o : Option X) (x : X) → o ≡ Some x → IsSome o
some_is o x e = rw e refl

-- a step's diagram comes into the table
pub adds : {X : Type 0} (entry : X → Entry) (p : PairOf) (d0 d1 d2 : Holding)
    (old new : List (Option X)) (s : ℕ) (r : X) → s < steps_in p →
    IsBuilt entry p old → Gains d0 d1 (entry r) (λ a. value_at p a s)
    → Fills entry d1 old d2 new s r → Adds entry p d0 old d2 new s
adds {X = X} entry p d0 d1 d2 old new s r inside h g fills = record {
  moves = record {
    variables = fills.variables ∙ g.variables;
    held =
        λ e. omega (arith, g.held e, fills.held e);
  };
  built = record {
    size = ap length fills.table ∙ (length-set old s (Some r) ∙ h.size);
    values = λ t q is a. elim (cases_eq t s) [
      | inl same ↦ here t q same is a
      | inr apart ↦ h.values t q (sym (there t apart) ∙ is) a
    ];
  };
  here = some_is _ r at_s;
  kept = λ i some. elim (cases_eq i s) [
    | inl same ↦ some_is _ r (ap (reference_of new) same ∙ at_s)
    | inr apart ↦ rw (there i apart) some
  ];
}
  where
    within : s < length old
    within = omega (arith, h.size)

    at_s : reference_of new s ≡ Some r
    at_s = ap (λ t. reference_of t s) fills.table ∙ get_or-set_same old s (Some r) None within

    there : (i : ℕ) → (i ≡ s → ⊥) → reference_of new i ≡ reference_of old i
    there i apart = ap (λ t. reference_of t i) fills.table ∙ get_or-set_other old s i (Some r) None
        apart

    here : (t : ℕ) (q : X) → t ≡ s → reference_of new t ≡ Some q → (a : ℕ → Bool) → says (entry q) a
        ≡ value_at p a t
    here t q same is a =
        let e : Some r ≡ Some q = sym at_s ∙ (ap (reference_of new) (sym same) ∙ is) in
        let same_reference : r ≡ q = cc in
        ap (λ x. says (entry x) a) (sym same_reference)
        ∙ (g.function a ∙ ap (value_at p a) (sym same))

-- a table without references is built
pub none_built : {X : Type 0} (entry : X → Entry) (p : PairOf) (table : List (Option X))
    → length table ≡ steps_in p → ((s : ℕ) → reference_of table s ≡ None) → IsBuilt entry p table
none_built entry p table size none = record {
  size = size;
  values =
      λ s r is a. absurd (let q : None ≡ Some r = sym (none s) ∙ is in cc);
}

-- a table with fewer references is built too
pub fewer_built : {X : Type 0} (entry : X → Entry) (p : PairOf) (old new : List (Option X))
    → length new ≡ length old →
    ((s : ℕ) (r : X) → reference_of new s ≡ Some r → reference_of old s ≡ Some r)
    → IsBuilt entry p old → IsBuilt entry p new
fewer_built entry p old new size fewer b = record {
  size = size ∙ b.size;
  values =
      λ s r is a. b.values s r (fewer s r is) a;
}

-- a step that was built, and what it used for the last time given back
pub advances : {X : Type 0} (entry : X → Entry) (plan : Plan) (until : List ℕ) (d0 d1 d2 : Holding)
    (t0 t1 t2 : List (Option X)) (used : List ℕ) (s at : ℕ) →
    Adds entry plan.steps.pair d0 t0 d1 t1 s → Releases entry d1 t1 d2 t2 plan used until at
    → Advances entry plan until d0 t0 d2 t2 used s at
advances entry plan until d0 d1 d2 t0 t1 t2 used s at a r = record {
  moves = moves_twice entry d0 d1 d2 t0 t1 t2 a.moves r.moves;
  built = fewer_built entry plan.steps.pair t1 t2 r.size r.none_new a.built;
  here = λ other. rw (r.kept s other) a.here;
  kept = λ i other some. rw (r.kept i other) (a.kept i some);
  later = λ i of_use some. rw (r.later i of_use) (a.kept i some);
}

-- the steps that are left of those that an output wants, and those that were made
pub record IsCompleting {X : Type 0} (entry : X → Entry) (plan : Plan) (output : ℕ) (goals : List ℕ)
    (until : List ℕ) (d0 : Holding)
    (t0 : List (Option X)) (u0 : List ℕ) (d : Holding) (t : List (Option X))
    (u left made : List ℕ) : Type 0 where
  pub moves : Moves entry d0 t0 d t
  pub built : IsBuilt entry plan.steps.pair t
  pub wanted : AreWanted plan.steps plan.last t output left
  pub rooted : AreReached t left goals
  pub in_turn : AreUsedInTurn plan.steps until output left goals
  pub kept : (s : ℕ) → IsOfUse plan u s (end_of plan.steps output) → IsSome (reference_of t0 s)
      → IsSome (reference_of t s)
  pub counted : AreCounted plan.steps made u0 u
  pub below : (i j : ℕ) → i < length made → j < length left → get_or made i 0 < get_or left j 0

pub completing_start : {X : Type 0} (entry : X → Entry) (plan : Plan) (output : ℕ) (goals : List ℕ)
    (until : List ℕ) (d : Holding) (t : List (Option X)) (u left : List ℕ) →
    IsBuilt entry plan.steps.pair t → AreWanted plan.steps plan.last t output left
    → AreReached t left goals →
    AreUsedInTurn plan.steps until output left goals → IsCompleting entry plan output goals until d
    t u d t u left []
completing_start entry plan output goals until d t u left b w r n = record {
  moves = record { variables = refl; held = λ e. refl };
  built = b;
  wanted = w;
  rooted = r;
  in_turn = n;
  kept = λ s later some. some;
  counted = made_none plan.steps u;
  below = λ i j h inside. absurd (omega arith);
}

-- what the last of the steps uses has a reference
pub completing_ready : {X : Type 0} (g : StepsOf) (last : List ℕ) (output : ℕ) (t : List (Option X))
    (all left : List ℕ) (p : ℕ) →
    all ≡ left ++ p ∷ [] → AreWanted g last t output all → AreReady t (uses_of g p)
completing_ready {X = X} g last output t all left p is wanted = record { each = each }
  where
    size : length all ≡ length left + 1
    size = ap length is ∙ length-append left (p ∷ [])

    at_end : get_or all (length left) 0 ≡ p
    at_end = ap (λ xs. get_or xs (length left) 0) is ∙ get_or-append_seam left p [] 0

    each : (k : ℕ) → k < length (uses_of g p) → IsSome (reference_of t (get_or (uses_of g p) k 0))
    each k lt =
        let P : ℕ → Type 0 = λ q. k < length (uses_of g q)
        → IsSome (reference_of t (get_or (uses_of g q) k 0))
        ⊎ IsBehind all (length left + 1) (get_or (uses_of g q) k 0) in
        elim (subst P at_end (wanted.closed (length left) k (omega (arith, size))) lt) [
          | inl some ↦ some
          | inr b ↦ absurd (omega (arith, b.1, b.2, size))
        ]

-- the last of the steps is one of the pair
pub completing_within : {X : Type 0} (g : StepsOf) (last : List ℕ) (output : ℕ)
    (t : List (Option X)) (all left : List ℕ) (p : ℕ) →
    all ≡ left ++ p ∷ [] → AreWanted g last t output all → p < steps_in g.pair
completing_within g last output t all left p is wanted =
    let size : length all ≡ length left + 1 = ap length is ∙ length-append left (p ∷ []) in
    let at_end : get_or all (length left) 0 ≡ p = ap (λ xs. get_or xs (length left) 0) is
    ∙ get_or-append_seam left p [] 0 in
    omega (arith, at_end, wanted.within (length left) (omega (arith, size)))

-- the last of the steps was made
pub completing_more : {X : Type 0} (entry : X → Entry) (plan : Plan) (output : ℕ) (goals : List ℕ)
    (until : List ℕ) (d0 d1 d2 : Holding)
    (t0 t1 t2 : List (Option X)) (u0 u1 u2 all left made : List ℕ) (p : ℕ) →
    1 ≤ output → AreLastMoments plan.steps plan.last
    → AreUsedUntil plan.last goals (end_of plan.steps output) → all ≡ left ++ p ∷ [] →
    IsCompleting entry plan output goals until d0 t0 u0 d1 t1 u1 all made
    → Advances entry plan until d1 t1 d2 t2 u2 p (moment output (p + 1)) →
    AreCounted plan.steps (p ∷ []) u1 u2 → IsCompleting entry plan output goals until d0 t0 u0 d2 t2
    u2 left (made ++ p ∷ [])
completing_more {X = X} entry plan output goals until d0 d1 d2 t0 t1 t2 u0 u1 u2 all left made p
    some moments late is c a n = record {
      moves = moves_twice entry d0 d1 d2 t0 t1 t2 c.moves a.moves;
      built = a.built;
      wanted = record {
        within = λ i h. omega (arith, c.wanted.within i (omega (arith, size)), old i h);
        falling = λ i j lt h. omega (
          arith,
          c.wanted.falling i j lt (omega (arith, size)),
          old i (omega arith),
          old j h,
        );
        needed = λ i h. rw (← old i h) (c.wanted.needed i (omega (arith, size)));
        closed = λ i k h lt.
            (let P : ℕ → Type 0 = λ q. k < length (uses_of g q)
            → IsSome (reference_of t2 (get_or (uses_of g q) k 0))
            ⊎ IsBehind left (i + 1) (get_or (uses_of g q) k 0) in
            subst P (old i h) (closed_before i k h) lt);
      };
      rooted = record {
        each = λ r h. elim (c.rooted.each r h) [
          | inl there ↦ inl (a.kept (get_or goals r 0) (goal_later r h) there)
          | inr b ↦
              elim (moved 0 (get_or goals r 0) b) [
                | inl same ↦ inl (subst (λ s. IsSome (reference_of t2 s)) same
                    (a.here (subst (λ s. IsLastUse plan until s (moment output (p + 1))
                    → ⊥) (sym same) (goal_later r h))))
                | inr left ↦ inr left
              ]
        ];
      };
      in_turn = record {
        uses = λ i k h lt.
            (let P : ℕ → Type 0 = λ q. k < length (uses_of g q) → get_or (uses_of g q) k 0
            < length until → moment output (q + 1) ≤ get_or until (get_or (uses_of g q) k 0) 0 in
            subst P (old i h) (c.in_turn.uses i k (omega (arith, size, h))) lt);
        goals_end = c.in_turn.goals_end;
      };
      kept = λ s later there.
          a.later s (of_use_before plan u2 u2 s (moment output (p + 1)) (end_of g output)
          (omega (arith, inside)) (λ s. omega arith) later)
          (c.kept s (of_use_before plan u1 u2 s (end_of g output) (end_of g output) (omega arith)
          n.grown later) there);
      counted = made_more g made p u0 u1 u2 (λ i h. omega (
        arith,
        at_end,
        c.below i (length left) h
            (omega (arith, size)),
      )) c.counted n;
      below = λ i j h lt. elim (cases_eq i (length made)) [
        | inl end ↦ omega (
          arith,
          made_here i end,
          at_end,
          old j lt,
          c.wanted.falling j (length left) lt
              (omega (arith, size)),
        )
        | inr apart ↦ (let before : i < length made = omega (arith, h, apart, made_size) in
            omega (arith, made_before i before, old j lt, c.below i j before (omega (arith, size))))
      ];
    }
  where
    g : StepsOf
    g = plan.steps

    size : length all ≡ length left + 1
    size = ap length is ∙ length-append left (p ∷ [])

    old : (i : ℕ) → i < length left → get_or all i 0 ≡ get_or left i 0
    old i lt = ap (λ xs. get_or xs i 0) is ∙ get_or_append_left left (p ∷ []) 0 i lt

    at_end : get_or all (length left) 0 ≡ p
    at_end = ap (λ xs. get_or xs (length left) 0) is ∙ get_or-append_seam left p [] 0

    made_size : length (made ++ p ∷ []) ≡ length made + 1
    made_size = length-append made (p ∷ [])

    made_before : (i : ℕ) → i < length made → get_or (made ++ p ∷ []) i 0 ≡ get_or made i 0
    made_before i lt = get_or_append_left made (p ∷ []) 0 i lt

    made_here : (i : ℕ) → i ≡ length made → get_or (made ++ p ∷ []) i 0 ≡ p
    made_here i end = ap (λ j. get_or (made ++ p ∷ []) j 0) end ∙ get_or-append_seam made p [] 0

    inside : p < steps_in g.pair
    inside = omega (arith, at_end, c.wanted.within (length left) (omega (arith, size)))

    -- a step for which this moment is noted has a place
    placed : (s : ℕ) → get_or until s 0 ≡ moment output (p + 1) → s < length until
    placed s e = elim (cases_lt s (length until)) [
      | inl lt ↦ lt
      | inr past ↦
          absurd (omega (arith, get_or_past until s 0 (omega arith), e))
    ]

    goal_later : (r : ℕ) → r < length goals → IsLastUse plan until (get_or goals r 0)
        (moment output (p + 1)) → ⊥
    goal_later r h (inl e) = omega (arith, late.each r h, e, inside)
    goal_later r h (inr e) = omega (
      arith,
      c.in_turn.goals_end r h (placed (get_or goals r 0) e),
      e,
      inside,
    )

    moved : (n s : ℕ) → IsBehind all n s → (p ≡ s) ⊎ IsBehind left n s
    moved n s b = elim (cases_eq b.0 (length left)) [
      | inl same ↦ inl (sym at_end ∙ (ap (λ j. get_or all j 0) (sym same) ∙ b.3))
      | inr apart ↦ (let lt : b.0 < length left = omega (arith, b.2, size) in
          inr (b.0, b.1, lt, sym (old b.0 lt) ∙ b.3))
    ]

    -- what a remaining step uses is used later than now
    later : (i k : ℕ) → i < length left → k < length (uses_of g (get_or all i 0))
        → IsLastUse plan until (get_or (uses_of g (get_or all i 0)) k 0) (moment output (p + 1)) → ⊥
    later i k h lt (inl e) =
        let used = moments.closed (get_or all i 0) k output
        (c.wanted.within i (omega (arith, size))) lt some
        (c.wanted.needed i (omega (arith, size))) in
        omega (arith, used, e, at_end, c.wanted.falling i (length left) h (omega (arith, size)))
    later i k h lt (inr e) =
        omega (
          arith,
          c.in_turn.uses i k (omega (arith, size)) lt
              (placed (get_or (uses_of g (get_or all i 0)) k 0) e),
          e,
          at_end,
          c.wanted.falling i (length left) h (omega (arith, size)),
        )

    closed_before : (i k : ℕ) → i < length left → k < length (uses_of g (get_or all i 0)) →
        IsSome (reference_of t2 (get_or (uses_of g (get_or all i 0)) k 0))
        ⊎ IsBehind left (i + 1) (get_or (uses_of g (get_or all i 0)) k 0)
    closed_before i k h lt = elim (c.wanted.closed i k (omega (arith, size)) lt) [
      | inl there ↦ inl (a.kept (get_or (uses_of g (get_or all i 0)) k 0) (later i k h lt) there)
      | inr b ↦ elim (moved (i + 1) (get_or (uses_of g (get_or all i 0)) k 0) b) [
        | inl same ↦ inl (subst (λ s. IsSome (reference_of t2 s)) same
            (a.here (subst (λ s. IsLastUse plan until s (moment output (p + 1))
            → ⊥) (sym same) (later i k h lt))))
        | inr left ↦ inr left
      ]
    ]

pub completing_done : {X : Type 0} (t : List (Option X)) (left goals : List ℕ) → length left ≡ 0
    → AreReached t left goals → AreReady t goals
completing_done t left goals empty reached =
    record {
      each = λ r h. elim (reached.each r h) [
        | inl some ↦ some
        | inr b ↦
            absurd (omega (arith, b.2, empty))
      ];
    }

-- a step that was not made
pub completing_stopped : {X : Type 0} (entry : X → Entry) (d0 d1 d2 : Holding)
    (t0 t1 t2 : List (Option X)) → Moves entry d0 t0 d1 t1 → Keeps d1 d2 → t2 ≡ t1
    → Moves entry d0 t0 d2 t2
completing_stopped entry d0 d1 d2 t0 t1 t2 m k same = rw same (record {
  variables = k.variables
      ∙ m.variables;
  held = λ e. omega (arith, m.held e, k.held e);
})
