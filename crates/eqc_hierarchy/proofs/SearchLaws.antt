-- The steps of a search in depth keep what it keeps.
use Rattle.std.proofs.Common.{
  ◌==◌,
  ◌≡◌,
  ℕ,
  zero,
  suc,
  ◌+◌,
  ◌-◌,
  ◌<◌,
  ◌≤◌,
  ◌⊎◌,
  inl,
  inr,
  Bool,
  true,
  false,
  not,
  ◌&&◌,
  ◌||◌,
  List,
  [],
  ◌∷◌,
  ◌++◌,
  length,
  take,
  set,
  get_or,
  refl,
  sym,
  ◌∙◌,
  ap,
  subst,
  arith,
  Some,
  cond,
  replicate,
  nat_lt,
  sum_by,
}
use Rattle.std.specs.List.{list_all, list_any, slice_get, count_by}
use Rattle.std.proofs.Math.Bool.{or-false}
use Rattle.std.proofs.lemmas.Bool.{cases_eq, cases_lt, true≢false, and_parts, and_from, lt-ltb}
use Rattle.std.proofs.lemmas.Bool.{ltb-true, not-true, or_cases, eqb-true, eq-eqb}
use Rattle.std.proofs.lemmas.List.{get_or-set_same, get_or-set_other, take_all, take_more, map_push}
use Rattle.std.proofs.lemmas.List.{length-set, length_push, get_or-replicate, get_or_past}
use Rattle.std.proofs.lemmas.List.{length-replicate, get_or_push, get_or_append_left}
use Rattle.std.proofs.lemmas.List.Sums.{sum_by-set, sum_by-cons}
use Rattle.std.proofs.lemmas.Option.{slice_get_within, get_or_from_slice_get}
use Rattle.eqc_netlist.specs.Dependency.{among, ends_within}
use Rattle.eqc_hierarchy.specs.declared.search.Stage.{Stage}
use Rattle.eqc_hierarchy.specs.declared.search.Stage.TheVariants.{Fresh, Open, Done}
use Rattle.eqc_hierarchy.specs.Searching.{is_fresh, stage_at, IsPath, on, IsSearch}
use Rattle.eqc_hierarchy.specs.Walks.{StandOnce}
use Rattle.eqc_netlist.proofs.Depth.{all_more, or_right}
use Rattle.eqc_netlist.proofs.Members.{among_at}
use Rattle.eqc_netlist.proofs.Orders.{same_all, all_push, all_front, all_last, all_among}
use Rattle.eqc_netlist.proofs.Orders.{among_left, among_end, among_push, order_more}
use Rattle.eqc_netlist.proofs.Orders.{stuck_never_ends, any_at}

-- one more element of a list that is there
take_get : (xs : List ℕ) (k t : ℕ) → slice_get xs k ≡ Some t → take (k + 1) xs ≡ take k xs ++ t ∷ []
take_get xs k t e = take_more xs k 0 (slice_get_within xs k t e)
    ∙ ap (λ x. take k xs ++ x ∷ []) (get_or_from_slice_get xs k t 0 e)

-- the last of a path: as many of its dependencies stand in the order as were looked at
path_last : (deps : ℕ → List ℕ) (order : List ℕ) (front : List (ℕ × ℕ)) (s k : ℕ)
    → IsPath deps order (front ++ (s, k) ∷ []) → list_all (among order) (take k (deps s)) ≡ true
path_last deps order [] s k h = h
path_last deps order (p ∷ []) s k h = h.2
path_last deps order (p ∷ q ∷ front) s k h = path_last deps order (q ∷ front) s k h.2

path_front : (deps : ℕ → List ℕ) (order : List ℕ) (front : List (ℕ × ℕ)) (p : ℕ × ℕ)
    → IsPath deps order (front ++ p ∷ []) → IsPath deps order front
path_front deps order [] p h = tt
path_front deps order (q ∷ []) p h = h.0
path_front deps order (q ∷ r ∷ front) p h = (h.0, h.1, path_front deps order (r ∷ front) p h.2)

path_next : (deps : ℕ → List ℕ) (order : List ℕ) (front : List (ℕ × ℕ)) (s k j : ℕ)
    → list_all (among order) (take j (deps s)) ≡ true → IsPath deps order (front ++ (s, k) ∷ [])
    → IsPath deps order (front ++ (s, j) ∷ [])
path_next deps order [] s k j e h = e
path_next deps order (p ∷ []) s k j e h = (h.0, h.1, e)
path_next deps order (p ∷ q ∷ front) s k j e h =
    (h.0, h.1, path_next deps order (q ∷ front) s k j e h.2)

pub path_push : (deps : ℕ → List ℕ) (order : List ℕ) (front : List (ℕ × ℕ)) (s k t : ℕ)
    → slice_get (deps s) k ≡ Some t
    → IsPath deps order (front ++ (s, k) ∷ []) → IsPath deps order ((front ++ (s, k) ∷ []) ++ (t, 0)
    ∷ [])
path_push deps order [] s k t e h = (h, e, refl)
path_push deps order (p ∷ []) s k t e h = (h.0, h.1, (h.2, e, refl))
path_push deps order (p ∷ q ∷ front) s k t e h =
    (h.0, h.1, path_push deps order (q ∷ front) s k t e h.2)

path_more : (deps : ℕ → List ℕ) (order : List ℕ) (t : ℕ) (path : List (ℕ × ℕ))
    → IsPath deps order path → IsPath deps (order ++ t ∷ []) path
path_more deps order t [] h = tt
path_more deps order t (p ∷ []) h = all_more (among order) (among (order ++ t ∷ []))
    (take p.1 (deps p.0)) (λ x k. among_left order (t ∷ []) x k) h
path_more deps order t (p ∷ q ∷ path) h = (
  all_more (among order) (among (order ++ t ∷ [])) (take p.1 (deps p.0)) (λ x k. among_left order (t
      ∷ []) x k) h.0,
  h.1,
  path_more deps order t (q ∷ path) h.2,
)

-- setting the stage of a node leaves the stages of the others
stage_other : (stages : List Stage) (t x : ℕ) (to : Stage) → (x ≡ t → ⊥) → stage_at stages x
    ≡ stage_at (set stages t to) x
stage_other stages t x to other = sym (get_or-set_other stages t x to Fresh other)

stage_same : (stages : List Stage) (t x : ℕ) (to : Stage) → t < length stages → x ≡ t
    → stage_at (set stages t to) x ≡ to
stage_same stages t x to inside same = rw same (get_or-set_same stages t to Fresh inside)

-- nodes that were begun stay so where a node is set to another stage than the first
begun_more : (stages : List Stage) (n t : ℕ) (to : Stage) (xs : List ℕ) → t < length stages
    → is_fresh to ≡ false
    → list_all (λ s. nat_lt s n && not (is_fresh (stage_at stages s))) xs ≡ true
    → list_all (λ s. nat_lt s n && not (is_fresh (stage_at (set stages t to) s))) xs ≡ true
begun_more stages n t to xs inside begun h =
    all_more (λ s. nat_lt s n && not (is_fresh (stage_at stages s))) (λ s. nat_lt s n
    && not (is_fresh (stage_at (set stages t to) s))) xs each h
  where
    each : (x : ℕ) → (nat_lt x n && not (is_fresh (stage_at stages x))) ≡ true
        → (nat_lt x n && not (is_fresh (stage_at (set stages t to) x))) ≡ true
    each x e =
        let both = and_parts (nat_lt x n) (not (is_fresh (stage_at stages x))) e in
        and_from (nat_lt x n) (not (is_fresh (stage_at (set stages t to) x))) both.0
        (elim (cases_eq x t) [
          | inl same ↦ rw (stage_same stages t x to inside same, begun) refl
          | inr other ↦ rw (sym (stage_other stages t x to other)) both.1
        ])

pub on_push : (path : List (ℕ × ℕ)) (s k : ℕ) → on (path ++ (s, k) ∷ []) ≡ on path ++ s ∷ []
on_push path s k = map_push (λ (p : ℕ × ℕ). p.0) path (s, k)

-- a number that isn't there goes behind numbers that stand once
once_push : (xs : List ℕ) (t : ℕ) → StandOnce xs → (among xs t ≡ true → ⊥)
    → StandOnce (xs ++ t ∷ [])
once_push xs t h new i j less inside same = elim (cases_lt j (length xs)) [
  | inl within ↦ h i j less within (sym (front i (omega (arith, less, within)))
      ∙ (same ∙ front j within))
  | inr past ↦ new (there i (omega (arith, less, inside, size))
      (sym (front i (omega (arith, less, inside, size)))
      ∙ (same ∙ get_or_push xs t 0 j (omega (arith, inside, size, past)))))
]
  where
    size : length (xs ++ t ∷ []) ≡ length xs + 1
    size = length_push xs t

    front : (k : ℕ) → k < length xs → get_or (xs ++ t ∷ []) k 0 ≡ get_or xs k 0
    front k room = get_or_append_left xs (t ∷ []) 0 k room

    there : (k : ℕ) → k < length xs → get_or xs k 0 ≡ t → among xs t ≡ true
    there k room is = let P : ℕ → Type 0 = λ x. among xs x ≡ true in subst P is (among_at xs k room)

-- numbers that stand once do without the last
once_front : (xs : List ℕ) (t : ℕ) → StandOnce (xs ++ t ∷ []) → StandOnce xs
once_front xs t h i j less inside same =
    let size : length (xs ++ t ∷ []) ≡ length xs + 1 = length_push xs t in
    h i j less (omega (arith, inside, size))
    (get_or_append_left xs (t ∷ []) 0 i (omega (arith, less, inside))
    ∙ (same ∙ sym (get_or_append_left xs (t ∷ []) 0 j inside)))

-- a new search
pub start : (deps : ℕ → List ℕ) (n : ℕ) → IsSearch deps n (replicate n Fresh) [] []
start deps n = record {
  size = length-replicate n Fresh;
  sorted = refl;
  finished = λ s e. absurd (fresh_all s Done (λ k. absurd (true≢false (ap is_fresh k))) e);
  open_on_path = λ s e. absurd (fresh_all s Open (λ k. absurd (true≢false (ap is_fresh k))) e);
  path_begun = refl;
  chain = tt;
  apart = λ i j less inside same. absurd (omega (arith, inside));
  order_within = refl;
  counted = all_fresh n;
}
  where
    fresh_all : (s : ℕ) (to : Stage) → (Fresh ≡ to → ⊥) → stage_at (replicate n Fresh) s ≡ to → ⊥
    fresh_all s to h e = h (sym (is_there s (cases_lt s n)) ∙ e)
      where
        is_there : (s : ℕ) → (s < n) ⊎ (n ≤ s) → stage_at (replicate n Fresh) s ≡ Fresh
        is_there s (inl h) = get_or-replicate n s Fresh Fresh h
        is_there s (inr h) = get_or_past (replicate n Fresh) s Fresh
            (omega (arith, length-replicate n Fresh))

    all_fresh : (n : ℕ) → 0 + 0 + count_by is_fresh (replicate n Fresh) ≡ n
    all_fresh zero = refl
    all_fresh (suc n) = rw (sum_by-cons (λ x. cond (is_fresh x) 1 0) Fresh (replicate n Fresh))
        (omega (arith, all_fresh n))

-- a node that was not begun goes onto the path
pub enter : (deps : ℕ → List ℕ) (n : ℕ) (stages : List Stage) (path : List (ℕ × ℕ)) (order : List ℕ)
    (t : ℕ)
    → IsSearch deps n stages path order → t < n → stage_at stages t ≡ Fresh
    → IsPath deps order (path ++ (t, 0) ∷ [])
    → IsSearch deps n (set stages t Open) (path ++ (t, 0) ∷ []) order
enter deps n stages path order t h inside fresh linked = record {
  size = length-set stages t Open ∙ h.size;
  sorted = h.sorted;
  finished = λ x e. elim (cases_eq x t) [
    | inl same ↦ absurd (not_done x same e)
    | inr other ↦ h.finished x (stage_other stages t x Open other ∙ e)
  ];
  open_on_path = λ x e. rw (on_push path t 0) (elim (cases_eq x t) [
    | inl same ↦ rw same (among_end (on path) t)
    | inr other ↦ among_left (on path) (t ∷ []) x (h.open_on_path x (stage_other stages t x Open
        other ∙ e))
  ]);
  path_begun =
      rw (on_push path t 0)
      (all_push (λ s. nat_lt s n && not (is_fresh (stage_at (set stages t Open) s))) (on path) t
      (begun_more stages n t Open (on path) room refl h.path_begun)
      (and_from (nat_lt t n) (not (is_fresh (stage_at (set stages t Open) t))) (lt-ltb t n inside)
      (rw (stage_same stages t t Open room refl) refl)));
  chain = linked;
  apart = let P : List ℕ → Type 0 = λ l. StandOnce l in
      subst P (sym (on_push path t 0)) (once_push (on path) t h.apart not_on);
  order_within = h.order_within;
  counted = count;
}
  where
    room : t < length stages
    room = omega (arith, h.size)

    not_on : among (on path) t ≡ true → ⊥
    not_on there =
        let begun = and_parts (nat_lt t n) (not (is_fresh (stage_at stages t)))
        (all_among (λ s. nat_lt s n && not (is_fresh (stage_at stages s))) (on path) t
        h.path_begun there) in
        true≢false (sym begun.1 ∙ ap (λ x. not (is_fresh x)) fresh)

    not_done : (x : ℕ) → x ≡ t → stage_at (set stages t Open) x ≡ Done → ⊥
    not_done x same e = let is : stage_at (set stages t Open) x ≡ Open =
        stage_same stages t x Open room same in cc

    count : length order + length (path ++ (t, 0) ∷ []) + count_by is_fresh (set stages t Open) ≡ n
    count = omega (arith, h.counted, length_push path (t, 0), changed, one)
      where
        changed : count_by is_fresh (set stages t Open) + cond (is_fresh (get_or stages t Fresh)) 1
            0 ≡ count_by is_fresh stages + 0
        changed = sum_by-set (λ x. cond (is_fresh x) 1 0) stages t Open Fresh room

        one : ◌≡◌ {A = ℕ} (cond (is_fresh (get_or stages t Fresh)) 1 0) 1
        one = ap (λ x. cond (is_fresh x) 1 0) fresh

-- a node all of whose dependencies were looked at goes from the path to the end of the order
pub leave : (deps : ℕ → List ℕ) (n : ℕ) (stages : List Stage) (front : List (ℕ × ℕ))
    (order : List ℕ) (s k : ℕ)
    → IsSearch deps n stages (front ++ (s, k) ∷ []) order → length (deps s) ≤ k
    → IsSearch deps n (set stages s Done) front (order ++ s ∷ [])
leave deps n stages front order s k h all = record {
  size = length-set stages s Done ∙ h.size;
  sorted = order_more deps [] order s h.sorted (sym (same_all (among order) (λ x. among order x
      || false) (deps s) (λ x. sym (or-false (among order x)))) ∙ looked_at);
  finished = λ x e. elim (cases_eq x s) [
    | inl same ↦ rw same (among_end order s)
    | inr other ↦
        among_left order (s ∷ []) x (h.finished x (stage_other stages s x Done other ∙ e))
  ];
  open_on_path = λ x e. elim (cases_eq x s) [
    | inl same ↦ absurd (not_open x same e)
    | inr other ↦ elim (among_push (on front) s x (rw (on_push front s k) at
        (h.open_on_path x (stage_other stages s x Done other ∙ e)))) [
          | inl there ↦ there
          | inr same ↦
              absurd (other (sym same))
        ]
  ];
  path_begun = begun_more stages n s Done (on front) room refl (all_front (λ s. nat_lt s n
      && not (is_fresh (stage_at stages s))) (on front) (s ∷ []) begun);
  chain = path_more deps order s front (path_front deps order front (s, k) h.chain);
  apart = once_front (on front) s (let P : List ℕ → Type 0 = λ l. StandOnce l in
      subst P (on_push front s k) h.apart);
  order_within = all_push (λ s. nat_lt s n) order s h.order_within here.0;
  counted = count;
}
  where
    begun : list_all (λ s. nat_lt s n && not (is_fresh (stage_at stages s))) (on front ++ s ∷ [])
        ≡ true
    begun = rw (on_push front s k) at h.path_begun

    here : (nat_lt s n ≡ true) × (not (is_fresh (stage_at stages s)) ≡ true)
    here = and_parts (nat_lt s n) (not (is_fresh (stage_at stages s))) (all_last (λ s. nat_lt s n
        && not (is_fresh (stage_at stages s))) (on front) s begun)

    inside : s < n
    inside = ltb-true s n here.0

    room : s < length stages
    room = omega (arith, h.size, inside)

    looked_at : list_all (among order) (deps s) ≡ true
    looked_at = rw (take_all k (deps s) all) at (path_last deps order front s k h.chain)

    not_open : (x : ℕ) → x ≡ s → stage_at (set stages s Done) x ≡ Open → ⊥
    not_open x same e = let is : stage_at (set stages s Done) x ≡ Done =
        stage_same stages s x Done room same in cc

    count : length (order ++ s ∷ []) + length front + count_by is_fresh (set stages s Done) ≡ n
    count = omega (arith, h.counted, length_push front (s, k), length_push order s, changed, none)
      where
        changed : count_by is_fresh (set stages s Done) + cond (is_fresh (get_or stages s Fresh)) 1
            0 ≡ count_by is_fresh stages + 0
        changed = sum_by-set (λ x. cond (is_fresh x) 1 0) stages s Done Fresh room

        none : ◌≡◌ {A = ℕ} (cond (is_fresh (get_or stages s Fresh)) 1 0) 0
        none = ap (λ b. cond b 1 0) (not-true (is_fresh (stage_at stages s)) here.1)

-- the next dependency of the last of the path stands in the order
pub advance : (deps : ℕ → List ℕ) (n : ℕ) (stages : List Stage) (front : List (ℕ × ℕ))
    (order : List ℕ) (s k t : ℕ)
    → IsSearch deps n stages (front ++ (s, k) ∷ []) order → slice_get (deps s) k ≡ Some t
    → stage_at stages t ≡ Done
    → IsSearch deps n stages (front ++ (s, k + 1) ∷ []) order
advance deps n stages front order s k t h next done = record {
  size = h.size;
  sorted = h.sorted;
  finished = h.finished;
  order_within = h.order_within;
  open_on_path = λ x e. rw (same_on) (h.open_on_path x e);
  path_begun = rw (same_on) h.path_begun;
  apart = let P : List ℕ → Type 0 = λ l. StandOnce l in subst P (sym same_on) h.apart;
  chain = path_next deps order front s k (k + 1) (rw (take_get (deps s) k t next)
      (all_push (among order) (take k (deps s)) t (path_last deps order front s k h.chain)
      (h.finished t done))) h.chain;
  counted = omega (arith, h.counted, length_push front (s, k), length_push front (s, k + 1));
}
  where
    same_on : on (front ++ (s, k + 1) ∷ []) ≡ on (front ++ (s, k) ∷ [])
    same_on = on_push front s (k + 1) ∙ sym (on_push front s k)

-- a path whose last depends on one of the path never ends
pub circle : (deps : ℕ → List ℕ) (order : List ℕ) (front : List (ℕ × ℕ)) (s k t : ℕ)
    → IsPath deps order (front ++ (s, k) ∷ [])
    → slice_get (deps s) k ≡ Some t → among (on (front ++ (s, k) ∷ [])) t ≡ true → (steps x : ℕ)
    → among (on (front ++ (s, k) ∷ [])) x ≡ true → ends_within deps steps x ≡ false
circle deps order front s k t h next back =
    stuck_never_ends deps (among (on (front ++ (s, k) ∷ [])))
    (each front (among (on (front ++ (s, k) ∷ []))) (λ x e. e) back h)
  where
    each : (front : List (ℕ × ℕ)) (all : ℕ → Bool) → ((x : ℕ) → among (on (front ++ (s, k) ∷ [])) x
        ≡ true → all x ≡ true)
        → all t ≡ true → IsPath deps order (front ++ (s, k) ∷ []) → (x : ℕ)
        → among (on (front ++ (s, k) ∷ [])) x ≡ true
        → list_any all (deps x) ≡ true
    each [] all within back h x e = elim (among_push [] s x e) [
      | inl none ↦ absurd (true≢false (sym none))
      | inr same ↦ let P : ℕ → Type 0 = λ z. list_any all (deps z) ≡ true in
          subst P same (any_at all (deps s) k t next back)
    ]
    each (p ∷ []) all within back h x e = elim (or_cases (p.0 == x) (among (on ((s, k) ∷ [])) x) e) [
      | inl same ↦
          let P : ℕ → Type 0 = λ z. list_any all (deps z) ≡ true in
          subst P (eqb-true p.0 x same)
          (any_at all (deps p.0) p.1 s h.1 (within s (or_right (p.0 == s) (among (s ∷ []) s)
          (among_end [] s))))
      | inr there ↦ each [] all (λ y m. within y (or_right (p.0 == y) (among (s ∷ []) y) m)) back
          h.2 x there
    ]
    each (p ∷ q ∷ front) all within back h x e =
        elim (or_cases (p.0 == x) (among (on ((q ∷ front) ++ (s, k) ∷ [])) x) e) [
          | inl same ↦
              let P : ℕ → Type 0 = λ z. list_any all (deps z) ≡ true in
              subst P (eqb-true p.0 x same)
              (any_at all (deps p.0) p.1 q.0 h.1
              (within q.0 (or_right (p.0 == q.0) (among (on ((q ∷ front) ++ (s, k) ∷ [])) q.0)
              (rw (eq-eqb q.0 q.0 refl) refl))))
          | inr there ↦ each (q ∷ front) all
              (λ y m. within y (or_right (p.0 == y) (among (on ((q ∷ front) ++ (s, k) ∷ [])) y) m)) back
              h.2 x there
        ]

-- how much is left to do: for a node that was not begun its dependencies and two, for a node of the
-- path what is left
-- of its dependencies and one
abbrev pub fresh_work : (ℕ → List ℕ) → List Stage → ℕ → ℕ
fresh_work deps stages zero = 0
fresh_work deps stages (suc n) = fresh_work deps stages n + cond (is_fresh (stage_at stages n))
    (length (deps n) + 2) 0

abbrev pub path_work : (ℕ → List ℕ) → List (ℕ × ℕ) → ℕ
path_work deps path = sum_by (λ (p : ℕ × ℕ). (length (deps p.0) - p.1) + 1) path

fresh_less : (deps : ℕ → List ℕ) (stages : List Stage) (t : ℕ) (to : Stage) (n : ℕ)
    → t < length stages → is_fresh to ≡ false → n ≤ t → fresh_work deps (set stages t to) n
    ≡ fresh_work deps stages n
fresh_less deps stages t to zero room begun past = refl
fresh_less deps stages t to (suc n) room begun past =
    let before : fresh_work deps (set stages t to) n ≡ fresh_work deps stages n =
    fresh_less deps stages t to n room begun (omega arith) in
    let other : n ≡ t → ⊥ = λ e. absurd (omega arith) in
    rw (before, sym (stage_other stages t n to other)) refl

-- a node that is begun takes its dependencies and two from the work
pub fresh_begun : (deps : ℕ → List ℕ) (stages : List Stage) (t : ℕ) (to : Stage) (n : ℕ)
    → t < length stages → is_fresh to ≡ false
    → stage_at stages t ≡ Fresh → t < n → fresh_work deps (set stages t to) n
    + (length (deps t) + 2) ≡ fresh_work deps stages n
fresh_begun deps stages t to zero room begun fresh inside = absurd (omega arith)
fresh_begun deps stages t to (suc n) room begun fresh inside = elim (cases_eq n t) [
  | inl same ↦ here n same
  | inr other ↦ there n other (fresh_begun deps stages t to n room begun fresh
      (omega (arith, other)))
]
  where
    here : (n : ℕ) → n ≡ t
        → fresh_work deps (set stages t to) n
        + cond (is_fresh (stage_at (set stages t to) n)) (length (deps n) + 2) 0
        + (length (deps t) + 2)
        ≡ fresh_work deps stages n + cond (is_fresh (stage_at stages n)) (length (deps n) + 2) 0
    here n same = rw (
      same,
      stage_same stages t t to room refl,
      begun,
      fresh,
      fresh_less deps stages
          t to t room begun (omega arith),
    ) (omega arith)

    there : (n : ℕ) → (n ≡ t → ⊥) → fresh_work deps (set stages t to) n + (length (deps t) + 2)
        ≡ fresh_work deps stages n
        → fresh_work deps (set stages t to) n
        + cond (is_fresh (stage_at (set stages t to) n)) (length (deps n) + 2) 0
        + (length (deps t) + 2)
        ≡ fresh_work deps stages n + cond (is_fresh (stage_at stages n)) (length (deps n) + 2) 0
    there n other e = rw (sym (stage_other stages t n to other)) (omega (arith, e))

-- a node that was begun before leaves the work
pub fresh_done : (deps : ℕ → List ℕ) (stages : List Stage) (t : ℕ) (to : Stage) (n : ℕ)
    → t < length stages → is_fresh to ≡ false
    → is_fresh (stage_at stages t) ≡ false → fresh_work deps (set stages t to) n
    ≡ fresh_work deps stages n
fresh_done deps stages t to zero room begun old = refl
fresh_done deps stages t to (suc n) room begun old =
    rw (fresh_done deps stages t to n room begun old) (ap (λ b. fresh_work deps stages n
    + cond b (length (deps n) + 2) 0) (elim (cases_eq n t) [
      | inl same ↦ rw (stage_same stages t n to room same, begun, same, old) refl
      | inr other ↦ ap is_fresh (sym (stage_other stages t n to other))
    ]))
