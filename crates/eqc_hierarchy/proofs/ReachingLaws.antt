-- The list of the models that a main model reaches: what its steps keep, and that it has them all
-- in the end.
use Rattle.std.proofs.Common.{
  ◌==◌,
  ◌≡◌,
  ℕ,
  zero,
  suc,
  ◌+◌,
  ◌<◌,
  ◌≤◌,
  ◌⊎◌,
  inl,
  inr,
  Bool,
  true,
  false,
  not,
  List,
  [],
  ◌∷◌,
  ◌++◌,
  length,
  get_or,
  set,
  replicate,
  cond,
  map,
  take,
  refl,
  sym,
  ◌∙◌,
  ap,
  subst,
  arith,
  nat_lt,
}
use Rattle.std.specs.List.{list_all, flat_map, count_by}
use Rattle.std.specs.Str.{bytes_eq}
use Rattle.std.proofs.lemmas.Bool.{cases_eq, cases_lt, true≢false, false≢true, lt-ltb, ltb-true}
use Rattle.std.proofs.lemmas.Bool.{and_from}
use Rattle.std.proofs.lemmas.List.{
  get_or-set_same,
  get_or-set_other,
  take_more,
  length-set,
  length_push,
  get_or-replicate,
  get_or_past,
  length-replicate,
  get_or_append_left,
  get_or_at,
  get_or_default,
}
use Rattle.std.proofs.lemmas.List.Sums.{sum_by-set, prefix_len-le-length}
use Rattle.std.proofs.lemmas.List.Folds.{sum_by-replicate}
use Rattle.eqc_blif.specs.Netlist.{ModelOf, InstanceOf}
use Rattle.eqc_netlist.specs.Dependency.{among}
use Rattle.eqc_hierarchy.specs.Hierarchy.{model, model_number, callees, reached_within, reached}
use Rattle.eqc_hierarchy.specs.Searching.{IsClosed}
use Rattle.eqc_hierarchy.specs.Reaching.{IsReaching, IsAdding}
use Rattle.eqc_netlist.proofs.Depth.{all_more, or_right, among_cases}
use Rattle.eqc_netlist.proofs.Orders.{all_push, all_among, among_left, among_end}
use Rattle.eqc_netlist.proofs.Members.{same_test, among_at, at_among, among_head, among_here}
use Rattle.eqc_netlist.proofs.Members.{among_other, among_flat, flat_among, all_members, among_get}

-- ---- callees

all_numbers : (library : List ModelOf) (instances : List InstanceOf)
    → list_all (λ t. nat_lt t (length library + 1)) (map (λ (i : InstanceOf). model_number library
    i.model) instances) ≡ true
all_numbers library [] = refl
all_numbers library (i ∷ instances) =
    and_from (nat_lt (model_number library i.model) (length library + 1))
    (list_all (λ t. nat_lt t (length library + 1))
    (map (λ (i : InstanceOf). model_number library i.model) instances))
    (lt-ltb (model_number library i.model) (length library + 1)
    (omega (
      arith,
      prefix_len-le-length (λ (m : ModelOf). not (bytes_eq i.model m.name))
          library,
    )))
    (all_numbers library instances)

-- each callee is at most the number of models
pub callee_within : (library : List ModelOf) (m t : ℕ) → among (callees library m) t ≡ true
    → t < length library + 1
unfolding callees
callee_within library m t e =
    ltb-true t (length library + 1)
    (all_among (λ t. nat_lt t (length library + 1)) (map (λ (i : InstanceOf). model_number library
    i.model) (model library m).instances)
    t (all_numbers library (model library m).instances) e)

pub calls_closed : (library : List ModelOf) → IsClosed (callees library) (length library + 1)
calls_closed library = λ s k t inside e. callee_within library s t (among_get (callees library s) k
    t e)

-- ---- reached within more instances

pub reached_more : (library : List ModelOf) (top n m : ℕ) → among (reached_within library top n) m
    ≡ true → among (reached_within library top (suc n)) m ≡ true
unfolding reached_within
reached_more library top zero m e = elim (among_cases top [] m e) [
  | inl same ↦ among_here top (flat_map (callees library) (top ∷ [])) m same
  | inr none ↦ absurd (true≢false (sym none))
]
reached_more library top (suc n) m e =
    elim (among_cases top (flat_map (callees library) (reached_within library top n)) m e) [
      | inl same ↦ among_here top (flat_map (callees library) (top ∷ flat_map (callees library)
          (reached_within library top n))) m same
      | inr there ↦
          let w = flat_among (callees library) (reached_within library top n) m there in
          or_right (top == m) (among (flat_map (callees library) (reached_within library top (suc n)))
          m)
          (among_flat (callees library) (reached_within library top (suc n)) w.0 m
          (reached_more library top n w.0 w.1) w.2)
    ]

-- a callee of a model that is reached
pub reached_next : (library : List ModelOf) (top n m t : ℕ) → among (reached_within library top n) m
    ≡ true → among (callees library m) t ≡ true → among (reached_within library top (suc n)) t
    ≡ true
unfolding reached_within
reached_next library top n m t e h =
    or_right (top == t) (among (flat_map (callees library) (reached_within library top n)) t)
    (among_flat (callees library) (reached_within library top n) m t e h)

pub reached_below : (library : List ModelOf) (top i n m : ℕ) → i ≤ n
    → among (reached_within library top i) m ≡ true → among (reached_within library top n) m ≡ true
reached_below library top i zero m le e = let P : ℕ → Type 0 =
    λ x. among (reached_within library top x) m ≡ true in let same : i ≡ 0 = omega arith in
    subst P same e
reached_below library top i (suc n) m le e = elim (cases_eq i (suc n)) [
  | inl same ↦ let P : ℕ → Type 0 = λ x. among (reached_within library top x) m ≡ true in
      subst P same e
  | inr other ↦ reached_more library top n m (reached_below library top i n m (omega arith) e)
]

-- ---- the list grows

count_false : (n : ℕ) → count_by not (replicate n false) ≡ n
count_false n = omega (arith, sum_by-replicate (λ x. cond (not x) 1 0) n false)

-- one that wasn't seen is seen
count_seen : (seen : List Bool) (t : ℕ) → t < length seen → get_or seen t false ≡ false
    → count_by not (set seen t true) + 1 ≡ count_by not seen
count_seen seen t room unseen = omega (
  arith,
  sum_by-set (λ x. cond (not x) 1 0) seen t true false
      room,
  one,
)
  where
    one : ◌≡◌ {A = ℕ} (cond (not (get_or seen t false)) 1 0) 1
    one = ap (λ x. cond (not x) 1 0) unseen

-- the list begins with the main model
pub reach_start : (library : List ModelOf) (top n : ℕ) (seen : List Bool) (all : List ℕ) → top < n
    → seen ≡ set (replicate n false) top true → all ≡ top ∷ [] → IsReaching library top n seen all 0
unfolding reached_within
reach_start library top n seen all inside is one = rw (is, one) start
  where
    room : top < length (replicate n false)
    room = omega (arith, length-replicate n false)

    same : (m : ℕ) → among (top ∷ []) m ≡ get_or (set (replicate n false) top true) m false
    same m = elim (cases_eq m top) [
      | inl here ↦ rw here (among_head top []
          ∙ sym (get_or-set_same (replicate n false) top true false room))
      | inr other ↦ among_other [] top m (λ e. other (sym e))
          ∙ sym (get_or-set_other (replicate n false) top m true false other ∙ unset m (cases_lt m n))
    ]
      where
        unset : (m : ℕ) → (m < n) ⊎ (n ≤ m) → get_or (replicate n false) m false ≡ false
        unset m (inl h) = get_or-replicate n m false false h
        unset m (inr h) = get_or_past (replicate n false) m false
            (omega (arith, length-replicate n false))

    origin : (i : ℕ) → i < length (top ∷ [])
        → among (reached_within library top i) (get_or (top ∷ []) i 0) ≡ true
    origin zero h = among_head top []
    origin (suc i) h = absurd (omega arith)

    start : IsReaching library top n (set (replicate n false) top true) (top ∷ []) 0
    start = record {
      size = length-set (replicate n false) top true ∙ length-replicate n false;
      counted = omega (
        arith,
        count_false n,
        count_seen (replicate n false) top room
            (get_or-replicate n top false false inside),
      );
      same = same;
      begun = among_head top [];
      origin = origin;
      within = omega arith;
      closed = λ i h. absurd (omega arith);
    }

-- a callee of the model at place k that wasn't seen
reach_more : (library : List ModelOf) (top n : ℕ) (seen : List Bool) (all : List ℕ) (k t : ℕ)
    → IsReaching library top n seen all k → k < length all
    → among (callees library (get_or all k 0)) t ≡ true
    → get_or seen t false ≡ false → t < n → IsReaching library top n (set seen t true) (all ++ t
    ∷ []) k
reach_more library top n seen all k t h inside called unseen small = record {
  size = length-set seen t true ∙ h.size;
  counted = omega (arith, h.counted, length_push all t, count_seen seen t room unseen);
  same = λ m. elim (cases_eq m t) [
    | inl here ↦ rw here (among_end all t ∙ sym (get_or-set_same seen t true false room))
    | inr other ↦ among_other all t m (λ e. other (sym e))
        ∙ (h.same m ∙ sym (get_or-set_other seen t m true false other))
  ];
  begun = among_left all (t ∷ []) top h.begun;
  origin = λ i lt. elim (cases_lt i (length all)) [
    | inl old ↦ rw (get_or_append_left all (t ∷ []) 0 i old) (h.origin i old)
    | inr new ↦
        let at : length all ≡ i = omega (arith, length_push all t) in
        rw (get_or_at all t [] 0 i at)
        (reached_below library top (suc k) i t (omega arith)
        (reached_next library top k (get_or all k 0) t (h.origin k inside) called))
  ];
  within = omega (arith, h.within, length_push all t);
  closed = λ i lt.
      let old : i < length all = omega arith in
      rw (get_or_append_left all (t ∷ []) 0 i old)
      (all_more (among all) (among (all ++ t ∷ [])) (callees library (get_or all i 0))
      (λ x e. among_left all (t ∷ []) x e)
      (h.closed i lt));
}
  where
    room : t < length seen
    room = omega (arith, h.size)

pub adding_begin : (library : List ModelOf) (top n : ℕ) (seen : List Bool) (all : List ℕ) (k m : ℕ)
    → IsReaching library top n seen all k → k < length all → m ≡ get_or all k m
    → IsAdding library top n seen all k m []
adding_begin library top n seen all k m h inside is = record {
  reaching = h;
  inside = inside;
  here = read all k m inside is;
  added = refl;
}
  where
    read : (xs : List ℕ) (k x : ℕ) → k < length xs → x ≡ get_or xs k x → get_or xs k 0 ≡ x
    read [] k x h e = absurd (omega arith)
    read (y ∷ xs) zero x h e = sym e
    read (y ∷ xs) (suc k) x h e = read xs k x (omega arith) e

-- a callee that was seen
pub adding_skip : (library : List ModelOf) (top n : ℕ) (seen : List Bool) (all : List ℕ) (k m : ℕ)
    (done : List ℕ) (t : ℕ)
    → IsAdding library top n seen all k m done → get_or seen t false ≡ true
    → IsAdding library top n seen all k m (done ++ t ∷ [])
adding_skip library top n seen all k m done t h old = record {
  reaching = h.reaching;
  inside = h.inside;
  here = h.here;
  added = all_push (among all) done t h.added (h.reaching.same t ∙ old);
}

-- a callee that wasn't seen
pub adding_more : (library : List ModelOf) (top n : ℕ) (seen : List Bool) (all : List ℕ) (k m : ℕ)
    (done : List ℕ) (t : ℕ)
    → IsAdding library top n seen all k m done → among (callees library m) t ≡ true
    → get_or seen t false ≡ false → t < n
    → IsAdding library top n (set seen t true) (all ++ t ∷ []) k m (done ++ t ∷ [])
adding_more library top n seen all k m done t h called new small = record {
  reaching = reach_more library top n seen all k t h.reaching h.inside (rw h.here called) new small;
  inside = omega (arith, h.inside, length_push all t);
  here = get_or_append_left all (t ∷ []) 0 k h.inside ∙ h.here;
  added = all_push (among (all ++ t ∷ [])) done t (all_more (among all) (among (all ++ t ∷ [])) done
      (λ x e. among_left all (t ∷ []) x e) h.added) (among_end all t);
}

-- all callees of the model at place k were looked at
pub adding_done : (library : List ModelOf) (top n : ℕ) (seen : List Bool) (all : List ℕ) (k m : ℕ)
    (done : List ℕ)
    → IsAdding library top n seen all k m done → done ≡ callees library m
    → IsReaching library top n seen all (k + 1)
adding_done library top n seen all k m done h is = record {
  size = h.reaching.size;
  counted = h.reaching.counted;
  same = h.reaching.same;
  begun = h.reaching.begun;
  origin = h.reaching.origin;
  within = omega (arith, h.inside);
  closed = λ i lt. elim (cases_eq i k) [
    | inl same ↦ rw (same, h.here) (rw is at h.added)
    | inr other ↦ h.reaching.closed i (omega arith)
  ];
}

-- ---- the list in the end

reached_all : (library : List ModelOf) (top n : ℕ) (seen : List Bool) (all : List ℕ) (k : ℕ)
    → IsReaching library top n seen all k
    → length all ≤ k → (d m : ℕ) → among (reached_within library top d) m ≡ true
    → among all m ≡ true
unfolding reached_within
reached_all library top n seen all k h end zero m e = elim (among_cases top [] m e) [
  | inl same ↦ let P : ℕ → Type 0 = λ x. among all x ≡ true in subst P same h.begun
  | inr none ↦ absurd (true≢false (sym none))
]
reached_all library top n seen all k h end (suc d) m e =
    elim (among_cases top (flat_map (callees library) (reached_within library top d)) m e) [
      | inl same ↦ let P : ℕ → Type 0 = λ x. among all x ≡ true in subst P same h.begun
      | inr there ↦
          let w = flat_among (callees library) (reached_within library top d) m there in
          let at = at_among all w.0 (reached_all library top n seen all k h end d w.0 w.1) in
          let P : ℕ → Type 0 = λ x. list_all (among all) (callees library x) ≡ true in
          all_among (among all) (callees library w.0) m
          (subst P at.2 (h.closed at.0 (omega (arith, at.1)))) w.2
    ]

-- the list has the models that the main model reaches
pub reach_end : (library : List ModelOf) (top : ℕ) (seen : List Bool) (all : List ℕ) (k : ℕ)
    → IsReaching library top (length library + 1) seen all k → length all ≤ k → (m : ℕ)
    → among all m ≡ among (reached library top) m
reach_end library top seen all k h end = λ m.
    same_test (among all m) (among (reached library top) m)
    (λ e. let at = at_among all m e in
    let P : ℕ → Type 0 = λ x. among (reached library top) x ≡ true in
    subst P at.2 (reached_below library top at.0 (length library) (get_or all at.0 0)
    (omega (arith, at.1, h.counted)) (h.origin at.0 at.1)))
    (reached_all library top (length library + 1) seen all k h end (length library) m)

-- each model of the list is one of n
pub reach_within : (library : List ModelOf) (top n : ℕ) (seen : List Bool) (all : List ℕ) (k : ℕ)
    → IsReaching library top n seen all k → list_all (λ m. nat_lt m n) all ≡ true
reach_within library top n seen all k h =
    all_members (λ m. nat_lt m n) all (λ m e. lt-ltb m n (elim (cases_lt m n) [
      | inl inside ↦ inside
      | inr past ↦ absurd (false≢true (sym (get_or_past seen m false (omega (arith, h.size)))
          ∙ (sym (h.same m) ∙ e)))
    ]))

-- the model at a place of the list
pub reach_at : (library : List ModelOf) (top n : ℕ) (seen : List Bool) (all : List ℕ) (k m : ℕ)
    → IsAdding library top n seen all k m [] → m < n
reach_at library top n seen all k m h =
    let P : ℕ → Type 0 = λ x. among all x ≡ true in
    ltb-true m n (all_among (λ m. nat_lt m n) all m (reach_within library top n seen all k
    h.reaching) (subst P h.here (among_at all k h.inside)))

-- a callee of a model
pub callee_small : (library : List ModelOf) (m : ℕ) (items : List ℕ) (i : ℕ)
    → items ≡ callees library m → i < length items → get_or items i 0 < length library + 1
callee_small library m items i is inside = callee_within library m (get_or items i 0)
    (ap (λ l. among l (get_or items i 0)) (sym is) ∙ among_at items i inside)

-- what was read of those seen
read_seen : (seen : List Bool) (t : ℕ) (r : Bool) → t < length seen → r ≡ get_or seen t r
    → get_or seen t false ≡ r
read_seen seen t r inside is = get_or_default seen t false r inside ∙ sym is

-- the callee at a place was seen
pub adding_skip_at : (library : List ModelOf) (top : ℕ) (seen : List Bool) (all : List ℕ) (k m : ℕ)
    (items : List ℕ) (i : ℕ) (r : Bool)
    → IsAdding library top (length library + 1) seen all k m (take i items)
    → items ≡ callees library m → i < length items
    → r ≡ get_or seen (get_or items i 0) r → r ≡ true
    → IsAdding library top (length library + 1) seen all k m (take (i + 1) items)
adding_skip_at library top seen all k m items i r h is inside read old =
    let small = callee_small library m items i is inside in
    rw (take_more items i 0 inside)
    (adding_skip library top (length library + 1) seen all k m (take i items) (get_or items i 0) h
    (read_seen seen (get_or items i 0) r (omega (arith, small, h.reaching.size)) read ∙ old))

-- the callee at a place wasn't
pub adding_more_at : (library : List ModelOf) (top : ℕ) (seen seen2 : List Bool) (all all2 : List ℕ)
    (k m : ℕ) (items : List ℕ) (i : ℕ)
    (r : Bool) → IsAdding library top (length library + 1) seen all k m (take i items)
    → items ≡ callees library m
    → i < length items → r ≡ get_or seen (get_or items i 0) r → r ≡ false
    → seen2 ≡ set seen (get_or items i 0) true → all2 ≡ all ++ get_or items i 0 ∷ []
    → IsAdding library top (length library + 1) seen2 all2 k m (take (i + 1) items)
adding_more_at library top seen seen2 all all2 k m items i r h is inside read new marked grown =
    let small = callee_small library m items i is inside in
    let called : among (callees library m) (get_or items i 0) ≡ true =
    ap (λ l. among l (get_or items i 0)) (sym is) ∙ among_at items i inside in
    rw (marked, grown, take_more items i 0 inside)
    (adding_more library top (length library + 1) seen all k m (take i items) (get_or items i 0) h
    called
    (read_seen seen (get_or items i 0) r (omega (arith, small, h.reaching.size)) read ∙ new) small)
