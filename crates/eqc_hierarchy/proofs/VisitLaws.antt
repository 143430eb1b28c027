-- A search from a root, step by step: by the last of its path.
use Rattle.std.proofs.Common.{
  ◌==◌,
  ◌≡◌,
  ℕ,
  Bool,
  zero,
  suc,
  ◌+◌,
  ◌-◌,
  ◌<◌,
  ◌≤◌,
  inl,
  inr,
  true,
  false,
  not,
  ◌&&◌,
  List,
  [],
  ◌∷◌,
  ◌++◌,
  length,
  take,
  set,
  get_or,
  refl,
  sym,
  ◌∙◌,
  ap,
  subst,
  arith,
  Some,
  None,
  nat_lt,
}
use Rattle.std.specs.Prelude.{Contains}
use Rattle.std.specs.List.{slice_get}
use Rattle.std.proofs.lemmas.Bool.{and_parts, ltb-true, not-true, true≢false, cases_lt, or_left}
use Rattle.std.proofs.lemmas.Bool.{eq-eqb}
use Rattle.std.proofs.lemmas.List.{take_all, take_more, get_or_read_under, get_or_push}
use Rattle.std.proofs.lemmas.List.{get_or_append_left, set_at, length_push, nil_from_length}
use Rattle.std.proofs.lemmas.List.Sums.{sum_by_push}
use Rattle.std.proofs.lemmas.Option.{slice_get_within, slice_get-get_or, get_or_from_slice_get}
use Rattle.eqc_netlist.specs.Dependency.{among, ends_within}
use Rattle.eqc_hierarchy.specs.declared.search.Stage.{Stage}
use Rattle.eqc_hierarchy.specs.declared.search.Stage.TheVariants.{Fresh, Open, Done}
use Rattle.eqc_hierarchy.specs.Walks.{IsWalk, WalksBack}
use Rattle.eqc_netlist.proofs.Members.{at_among}
use Rattle.eqc_hierarchy.specs.Searching.{is_fresh, stage_at, IsPath, on, IsSearch, IsRooted}
use Rattle.eqc_hierarchy.specs.Searching.{IsVisit}
use Rattle.eqc_netlist.proofs.Orders.{all_last, among_left, among_end}
use Rattle.eqc_hierarchy.proofs.SearchLaws as steps
use Rattle.eqc_hierarchy.proofs.SearchLaws.{fresh_work, path_work, fresh_begun, fresh_done, on_push}
use Rattle.eqc_hierarchy.proofs.SearchLaws.{path_push, circle}

-- a list that has a last element
pub split_last : (path : List (ℕ × ℕ)) (n : ℕ) (p : ℕ × ℕ) → n ≡ length path → 0 < n
    → p ≡ get_or path (n - 1) p → path ≡ take (n - 1) path ++ p ∷ []
split_last path n p size some e =
    let here : p ≡ get_or path (n - 1) (0, 0) = get_or_read_under path (n - 1) n p (0, 0) e
    (omega arith) size in
    let one : n - 1 + 1 ≡ n = omega arith in
    let all : take (n - 1 + 1) path ≡ path = rw one (take_all n path (omega arith)) in
    sym all ∙ (take_more path (n - 1) (0, 0) (omega arith)
    ∙ ap (λ q. take (n - 1) path ++ q ∷ []) (sym here))

-- the same, of a path that a test found not to be empty
pub split_top : (path : List (ℕ × ℕ)) (n : ℕ) (p : ℕ × ℕ) (len : ℕ) (empty : Bool)
    → len ≡ length path → n ≡ len
    → empty ≡ (len == 0) → empty ≡ false → p ≡ get_or path (n - 1) p → path ≡ take (n - 1) path ++ p
    ∷ []
split_top path n p len empty long count tested some e = split_last path n p (count
    ∙ long) (rw count (some_left len (sym tested ∙ some))) e
  where
    some_left : (k : ℕ) → (k == 0) ≡ false → 0 < k
    some_left zero none = cc
    some_left (suc k) none = omega arith

-- what is on the path is a node that was begun
here : (deps : ℕ → List ℕ) (n : ℕ) (stages : List Stage) (front : List (ℕ × ℕ)) (order : List ℕ)
    (p : ℕ × ℕ)
    → IsSearch deps n stages (front ++ p ∷ []) order → (nat_lt p.0 n ≡ true)
    × (not (is_fresh (stage_at stages p.0)) ≡ true)
here deps n stages front order p h =
    and_parts (nat_lt p.0 n) (not (is_fresh (stage_at stages p.0)))
    (all_last (λ s. nat_lt s n && not (is_fresh (stage_at stages s))) (on front) p.0
    (rw (on_push front p.0 p.1) at h.path_begun))

pub node_within : (deps : ℕ → List ℕ) (n root : ℕ) (begun : List ℕ) (stages : List Stage)
    (path front : List (ℕ × ℕ)) (order : List ℕ)
    (p : ℕ × ℕ) → IsVisit deps n root begun stages path order → path ≡ front ++ p ∷ [] → p.0 < n
node_within deps n root begun stages path front order p h split =
    let P : List (ℕ × ℕ) → Type 0 = λ x. IsSearch deps n stages x order in
    ltb-true p.0 n ((here deps n stages front order p (subst P split h.searching)).0)

none_past : (xs : List ℕ) (k : ℕ) → slice_get xs k ≡ None → length xs ≤ k
none_past xs k e = elim (cases_lt k (length xs)) [
  | inl less ↦ absurd (let there : slice_get xs k
      ≡ Some (get_or xs k 0) = slice_get-get_or xs k 0 less in cc)
  | inr past ↦ past
]

-- a first visit of a root
pub visit_root : (deps : ℕ → List ℕ) (n root : ℕ) (begun : List ℕ) (stages now : List Stage)
    (order : List ℕ) (path : List (ℕ × ℕ))
    → IsSearch deps n stages [] begun → root < n → (stage_at stages root ≡ Done → ⊥)
    → now ≡ set stages root Open → order ≡ begun
    → path ≡ (root, 0) ∷ [] → IsVisit deps n root begun now path order
visit_root deps n root begun stages now order path h inside other e f p =
    rw (e, f, p) (record {
      searching = steps.enter deps n stages [] begun root h inside fresh refl;
      rooted = refl;
      kept = λ s k. k;
    })
  where
    by_stage : (at : Stage) → stage_at stages root ≡ at → at ≡ Fresh
    by_stage Fresh is = refl
    by_stage Open is = absurd (true≢false (sym (h.open_on_path root is)))
    by_stage Done is = absurd (other is)

    fresh : stage_at stages root ≡ Fresh
    fresh = by_stage (stage_at stages root) refl

-- the last of the path goes to the order
pub visit_leave : (deps : ℕ → List ℕ) (n root : ℕ) (begun : List ℕ) (stages now : List Stage)
    (path front left : List (ℕ × ℕ))
    (order more : List ℕ) (p : ℕ × ℕ) → IsVisit deps n root begun stages path order
    → path ≡ front ++ p ∷ []
    → slice_get (deps p.0) p.1 ≡ None → now ≡ set stages p.0 Done → left ≡ front
    → more ≡ order ++ p.0 ∷ []
    → IsVisit deps n root begun now left more
visit_leave deps n root begun stages now path front left order more p h split none e f m =
    let P : List (ℕ × ℕ) → Type 0 = λ x. IsSearch deps n stages x order in
    let R : List (ℕ × ℕ) → Type 0 = λ x. IsRooted root x order in
    rw (e, f, m) (record {
      searching = steps.leave deps n stages front order p.0 p.1 (subst P split h.searching)
          (none_past (deps p.0) p.1 none);
      rooted = rooted front (subst R split h.rooted);
      kept = λ s k. among_left order (p.0 ∷ []) s (h.kept s k);
    })
  where
    rooted : (front : List (ℕ × ℕ)) → IsRooted root (front ++ p ∷ []) order
        → IsRooted root front (order ++ p.0 ∷ [])
    rooted [] r = rw (sym r) (among_end order p.0)
    rooted (q ∷ front) r = r

-- a node that was not begun goes onto the path
pub visit_enter : (deps : ℕ → List ℕ) (n root : ℕ) (begun : List ℕ) (stages now : List Stage)
    (path front longer : List (ℕ × ℕ))
    (order same : List ℕ) (p : ℕ × ℕ) (t : ℕ) → IsVisit deps n root begun stages path order
    → path ≡ front ++ p ∷ []
    → slice_get (deps p.0) p.1 ≡ Some t → t < n → stage_at stages t ≡ Fresh
    → now ≡ set stages t Open
    → longer ≡ path ++ (t, 0) ∷ [] → same ≡ order → IsVisit deps n root begun now longer same
visit_enter deps n root begun stages now path front longer order same p t h split next inside fresh
    e f m =
    let P : List (ℕ × ℕ) → Type 0 = λ x. IsPath deps order x in
    rw (e, f, m) (record {
      searching =
          steps.enter deps n stages path order t h.searching inside fresh
          (let Q : List (ℕ × ℕ) → Type 0 = λ x. IsPath deps order (x ++ (t, 0) ∷ []) in
          subst Q (sym split) (path_push deps order front p.0 p.1 t next
          (subst P split h.searching.chain)));
      rooted = rooted path h.rooted split;
      kept = h.kept;
    })
  where
    rooted : (path : List (ℕ × ℕ)) → IsRooted root path order → path ≡ front ++ p ∷ []
        → IsRooted root (path ++ (t, 0) ∷ []) order
    rooted [] r e = absurd (let long : length (front ++ p ∷ []) ≡ length front + 1 =
        length_push front p in let none : 0 ≡ length (front ++ p ∷ []) = ap length e in omega arith)
    rooted (q ∷ path) r e = r

-- the last of the path goes on to its next dependency
pub visit_advance : (deps : ℕ → List ℕ) (n root : ℕ) (begun : List ℕ) (stages : List Stage)
    (path front : List (ℕ × ℕ)) (order : List ℕ)
    (p : ℕ × ℕ) (t : ℕ) → IsVisit deps n root begun stages path order → path ≡ front ++ p ∷ []
    → slice_get (deps p.0) p.1 ≡ Some t
    → stage_at stages t ≡ Done → (i : ℕ) → length front ≡ i
    → IsVisit deps n root begun stages (set path i (p.0, p.1 + 1)) order
visit_advance deps n root begun stages path front order p t h split next done i at =
    let P : List (ℕ × ℕ) → Type 0 = λ x. IsSearch deps n stages x order in
    let R : List (ℕ × ℕ) → Type 0 = λ x. IsRooted root x order in
    rw (split, set_at front p [] (p.0, p.1 + 1) i at) (record {
      searching = steps.advance deps n stages front order p.0 p.1 t (subst P split h.searching) next
          done;
      rooted = rooted front (subst R split h.rooted);
      kept = h.kept;
    })
  where
    rooted : (front : List (ℕ × ℕ)) → IsRooted root (front ++ p ∷ []) order
        → IsRooted root (front ++ (p.0, p.1 + 1) ∷ []) order
    rooted [] r = r
    rooted (q ∷ front) r = r

-- a dependency that is on the path is a circle through the root
pub visit_circle : (deps : ℕ → List ℕ) (n root : ℕ) (begun : List ℕ) (stages : List Stage)
    (path front : List (ℕ × ℕ)) (order : List ℕ)
    (p : ℕ × ℕ) (t : ℕ) → IsVisit deps n root begun stages path order → path ≡ front ++ p ∷ []
    → slice_get (deps p.0) p.1 ≡ Some t
    → stage_at stages t ≡ Open → (some : ℕ) → ends_within deps some root ≡ false
visit_circle deps n root begun stages path front order p t h split next open_ some =
    let P : List (ℕ × ℕ) → Type 0 = λ x. IsSearch deps n stages x order in
    let R : List (ℕ × ℕ) → Type 0 = λ x. IsRooted root x order in
    let now : IsSearch deps n stages (front ++ p ∷ []) order = subst P split h.searching in
    circle deps order front p.0 p.1 t now.chain next (now.open_on_path t open_) some root
    (first front (subst R split h.rooted))
  where
    first : (front : List (ℕ × ℕ)) → IsRooted root (front ++ p ∷ []) order
        → among (on (front ++ p ∷ [])) root ≡ true
    first [] r = or_left (p.0 == root) false (eq-eqb p.0 root r)
    first (q ∷ front) r = or_left (q.0 == root) (among (on (front ++ p ∷ [])) root)
        (eq-eqb q.0 root r)

-- each step leaves less to do
pub less_leave : (deps : ℕ → List ℕ) (n root : ℕ) (begun : List ℕ) (stages now : List Stage)
    (path front left : List (ℕ × ℕ))
    (order : List ℕ) (p : ℕ × ℕ) → IsVisit deps n root begun stages path order → path ≡ front ++ p
    ∷ []
    → now ≡ set stages p.0 Done → left ≡ front
    → fresh_work deps now n + path_work deps left < fresh_work deps stages n + path_work deps path
less_leave deps n root begun stages now path front left order p h split e f =
    let P : List (ℕ × ℕ) → Type 0 = λ x. IsSearch deps n stages x order in
    let both = here deps n stages front order p (subst P split h.searching) in
    rw (
      e,
      f,
      split,
      sum_by_push (λ (p : ℕ × ℕ). (length (deps p.0) - p.1) + 1) front p,
      fresh_done deps stages p.0 Done n (omega (arith, h.searching.size, ltb-true p.0 n both.0))
          refl
          (not-true (is_fresh (stage_at stages p.0)) both.1),
    ) (omega arith)

pub less_enter : (deps : ℕ → List ℕ) (n root : ℕ) (begun : List ℕ) (stages now : List Stage)
    (path longer : List (ℕ × ℕ)) (order : List ℕ)
    (t : ℕ) → IsVisit deps n root begun stages path order → t < n → stage_at stages t ≡ Fresh
    → now ≡ set stages t Open
    → longer ≡ path ++ (t, 0) ∷ []
    → fresh_work deps now n + path_work deps longer < fresh_work deps stages n + path_work deps path
less_enter deps n root begun stages now path longer order t h inside fresh e f =
    let less : fresh_work deps (set stages t Open) n + (length (deps t) + 2)
    ≡ fresh_work deps stages n =
    fresh_begun deps stages t Open n (omega (arith, h.searching.size)) refl fresh inside in
    rw (e, f, sum_by_push (λ (p : ℕ × ℕ). (length (deps p.0) - p.1) + 1) path (t, 0))
    (omega (arith, less))

pub less_advance : (deps : ℕ → List ℕ) (n : ℕ) (stages : List Stage) (path front : List (ℕ × ℕ))
    (p : ℕ × ℕ) (t : ℕ)
    → path ≡ front ++ p ∷ [] → slice_get (deps p.0) p.1 ≡ Some t → (i : ℕ) → length front ≡ i
    → fresh_work deps stages n + path_work deps (set path i (p.0, p.1 + 1)) < fresh_work deps stages
    n + path_work deps path
less_advance deps n stages path front p t split next i at =
    let inside : p.1 < length (deps p.0) = slice_get_within (deps p.0) p.1 t next in
    rw (
      split,
      set_at front p [] (p.0, p.1 + 1) i at,
      sum_by_push (λ (p : ℕ × ℕ). (length (deps p.0) - p.1) + 1) front p,
      sum_by_push (λ (p : ℕ × ℕ). (length (deps p.0) - p.1) + 1) front (p.0, p.1 + 1),
    ) (omega (arith, inside))

-- what is read at a place within is the stage there
pub read_stage : (stages : List Stage) (n t : ℕ) (r : Stage) → length stages ≡ n → t < n
    → r ≡ get_or stages t r → stage_at stages t ≡ r
read_stage stages n t r size inside e =
    sym (get_or_read_under stages t n r Fresh e inside (sym size))

-- a visit whose path is empty is over
pub visit_ended : (deps : ℕ → List ℕ) (n root : ℕ) (begun : List ℕ) (stages : List Stage)
    (path : List (ℕ × ℕ)) (order : List ℕ)
    → IsVisit deps n root begun stages path order → length path ≡ 0
    → IsSearch deps n stages [] order
visit_ended deps n root begun stages path order h none = let P : List (ℕ × ℕ) → Type 0 =
    λ x. IsSearch deps n stages x order in subst P (nil_from_length path none) h.searching

pub root_placed : (deps : ℕ → List ℕ) (n root : ℕ) (begun : List ℕ) (stages : List Stage)
    (path : List (ℕ × ℕ)) (order : List ℕ)
    → IsVisit deps n root begun stages path order → length path ≡ 0 → among order root ≡ true
root_placed deps n root begun stages path order h none = let P : List (ℕ × ℕ) → Type 0 =
    λ x. IsRooted root x order in subst P (nil_from_length path none) h.rooted

-- a dependency at a place is one of them
contained : (xs : List ℕ) (k t : ℕ) → slice_get xs k ≡ Some t → Contains xs t
contained xs k t e = (k, slice_get_within xs k t e, get_or_from_slice_get xs k t t e)

-- the nodes on a path, and a dependency of the last, are a walk
path_walk : (deps : ℕ → List ℕ) (order : List ℕ) (front : List (ℕ × ℕ)) (p : ℕ × ℕ) (t : ℕ)
    → IsPath deps order (front ++ p ∷ [])
    → slice_get (deps p.0) p.1 ≡ Some t → IsWalk deps (on (front ++ p ∷ []) ++ t ∷ [])
path_walk deps order [] p t h next = (contained (deps p.0) p.1 t next, tt)
path_walk deps order (q ∷ []) p t h next = (
  contained (deps q.0) q.1 p.0 h.1,
  path_walk deps order [] p t h.2 next,
)
path_walk deps order (q ∷ r ∷ front) p t h next = (
  contained (deps q.0) q.1 r.0 h.1,
  path_walk deps order (r ∷ front) p t h.2 next,
)

-- a dependency that is on the path ends a walk from the root that comes back
pub visit_walk : (deps : ℕ → List ℕ) (n root : ℕ) (begun : List ℕ) (stages : List Stage)
    (path front : List (ℕ × ℕ)) (order : List ℕ)
    (p : ℕ × ℕ) (t : ℕ) (trail : List ℕ) → IsVisit deps n root begun stages path order
    → path ≡ front ++ p ∷ []
    → slice_get (deps p.0) p.1 ≡ Some t → stage_at stages t ≡ Open → trail ≡ on path ++ t ∷ []
    → WalksBack deps root trail
visit_walk deps n root begun stages path front order p t trail h split next open_ made =
    let (j, inside, there) = at_among (on path) t (h.searching.open_on_path t open_) in
    let P : List (ℕ × ℕ) → Type 0 = λ x. IsPath deps order x in
    let Q : List (ℕ × ℕ) → Type 0 = λ x. IsWalk deps (on x ++ t ∷ []) in
    let R : List (ℕ × ℕ) → Type 0 = λ x. IsRooted root x order in
    let S : List (ℕ × ℕ) → Type 0 = λ x. get_or (on x ++ t ∷ []) 0 0 ≡ root in
    let size : length (on path ++ t ∷ []) ≡ length (on path) + 1 = length_push (on path) t in
    let last : get_or (on path ++ t ∷ []) (length (on path ++ t ∷ []) - 1) 0 ≡ t =
    get_or_push (on path) t 0 (length (on path ++ t ∷ []) - 1) (omega (arith, size)) in
    rw made (record {
      follows = subst Q (sym split) (path_walk deps order front p t
          (subst P split h.searching.chain) next);
      begins = subst S (sym split) (first front (subst R split h.rooted));
      back = (
        j,
        omega (arith, inside, size),
        get_or_append_left (on path) (t ∷ []) 0 j inside
            ∙ (there ∙ sym last),
      );
      once = λ i k less within same.
          h.searching.apart i k less (omega (arith, within, size))
          (sym (get_or_append_left (on path) (t ∷ []) 0 i (omega (arith, less, within, size)))
          ∙ (same ∙ get_or_append_left (on path) (t ∷ []) 0 k (omega (arith, within, size))));
    })
  where
    first : (front : List (ℕ × ℕ)) → IsRooted root (front ++ p ∷ []) order
        → get_or (on (front ++ p ∷ []) ++ t ∷ []) 0 0 ≡ root
    first [] r = r
    first (q ∷ front) r = r
