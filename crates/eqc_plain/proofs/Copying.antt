-- A copy of the nodes below a number stays one: which numbers are reached, in which order, and
-- their numbers in the copy.
use Rattle.std.proofs.Common.{◌≡◌, ℕ, zero, suc, ◌+◌, ◌-◌, ◌<◌, ◌≤◌, ◌⊎◌, Bool, cond, List, [], ◌∷◌}
use Rattle.std.proofs.Common.{◌++◌, length, get_or, nat_eq, refl, sym, ◌∙◌, ap, subst, arith, inl}
use Rattle.std.proofs.Common.{inr, length-append}
use Rattle.std.specs.Prelude.{Result, Ok, Err, IfOk, IfErr, OnErr}
use Rattle.std.proofs.lemmas.Bool.{cases_lt}
use Rattle.std.proofs.lemmas.Map.Steps.{length-le_from_distinct_below}
use Rattle.std.specs.List.{find, list_any, IsDistinct}
use Rattle.std.specs.List.Sorted.{IsNonDecreasingBy}
use Rattle.std.proofs.lemmas.List.{get_or_append_left, get_or-append-add}
use Rattle.eqc_tree.specs.Tree.{value}
use Rattle.eqc_tree.specs.declared.stopping.Stop.{Stop}
use Rattle.eqc_tree.specs.declared.stopping.Stop.TheVariants.{NodeLimit, Memory}
use Rattle.eqc_plain.specs.declared.store.Store.{Store}
use Rattle.eqc_plain.specs.Store.{tree_at, root, IsNode, holding_of}
use Rattle.eqc_tree.specs.Assigned.{assigned, assignments, DependsOnlyOn, IsSatisfiable}
use Rattle.eqc_tree.specs.Holding.{IsNew}
use Rattle.eqc_tree.proofs.FindLemmas.{find_same}
use Rattle.eqc_plain.specs.Extending.{Extends, holding_in}
use Rattle.eqc_plain.specs.Searching.{IsBranch}
use Rattle.eqc_plain.specs.Copying.{Has, HasChildren, Follows, AreReached, IsCopyOf, IsCopying}
use Rattle.eqc_plain.proofs.Growing.{before, grows_refl}
use Rattle.eqc_plain.proofs.Laws.{keeps_refl}
use Rattle.eqc_plain.proofs.Trees.{tree_at-zero, tree_at-one, tree_at-node, root-node}
use Rattle.eqc_plain.proofs.Trees.{root-constant}
use Rattle.eqc_plain.proofs.Slots.{place_of, has_place}

-- the children of the first n numbers are reached
abbrev pub AreFollowed : List ℕ → List ℕ → ℕ → Type 0
AreFollowed ws xs n = (k : ℕ) → k < n → 2 ≤ get_or xs k 0 → HasChildren ws xs (get_or xs k 0)

-- those of one more
pub followed_more : (ws old new : List ℕ) (k : ℕ) → k < length old
    → Follows ws old new (get_or old k 0) → AreFollowed ws old k → AreFollowed ws new (k + 1)
followed_more ws old new k h f all j less two =
    elim (cases_lt j k) [
      | inl below ↦
          let same = f.stays j (omega arith) in
          let c = all j below (rw same at two) in
          rw same (record { low = f.grows _ c.low; high = f.grows _ c.high })
      | inr past ↦
          let is : k ≡ j = omega arith in
          let same = f.stays k h in
          subst (λ i. HasChildren ws new (get_or new i 0)) is
          (rw same (f.children (rw same at (subst (λ i. 2 ≤ get_or new i 0) (sym is) two))))
    ]

-- all numbers are below n still
pub within_more : (ws old new : List ℕ) (x : ℕ) → Follows ws old new x → ((q : ℕ) → Has old q
    → q < length ws + 2) → (q : ℕ) → Has new q → q < length ws + 2
within_more ws old new x f all q h = elim (f.only q h) [ inl was ↦ all q was | inr less ↦ less ]

-- where the children of all are reached, so are those of each
pub children_of : (ws xs : List ℕ) → AreFollowed ws xs (length xs) → (x : ℕ) → Has xs x → 2 ≤ x
    → HasChildren ws xs x
children_of ws xs all x h two =
    let p = place_of xs x h in
    subst (λ y. HasChildren ws xs y) p.2 (all p.0 p.1 (subst (λ y. 2 ≤ y) (sym p.2) two))

-- numbers that are each reached once, with their children, in ascending order
pub sorted_reached : (ws old new : List ℕ) → Has old 0 → Has old 1 → ((q : ℕ) → Has old q
    → q < length ws + 2) → AreFollowed ws old (length old) → IsDistinct nat_eq old
    → length new ≡ length old → ((q : ℕ) → list_any (nat_eq q) new ≡ list_any (nat_eq q) old)
    → IsNonDecreasingBy (λ x. x) new → AreReached ws new
sorted_reached ws old new has_zero has_one within all distinct long same ascend = record {
  zero = same 0 ∙ has_zero;
  one = same 1 ∙ has_one;
  within = λ x h. within x (sym (same x) ∙ h);
  children = λ x h two.
      let c = children_of ws old all x (sym (same x) ∙ h) two in
      record { low = same _ ∙ c.low; high = same _ ∙ c.high };
  few = omega (arith, long, length-le_from_distinct_below old (length ws + 2) distinct within);
  ascend = λ i j le less. ascend i j 0 le less;
}

-- a copy grows with its store
pub copy_grows : (s c d : Store) (x m : ℕ) → Extends c d → IsCopyOf s c x m → IsCopyOf s d x m
copy_grows s c d x m e copy =
    let b = before c.nodes d.nodes e.grows in
    record {
      within = omega (arith, b.size, copy.within);
      starts = rw (e.variables, b.tree m copy.within) copy.starts;
      function = λ a. ap (λ t. value t a) (b.tree m copy.within) ∙ copy.function a;
    }

-- in ascending order a number below another stands before it
pub stands_before : (ws xs : List ℕ) (i j : ℕ) → AreReached ws xs → i < length xs → j < length xs
    → get_or xs i 0 < get_or xs j 0 → i < j
stands_before ws xs i j r hi hj less = elim (cases_lt i j) [
  | inl h ↦ h
  | inr past ↦
      absurd (omega (arith, r.ascend j i past hi))
]

-- before a node stand both constants
pub two_before : (ws xs : List ℕ) (k : ℕ) → AreReached ws xs → k < length xs → 2 ≤ get_or xs k 0
    → 2 ≤ k
two_before ws xs k r h two =
    let p = place_of xs 0 r.zero in
    let q = place_of xs 1 r.one in
    let before0 : p.0 < k = stands_before ws xs p.0 k r p.1 h (omega (arith, p.2)) in
    let before1 : q.0 < k = stands_before ws xs q.0 k r q.1 h (omega (arith, q.2)) in
    let order : p.0 < q.0 = stands_before ws xs p.0 q.0 r p.1 q.1 (omega (arith, p.2, q.2)) in
    omega arith

last_number : (ms : List ℕ) (m : ℕ) → get_or (ms ++ m ∷ []) (length ms) 0 ≡ m
last_number ms m = let z : length ms + 0 ≡ length ms = omega arith in
    subst (λ n. get_or (ms ++ m ∷ []) n 0 ≡ m) z (get_or-append-add ms (m ∷ []) 0 0)

-- one number more has its number in the copy
copied_more : (s c d : Store) (xs ms : List ℕ) (m : ℕ) → Extends c d → ((k : ℕ) → k < length ms
    → IsCopyOf s c (get_or xs k 0) (get_or ms k 0)) → IsCopyOf s d (get_or xs (length ms) 0) m
    → (k : ℕ) → k < length (ms ++ m ∷ []) → IsCopyOf s d (get_or xs k 0) (get_or (ms ++ m ∷ []) k 0)
copied_more s c d xs ms m e all new k h =
    elim (cases_lt k (length ms)) [
      | inl below ↦ rw (get_or_append_left ms (m ∷ []) 0 k below) (copy_grows s c d (get_or xs k 0)
          (get_or ms k 0) e (all k below))
      | inr past ↦
          let is : length ms ≡ k = omega (arith, length-append ms (m ∷ [])) in
          subst (λ i. IsCopyOf s d (get_or xs i 0) (get_or (ms ++ m ∷ []) i 0)) is
          (rw (last_number ms m) new)
    ]

-- a constant is its own copy
constant_copy : (s c : Store) (x : ℕ) → x < 2 → c.variables ≡ s.variables → IsCopyOf s c x x
constant_copy s c x low e = record {
  within = omega arith;
  starts = omega (
    arith,
    root-constant s.variables s.nodes x low,
    root-constant c.variables c.nodes
        x low,
  );
  function = λ a. ap (λ t. value t a) (constant_tree c.nodes s.nodes x low);
}
  where
    constant_tree : (us ws : List ℕ) (x : ℕ) → x < 2 → tree_at us x ≡ tree_at ws x
    constant_tree us ws zero h = tree_at-zero us ∙ sym (tree_at-zero ws)
    constant_tree us ws (suc zero) h = tree_at-one us ∙ sym (tree_at-one ws)
    constant_tree us ws (suc (suc x)) h = absurd (omega arith)

pub copies_constant : (s c : Store) (xs ms : List ℕ) → get_or xs (length ms) 0 < 2 → Extends c c
    → IsCopying s xs ms c → IsCopying s xs (ms ++ get_or xs (length ms) 0 ∷ []) c
copies_constant s c xs ms low same i = record {
  variables = i.variables;
  limit = i.limit;
  few = omega (arith, i.few, length-append ms (get_or xs (length ms) 0 ∷ []));
  copied = copied_more s c c xs ms (get_or xs (length ms) 0) same i.copied
      (constant_copy s c (get_or xs (length ms) 0) low i.variables);
}

branch_value : (b x y u v : Bool) → x ≡ u → y ≡ v → cond b x y ≡ cond b u v
branch_value b x y u v e d = rw (e, d) refl

-- a node whose children have their numbers gets its own
pub copies_node : (s c d : Store) (xs ms : List ℕ) (v l h i j m : ℕ) → AreReached s.nodes xs
    → IsCopying s xs ms c → length ms < length xs → 2 ≤ get_or xs (length ms) 0
    → IsBranch s.variables s.nodes (get_or xs (length ms) 0) v l h → i < length ms
    → get_or xs i 0 ≡ l → j < length ms → get_or xs j 0 ≡ h
    → Extends c d → length d.nodes ≤ length c.nodes + 1
    → IsNode d.variables d.nodes v (get_or ms i 0) (get_or ms j 0) m
    → IsCopying s xs (ms ++ m ∷ []) d
copies_node s c d xs ms v l h i j m r k more two branch hi ei hj ej e one node =
    let x : ℕ = get_or xs (length ms) 0 in
    let within : x < length s.nodes + 2 = r.within x (has_place xs (length ms) more) in
    let low : IsCopyOf s d l (get_or ms i 0) = subst (λ y. IsCopyOf s d y (get_or ms i 0)) ei
    (copy_grows s c d _ _ e (k.copied i hi)) in
    let high : IsCopyOf s d h (get_or ms j 0) = subst (λ y. IsCopyOf s d y (get_or ms j 0)) ej
    (copy_grows s c d _ _ e (k.copied j hj)) in
    let tree = tree_at-node s.lawful x two within in
    let top : root s.variables (tree_at s.nodes x) ≡ v = root-node s.lawful x two within
    ∙ sym branch.variable in
    let enough = two_before s.nodes xs (length ms) r more two in
    let new : IsCopyOf s d x m = record {
      within = node.within;
      starts = rw top node.root_at;
      function = λ a.
          node.function a
          ∙ branch_value (a v) _ _ _ _ (high.function a) (low.function a)
          ∙ sym (ap (λ t. value t a) tree ∙ rw (
            ← branch.variable,
            ← branch.low_child,
            ← branch.high_child,
          ) refl);
    } in
    record {
      variables = e.variables ∙ k.variables;
      limit = e.limit ∙ k.limit;
      few = omega (arith, k.few, length-append ms (m ∷ []));
      copied = copied_more s c d xs ms m e k.copied new;
    }

-- the node's variable is above the copies of its children
pub above_child : (s c : Store) (xs ms : List ℕ) (v y i : ℕ) → IsCopying s xs ms c → i < length ms
    → get_or xs i 0 ≡ y →
    v < root s.variables (tree_at s.nodes y)
    → v < root c.variables (tree_at c.nodes (get_or ms i 0))
above_child s c xs ms v y i k hi ei above =
    let copy = k.copied i hi in
    let starts : root s.variables (tree_at s.nodes y)
    ≤ root c.variables (tree_at c.nodes (get_or ms i 0)) =
    subst (λ z. root s.variables (tree_at s.nodes z)
    ≤ root c.variables (tree_at c.nodes (get_or ms i 0))) ei copy.starts in
    omega (arith, starts)

-- a node is above its children
pub above_children : (s : Store) (x v l h : ℕ) → 2 ≤ x → x < length s.nodes + 2
    → IsBranch s.variables s.nodes x v l h →
    (v < root s.variables (tree_at s.nodes l)) × (v < root s.variables (tree_at s.nodes h))
above_children s x v l h two within b =
    let p = s.lawful.shape (x - 2) (omega arith) in
    (rw (b.variable, b.low_child) p.above_low, rw (b.variable, b.high_child) p.above_high)

-- what follows from an answer
pub if_ok : {A E : Type 0} {P Q : A → Type 0} (o : Result A E) → ((a : A) → P a → Q a) → IfOk o P
    → IfOk o Q
if_ok (Ok a) f p = f a p
if_ok (Err e) f p = tt

-- a store that has not changed
pub extends_refl : (s : Store) → Extends s s
extends_refl s = record {
  grows = grows_refl s.nodes;
  keeps =
      keeps_refl (holding_of s.variables s.nodes s.counts.items);
  variables = refl;
  limit = refl;
}

-- the copy has room for another node
pub has_room : (s c : Store) (xs ms : List ℕ) → AreReached s.nodes xs → IsCopying s xs ms c
    → length ms < length xs → 2 ≤ get_or xs (length ms) 0 → length c.nodes < c.limit
has_room s c xs ms r k more two =
    let enough = two_before s.nodes xs (length ms) r more two in
    omega (arith, k.few, r.few, s.lawful.fits, k.limit)

-- where it had room, an error is of memory
pub only_memory : (r : Result ℕ Stop) (c d : Store) → length c.nodes < c.limit → Extends c d
    → (r ≡ Err NodeLimit → length d.nodes ≡ d.limit) →
    OnErr r (d.nodes ≡ c.nodes) → IfErr r (λ s. (s ≡ NodeLimit) ⊎ (s ≡ Memory))
    → IfErr r (λ s. s ≡ Memory)
only_memory (Ok x) c d room e full still only = tt
only_memory (Err s) c d room e full still only = elim only [
  | inl limit ↦ absurd (omega (arith, room, full (ap Err limit), ap length still, e.limit))
  | inr memory ↦ memory
]

-- a copy of nothing yet
pub copies_none : (s c : Store) (xs : List ℕ) → c.variables ≡ s.variables → c.limit ≡ s.limit
    → c.nodes ≡ [] → IsCopying s xs [] c
copies_none s c xs ev el empty = record {
  variables = ev;
  limit = el;
  few = omega (arith, ap length empty);
  copied = λ k h. absurd (omega arith);
}

-- a new store has the variables that were asked for
pub new_variables : (n : ℕ) (s : Store) → IsNew n (holding_in s) → s.variables ≡ n
unfolding holding_of
new_variables n s e = e.variables

-- what is asked of a copy is what is asked of its number
module _ (s c : Store) (x m : ℕ) (copy : IsCopyOf s c x m) where
  pub copy_satisfiable : IsSatisfiable (value (tree_at s.nodes x))
      → IsSatisfiable (value (tree_at c.nodes m))
  copy_satisfiable satisfiable none = satisfiable (λ a. sym (copy.function a) ∙ none a)

  pub copy_depends : (variables : List ℕ) → DependsOnlyOn variables (value (tree_at s.nodes x))
      → DependsOnlyOn variables (value (tree_at c.nodes m))
  copy_depends variables depends a b same = copy.function a
      ∙ (depends a b same ∙ sym (copy.function b))

  pub copy_least : (variables : List ℕ) →
      find (λ values. value (tree_at c.nodes m) (assigned variables values))
      (assignments (length variables)) ≡ find
      (λ values. value (tree_at s.nodes x) (assigned variables values))
      (assignments (length variables))
  copy_least variables =
      find_same (λ values. value (tree_at c.nodes m) (assigned variables values))
      (λ values. value (tree_at s.nodes x) (assigned variables values)) (λ values. copy.function
      (assigned variables values))
      (assignments (length variables))
