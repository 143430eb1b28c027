-- A copy of nodes stays faithful: visits in order, numbers of names, and the steps that are left.
use Rattle.std.proofs.Common.{◌≡◌, ◌≢◌, ℕ, zero, suc, ◌+◌, ◌-◌, ◌*◌, ◌^◌, ◌<◌, ◌≤◌, ◌⊎◌, Bool, List}
use Rattle.std.proofs.Common.{[], ◌∷◌, ◌++◌, length, get_or, set, replicate, Option, None, Some}
use Rattle.std.proofs.Common.{refl, sym, ◌∙◌, ap, subst, arith, inl, inr, pow_pos}
use Rattle.std.specs.Prelude.{Result, Ok, Err, OnOk, sum_by}
use Rattle.std.specs.List.{All, find}
use Rattle.std.proofs.lemmas.Bool.{cases_eq, cases_lt}
use Rattle.std.proofs.lemmas.List.{get_or-set_same, get_or-set_other, get_or_past, get_or-replicate}
use Rattle.std.proofs.lemmas.List.{length-set, length-replicate}
use Rattle.std.proofs.lemmas.List.Elements.{All-append, All-cons, All-nil, All-head, All-tail}
use Rattle.std.proofs.lemmas.List.Elements.{All-pop, All-weaker}
use Rattle.std.proofs.lemmas.List.Folds.{sum_by-replicate}
use Rattle.std.proofs.lemmas.List.Sums.{sum_by-append, sum_by-cons, sum_by-set}
use Rattle.eqc_tree.specs.Tree.{value}
use Rattle.eqc_plain.specs.declared.store.Store.{Store}
use Rattle.eqc_tree.specs.Assigned.{assigned, assignments, DependsOnlyOn, IsSatisfiable}
use Rattle.eqc_tree.specs.Holding.{IsNew}
use Rattle.eqc_tree.proofs.FindLemmas.{find_same}
use Rattle.eqc_plain.specs.Store.{root, tree_at, holding_of, IsNode}
use Rattle.eqc_plain.specs.Extending.{Extends as Grows, holding_in as store_holding}
use Rattle.eqc_plain.proofs.Combining.{halves_stay}
use Rattle.eqc_plain.proofs.Growing.{before}
use Rattle.eqc_plain.proofs.Trees.{tree_at-zero, tree_at-one, root-constant}
use Rattle.eqc_plain.proofs.Tasks.{pow_le}
use Rattle.eqc_core.specs.declared.sizes.Sizes.{Sizes}
use Rattle.eqc_guard.specs.Known.{IsHeld, IsKnown, tree_of}
use Rattle.eqc_guard.proofs.Learning.{held_named}
use Rattle.eqc_apply.specs.declared.held.Held.{Held}
use Rattle.eqc_apply.specs.declared.plain_copy.PlainCopy.{PlainCopy}
use Rattle.eqc_apply.specs.declared.plain_copy.Visit.{Visit}
use Rattle.eqc_apply.specs.declared.plain_copy.Visit.TheVariants.{Reached, Opened}
use Rattle.eqc_apply.specs.Extending.{Extends}
use Rattle.eqc_apply.specs.Combining.{AreCofactors}
use Rattle.eqc_apply.specs.Copying.{IsCopyOf, name_of, IsNodeOver, IsDue, IsPlaced, Comes, IsComing}
use Rattle.eqc_apply.specs.Copying.{AreInOrder, free, IsFaithful, IsOnWay, toil_of, toil, IsAdvance}
use Rattle.eqc_apply.proofs.Meanings.{names_stay, extends_refl, halves_of}
use Rattle.eqc_apply.proofs.Reading.{root_constant}

-- the visit at the end
comes_last : (x : ℕ) (vs : List Visit) (v : Visit) → Comes x (vs ++ v ∷ []) → (name_of v ≡ x)
    ⊎ Comes x vs
comes_last x [] v (inl e) = inl e
comes_last x [] v (inr n) = absurd n
comes_last x (u ∷ vs) v (inl e) = inr (inl e)
comes_last x (u ∷ vs) v (inr c) = elim (comes_last x vs v c) [ inl e ↦ inl e | inr d ↦ inr (inr d) ]

-- all that was copied is copied, and the name of a visit too, which is over then
module _ (ps qs : List (Option ℕ)) (v : Visit) (more : (x : ℕ) → IsPlaced ps x
    → IsPlaced qs x) (here : IsPlaced qs (name_of v)) where
  pub coming_over : (vs : List Visit) (x : ℕ) → IsComing ps (vs ++ v ∷ []) x → IsComing qs vs x
  coming_over vs x (inl p) = inl (more x p)
  coming_over vs x (inr c) = elim (comes_last x vs v c) [
    | inl e ↦ inl (subst (IsPlaced qs) e here)
    | inr d ↦ inr d
  ]

  pub order_over : (vs : List Visit) → AreInOrder ps (vs ++ v ∷ []) → AreInOrder qs vs
  order_over [] o = tt
  order_over (Reached x ∷ vs) o = order_over vs o
  order_over (Opened x w l h ∷ vs) o = (
    coming_over vs l o.0,
    coming_over vs h o.1,
    order_over vs o.2,
  )

coming_none : (ps : List (Option ℕ)) (x : ℕ) → IsComing ps [] x → IsPlaced ps x
coming_none ps x (inl p) = p
coming_none ps x (inr n) = absurd n

-- the children of a node at the end are copied
pub order_last : (ps : List (Option ℕ)) (vs : List Visit) (x v l h : ℕ)
    → AreInOrder ps (vs ++ Opened x v l h ∷ []) → IsPlaced ps l × IsPlaced ps h
order_last ps [] x v l h o = (coming_none ps l o.0, coming_none ps h o.1)
order_last ps (Reached y ∷ vs) x v l h o = order_last ps vs x v l h o
order_last ps (Opened y w k m ∷ vs) x v l h o = order_last ps vs x v l h o.2

-- a node that was reached is opened
module _ (ps : List (Option ℕ)) (x v l h : ℕ) where
  comes_opened : (y : ℕ) (vs : List Visit) → Comes y (vs ++ Reached x ∷ [])
      → Comes y (vs ++ Opened x v l h ∷ Reached h ∷ Reached l ∷ [])
  comes_opened y [] (inl e) = inl e
  comes_opened y [] (inr n) = absurd n
  comes_opened y (u ∷ vs) (inl e) = inl e
  comes_opened y (u ∷ vs) (inr c) = inr (comes_opened y vs c)

  pub coming_opened : (vs : List Visit) (y : ℕ) → IsComing ps (vs ++ Reached x ∷ []) y
      → IsComing ps (vs ++ Opened x v l h ∷ Reached h ∷ Reached l ∷ []) y
  coming_opened vs y (inl p) = inl p
  coming_opened vs y (inr c) = inr (comes_opened y vs c)

  pub order_opened : (vs : List Visit) → AreInOrder ps (vs ++ Reached x ∷ [])
      → AreInOrder ps (vs ++ Opened x v l h ∷ Reached h ∷ Reached l ∷ [])
  order_opened [] o = (inr (inr (inl refl)), inr (inl refl), tt)
  order_opened (Reached y ∷ vs) o = order_opened vs o
  order_opened (Opened y w k m ∷ vs) o = (
    coming_opened vs k o.0,
    coming_opened vs m o.1,
    order_opened vs o.2,
  )

-- a copy stays one while names stay and the store grows
pub copy_stays : (n m : Held) (s : Store) (x k : ℕ) → Extends n m → IsCopyOf n s x k
    → IsCopyOf m s x k
copy_stays n m s x k e c =
    let t = names_stay n m e in
    record {
      held = t.there x c.held;
      within = c.within;
      starts = rw (t.root x c.held) c.starts;
      function = λ a. c.function a ∙ sym (t.says x a c.held);
    }

pub copy_grows : (n : Held) (s t : Store) (x k : ℕ) → Grows s t → IsCopyOf n s x k
    → IsCopyOf n t x k
copy_grows n s t x k g c =
    let b = before s.nodes t.nodes g.grows in
    record {
      held = c.held;
      within = omega (arith, b.size, c.within);
      starts = rw (g.variables, b.tree k c.within) c.starts;
      function = λ a. ap (λ u. value u a) (b.tree k c.within) ∙ c.function a;
    }

-- so do visits
due_one : (n m : Held) (v : Visit) → Extends n m → IsDue n v → IsDue m v
due_one n m (Reached x) e d = e.before.held x d
due_one n m (Opened x v l h) e d =
    let t = names_stay n m e in
    record {
      held = t.there x d.held;
      top = d.top ∙ sym (t.root x d.held);
      below =
          omega (arith, d.below, e.variables);
      halves = halves_stay t d.held d.halves;
    }

toil_one : (n m : Held) (v : Visit) → Extends n m → IsDue n v → toil_of m v ≡ toil_of n v
toil_one n m (Reached x) e d = rw ((names_stay n m e).root x d, e.variables) refl
toil_one n m (Opened x v l h) e d = refl

pub due_stay : (n m : Held) (vs : List Visit) → Extends n m → All (IsDue n) vs → All (IsDue m) vs
due_stay n m vs e d = All-weaker (IsDue n) (IsDue m) (λ v due. due_one n m v e due) vs d

pub toil_stays : (n m : Held) (vs : List Visit) → Extends n m → All (IsDue n) vs
    → toil m vs ≡ toil n vs
toil_stays n m [] e d = refl
toil_stays n m (v ∷ vs) e d = omega (
  arith,
  sum_by-cons (toil_of m) v vs,
  sum_by-cons (toil_of n) v
      vs,
  toil_one n m v e (All-head (IsDue n) v vs d),
  toil_stays n m vs e (All-tail (IsDue n) v vs
      d),
)

-- all visits but the one at the end, and that one
due_apart : (n : Held) (vs : List Visit) (v : Visit) → All (IsDue n) (vs ++ v ∷ [])
    → All (IsDue n) vs × IsDue n v
due_apart n vs v d = let r = All-pop (IsDue n) (vs ++ v ∷ []) vs (Some v) refl d in (r.0, r.1)

-- each visit leads to some step
toil_some : (n : Held) (v : Visit) → 0 < toil_of n v
toil_some n (Reached x) =
    omega (arith, pow_pos (n.variables - root n.variables (tree_of n.worker.known x)))
toil_some n (Opened x v l h) = omega arith

pow_next : (n : ℕ) → 2 ^ (n + 1) ≡ 2 * 2 ^ n
pow_next n = let e : n + 1 ≡ suc n = omega arith in rw e (omega arith)

-- a full tree of the variables below a node is more than those below its children, and the node
less_toil : (n x v l h : ℕ) → v < n → v < l → v < h → v ≡ x
    → 1 + ((4 * 2 ^ (n - h) - 2) + (4 * 2 ^ (n - l) - 2)) < 4 * 2 ^ (n - x) - 2
less_toil n x v l h below low high is =
    let e : n - v ≡ (n - (v + 1)) + 1 = omega arith in
    let p : 2 ^ (n - v) ≡ 2 * 2 ^ (n - (v + 1)) = rw e (pow_next (n - (v + 1))) in
    let q : 2 ^ (n - l) ≤ 2 ^ (n - (v + 1)) = pow_le (n - l) (n - (v + 1)) (omega arith) in
    let r : 2 ^ (n - h) ≤ 2 ^ (n - (v + 1)) = pow_le (n - h) (n - (v + 1)) (omega arith) in
    let s : 0 < 2 ^ (n - l) = pow_pos (n - l) in
    let t : 0 < 2 ^ (n - h) = pow_pos (n - h) in
    rw (← is) (omega (arith, p, q, r, s, t))

-- a name that has a number has a place
placed_within : (ps : List (Option ℕ)) (x m : ℕ) → get_or ps x None ≡ Some m → x < length ps
placed_within ps x m e = elim (cases_lt x (length ps)) [
  | inl h ↦ h
  | inr past ↦ let none : get_or ps x None ≡ None = get_or_past ps x None past in let clash : None
      ≡ Some m = sym none ∙ e in cc
]

-- each name that is held has a place
pub within_places : (n : Held) (c : PlainCopy) (x : ℕ) → IsKnown n.worker.known → IsFaithful n c
    → IsHeld n.worker.known.core x → x < length c.places.items
within_places n c x known f (inl small) = placed_within c.places.items x x (f.constants x small)
within_places n c x known f (inr some) = omega (
  arith,
  f.size,
  known.below x (known.slots x some)
      (held_named n.worker.known.core x some),
)

-- numbers stay right while names stay
pub faithful_stays : (n m : Held) (c d : PlainCopy) → Extends n m → d.store ≡ c.store
    → d.places ≡ c.places → IsFaithful n c → IsFaithful m d
faithful_stays n m c d e s p f = record {
  variables = rw s (f.variables ∙ sym e.variables);
  size = rw p (f.size ∙ sym (ap (λ (z : Sizes). z.names) e.seat.sizes));
  constants = λ x h. rw p (f.constants x h);
  room = rw (s, p) f.room;
  placed = λ x k is. rw s (copy_stays n m c.store x k e (f.placed x k (rw p at is)));
}

-- a name with a number is passed over
pub passed : (n : Held) (c : PlainCopy) (v : Visit) → IsOnWay n c (c.visits.items ++ v ∷ [])
    → IsPlaced c.places.items (name_of v) → IsAdvance n c (c.visits.items ++ v ∷ []) n c
passed n c v w here = record {
  way = record {
    faithful = w.faithful;
    due = (due_apart n c.visits.items v w.due).0;
    order =
        order_over c.places.items c.places.items v (λ y p. p) here c.visits.items w.order;
  };
  coming = coming_over c.places.items c.places.items v (λ y p. p) here c.visits.items;
  less = omega (arith, sum_by-append (toil_of n) c.visits.items (v ∷ []), toil_some n v);
}

-- a node is opened
pub opened : (n m : Held) (c d : PlainCopy) (vs : List Visit) (x v l h : ℕ) → Extends n m
    → IsOnWay n c (vs ++ Reached x ∷ []) → d.store ≡ c.store → d.places ≡ c.places
    → d.visits.items ≡ vs ++ Opened x v l h ∷ Reached h ∷ Reached l ∷ [] → IsNodeOver m x v l h
    → IsAdvance n c (vs ++ Reached x ∷ []) m d
opened n m c d vs x v l h e w s p is over =
    let three : List Visit = Opened x v l h ∷ Reached h ∷ Reached l ∷ [] in
    let due = due_apart n vs (Reached x) w.due in
    let all : All (IsDue m) (vs ++ three) = All-append (IsDue m) vs three (due_stay n m vs e due.0)
    (All-cons (IsDue m) (Opened x v l h) (Reached h ∷ Reached l ∷ []) over
    (All-cons (IsDue m) (Reached h) (Reached l ∷ []) over.halves.high_within
    (All-cons (IsDue m) (Reached l) [] over.halves.low_within (All-nil (IsDue m))))) in
    let before_it : toil n (vs ++ Reached x ∷ []) ≡ toil n vs + toil n (Reached x ∷ []) =
    sum_by-append (toil_of n) vs (Reached x ∷ []) in
    let after_it : toil m (vs ++ three) ≡ toil m vs + toil m three =
    sum_by-append (toil_of m) vs three in
    let parts : toil m three ≡ 1 + (toil_of m (Reached h) + toil_of m (Reached l)) = omega arith in
    let less : 1 + (toil_of m (Reached h) + toil_of m (Reached l)) < toil_of m (Reached x) =
    less_toil m.variables (root m.variables (tree_of m.worker.known x)) v
    (root m.variables (tree_of m.worker.known l))
    (root m.variables (tree_of m.worker.known h)) over.below over.halves.above_low
    over.halves.above_high over.top in
    record {
      way = record {
        faithful = faithful_stays n m c d e s p w.faithful;
        due = rw is all;
        order = rw (p, is) (order_opened c.places.items x v l h vs w.order);
      };
      coming = λ y k. rw (p, is) (coming_opened c.places.items x v l h vs y k);
      less = omega (
        arith,
        ap (toil m) is,
        before_it,
        after_it,
        parts,
        less,
        toil_one n m (Reached x) e due.1,
        toil_stays n m vs e due.0,
      );
    }

-- a node is copied, which had no number
module _ (n : Held) (c d : PlainCopy) (x v l h p q m : ℕ) (w : IsOnWay n c (c.visits.items
    ++ Opened x v l h ∷ [])) (none : get_or c.places.items x None ≡ None)
    (low_is : get_or c.places.items l None ≡ Some p) (high_is : get_or c.places.items h None
    ≡ Some q) (within : x < length c.places.items)
    (grows : Grows c.store d.store) (one : length d.store.nodes ≤ length c.store.nodes + 1)
    (node : IsNode d.store.variables d.store.nodes v p q m)
    (noted : d.places.items ≡ set c.places.items x (Some m)) (left : d.visits.items
    ≡ c.visits.items) where
  over : IsNodeOver n x v l h
  over = (due_apart n c.visits.items (Opened x v l h) w.due).1

  here : IsCopyOf n d.store x m
  here =
      let low = copy_grows n c.store d.store l p grows (w.faithful.placed l p low_is) in
      let high = copy_grows n c.store d.store h q grows (w.faithful.placed h q high_is) in
      record {
        held = over.held;
        within = node.within;
        starts = subst (λ (r : ℕ). r ≤ root d.store.variables (tree_at d.store.nodes m)) over.top
            node.root_at;
        function = λ a. node.function a
            ∙ (rw (low.function a, high.function a) (sym (over.halves.function a)));
      }

  number_here : get_or d.places.items x None ≡ Some m
  number_here = rw noted (get_or-set_same c.places.items x (Some m) None within)

  number_there : (y : ℕ) → y ≢ x → get_or d.places.items y None ≡ get_or c.places.items y None
  number_there y differ = rw noted (get_or-set_other c.places.items x y (Some m) None differ)

  apart : (y k : ℕ) → get_or c.places.items y None ≡ Some k → y ≢ x
  apart y k e is = let there : get_or c.places.items y None ≡ None = rw is none in let clash : None
      ≡ Some k = sym there ∙ e in cc

  more : (y : ℕ) → IsPlaced c.places.items y → IsPlaced d.places.items y
  more y (k, e) = (k, number_there y (apart y k e) ∙ e)

  placed : (y k : ℕ) → get_or d.places.items y None ≡ Some k → IsCopyOf n d.store y k
  placed y k e = elim (cases_eq y x) [
    | inl is ↦
        let at : get_or d.places.items x None ≡ Some k = rw is at e in
        let same : Some m ≡ Some k = sym number_here ∙ at in
        let number : m ≡ k = cc in
        subst (λ (z : ℕ). IsCopyOf n d.store z k) (sym is) (subst (IsCopyOf n d.store x) number
        here)
    | inr differ ↦ copy_grows n c.store d.store y k grows (w.faithful.placed y k
        (sym (number_there y differ) ∙ e))
  ]

  pub closed : IsAdvance n c (c.visits.items ++ Opened x v l h ∷ []) n d
  closed =
      let f = w.faithful in
      let fewer : sum_by free (set c.places.items x (Some m)) + free (get_or c.places.items x None)
      ≡ sum_by free c.places.items + free (Some m) =
      sum_by-set free c.places.items x (Some m) None within in
      let counted : sum_by free (set c.places.items x (Some m)) + 1 ≡ sum_by free c.places.items
      + 0 = rw none at fewer in
      record {
        way = record {
          faithful = record {
            variables = grows.variables ∙ f.variables;
            size = ap length noted ∙ (length-set c.places.items x (Some m) ∙ f.size);
            constants = λ y small. number_there y (apart y y (f.constants y small))
                ∙ f.constants y small;
            room = omega (arith, counted, ap (sum_by free) noted, one, f.room, grows.limit);
            placed = placed;
          };
          due = rw left ((due_apart n c.visits.items (Opened x v l h) w.due).0);
          order = rw left (order_over c.places.items d.places.items (Opened x v l h) more (
            m,
            number_here,
          ) c.visits.items w.order);
        };
        coming = λ y k. rw left (coming_over c.places.items d.places.items (Opened x v l h) more (
          m,
          number_here,
        ) c.visits.items y k);
        less = omega (
          arith,
          ap (toil n) left,
          sum_by-append (toil_of n) c.visits.items
              (Opened x v l h ∷ []),
        );
      }

-- a constant is its own copy
constant_copy : (n : Held) (s : Store) (x : ℕ) → x < 2 → s.variables ≡ n.variables
    → IsCopyOf n s x x
constant_copy n s x small is = record {
  held = inl small;
  within = omega arith;
  starts = omega (
    arith,
    root_constant n.variables n.worker.known x small,
    root-constant s.variables
        s.nodes x small,
  );
  function = says x small;
}
  where
    says : (x : ℕ) → x < 2 → (a : ℕ → Bool) → value (tree_at s.nodes x) a
        ≡ value (tree_of n.worker.known x) a
    says zero small a = ap (λ t. value t a) (tree_at-zero s.nodes)
    says (suc zero) small a = ap (λ t. value t a) (tree_at-one s.nodes)
    says (suc (suc x)) small a = absurd (omega arith)

-- the variables of a new store
pub new_variables : (variables : ℕ) (s : Store) → IsNew variables (store_holding s)
    → s.variables ≡ variables
unfolding holding_of
new_variables variables s new = new.variables

-- what stands where no number is noted
abbrev no_number : Option ℕ
no_number = None

-- a copy of the constants alone
module _ (n : Held) (c : PlainCopy) (size : ℕ) (variables : c.store.variables ≡ n.variables)
    (empty : c.store.nodes ≡ []) (names : size ≡ n.worker.known.core.sizes.names)
    (limit : c.store.limit + 2 ≡ size) (are : c.places.items
    ≡ set (set (replicate size None) 0 (Some 0)) 1 (Some 1)) where
  blank : List (Option ℕ)
  blank = replicate size None

  pub begins : IsFaithful n c
  unfolding blank
  begins =
      let long : length blank ≡ size = length-replicate size no_number in
      let first : length (set blank 0 (Some 0)) ≡ size = length-set blank 0 (Some 0) ∙ long in
      let none0 : get_or blank 0 None ≡ None = get_or-replicate size 0 None None (omega arith) in
      let none1 : get_or (set blank 0 (Some 0)) 1 None ≡ None = get_or-set_other blank 0 1 (Some 0)
      None (λ z. omega arith) ∙ get_or-replicate size 1 None None (omega arith) in
      let count0 : sum_by free (set blank 0 (Some 0)) + free (get_or blank 0 None)
      ≡ sum_by free blank + 0 = sum_by-set free blank 0 (Some 0) None (omega arith) in
      let count1 : sum_by free (set (set blank 0 (Some 0)) 1 (Some 1))
      + free (get_or (set blank 0 (Some 0)) 1 None) ≡ sum_by free (set blank 0 (Some 0)) + 0 =
      sum_by-set free (set blank 0 (Some 0)) 1 (Some 1) None (omega arith) in
      let all : sum_by free blank ≡ size * 1 = sum_by-replicate free size no_number in
      record {
        variables = variables;
        size = ap length are ∙ (length-set (set blank 0 (Some 0)) 1 (Some 1) ∙ (first ∙ names));
        constants = λ x small. rw are (constant x small);
        room = omega (
          arith,
          ap length empty,
          ap (sum_by free) are,
          (rw none0 at count0),
          (rw none1 at count1),
          all,
        );
        placed = λ x m e. number x m (rw are at e);
      }
    where
      constant : (x : ℕ) → x < 2 → get_or (set (set (replicate size None) 0 (Some 0)) 1 (Some 1)) x
          None ≡ Some x
      constant zero small = get_or-set_other (set (replicate size None) 0 (Some 0)) 1 0 (Some 1)
          None (λ z. omega arith)
          ∙ get_or-set_same (replicate size None) 0 (Some 0) None
          (omega (arith, length-replicate size no_number))
      constant (suc zero) small =
          get_or-set_same (set (replicate size None) 0 (Some 0)) 1 (Some 1) None
          (omega (
            arith,
            length-set {A = Option ℕ} (replicate size None) 0 (Some 0),
            length-replicate size no_number,
          ))
      constant (suc (suc x)) small = absurd (omega arith)

      number : (x m : ℕ) → get_or (set (set (replicate size None) 0 (Some 0)) 1 (Some 1)) x None
          ≡ Some m → IsCopyOf n c.store x m
      number x m e = elim (cases_lt x 2) [
        | inl small ↦
            let same : Some x ≡ Some m = sym (constant x small) ∙ e in
            let is : x ≡ m = cc in
            subst (IsCopyOf n c.store x) is (constant_copy n c.store x small variables)
        | inr large ↦
            let within : x < length (set (set (replicate size None) 0 (Some 0)) 1 (Some 1)) =
            placed_within (set (set (replicate size None) 0 (Some 0)) 1 (Some 1)) x m e in
            let inside : x < size =
            omega (
              arith,
              within,
              length-set {A = Option ℕ} (set (replicate size None) 0 (Some 0)) 1 (Some 1),
              length-set {A = Option ℕ} (replicate size None) 0 (Some 0),
              length-replicate size no_number,
            ) in
            let none : get_or (set (set (replicate size None) 0 (Some 0)) 1 (Some 1)) x None
            ≡ None =
            get_or-set_other (set (replicate size None) 0 (Some 0)) 1 x (Some 1) None
            (λ z. omega arith)
            ∙ (get_or-set_other (replicate size None) 0 x (Some 0) None (λ z. omega arith)
            ∙ get_or-replicate size x None None inside) in
            let clash : None ≡ Some m = sym none ∙ e in
            cc
      ]

-- the same copy, with the visits in other words
pub way_as : (n : Held) (c d : PlainCopy) (vs us : List Visit) → d.store ≡ c.store
    → d.places ≡ c.places → vs ≡ us → IsOnWay n c vs → IsOnWay n d us
way_as n c d vs us s p e w = record {
  faithful = faithful_stays n n c d (extends_refl n) s p
      w.faithful;
  due = rw (← e) w.due;
  order = rw (← e, p) w.order;
}

-- one name is to be copied
pub sets_out : (n : Held) (c d : PlainCopy) (f : ℕ) → IsFaithful n c → IsHeld n.worker.known.core f
    → d.store ≡ c.store → d.places ≡ c.places →
    d.visits.items ≡ Reached f ∷ [] → IsOnWay n d d.visits.items
    × IsComing d.places.items d.visits.items f
sets_out n c d f faithful held s p e =
    let way : IsOnWay n d (Reached f ∷ []) =
    record {
      faithful = faithful_stays n n c d (extends_refl n) s p faithful;
      due =
          All-cons (IsDue n) (Reached f) [] held (All-nil (IsDue n));
      order = tt;
    } in
    let coming : IsComing d.places.items (Reached f ∷ []) f = inr (inl refl) in (
      subst (λ (us : List Visit). IsOnWay n d us) (sym e) way,
      subst (λ (us : List Visit). IsComing d.places.items us f) (sym e) coming,
    )

-- where nothing is left to visit, it is copied
pub arrives : (ps : List (Option ℕ)) (vs : List Visit) (f : ℕ) → IsComing ps vs f → vs ≡ []
    → IsPlaced ps f
arrives ps vs f k e = coming_none ps f (rw e at k)

-- what a copy's function has in common with that of its name
module _ (n : Held) (s : Store) (x m : ℕ) (c : IsCopyOf n s x m) where
  pub copy_satisfiable : IsSatisfiable (value (tree_of n.worker.known x))
      → IsSatisfiable (value (tree_at s.nodes m))
  copy_satisfiable satisfiable none = satisfiable (λ a. sym (c.function a) ∙ none a)

  pub copy_depends : (variables : List ℕ)
      → DependsOnlyOn variables (value (tree_of n.worker.known x))
      → DependsOnlyOn variables (value (tree_at s.nodes m))
  copy_depends variables depends a b same = c.function a ∙ (depends a b same ∙ sym (c.function b))

  pub copy_least : (variables : List ℕ) →
      find (λ values. value (tree_at s.nodes m) (assigned variables values))
      (assignments (length variables)) ≡ find
      (λ values. value (tree_of n.worker.known x) (assigned variables values))
      (assignments (length variables))
  copy_least variables =
      find_same (λ values. value (tree_at s.nodes m) (assigned variables values))
      (λ values. value (tree_of n.worker.known x) (assigned variables values))
      (λ values. c.function (assigned variables values))
      (assignments (length variables))

-- a copy of what a name was
pub copy_was : (n m : Held) (s : Store) (x k : ℕ) → Extends n m → IsHeld n.worker.known.core x
    → IsCopyOf m s x k → IsCopyOf n s x k
copy_was n m s x k e held c =
    let t = names_stay n m e in
    record {
      held = held;
      within = c.within;
      starts = rw (← t.root x held) c.starts;
      function =
          λ a. c.function a ∙ t.says x a held;
    }

-- the visit at the end is of a name that is held
pub last_held : (n : Held) (c : PlainCopy) (vs : List Visit) (v : Visit)
    → IsOnWay n c (vs ++ v ∷ []) → IsHeld n.worker.known.core (name_of v)
last_held n c vs v w = held v (due_apart n vs v w.due).1
  where
    held : (v : Visit) → IsDue n v → IsHeld n.worker.known.core (name_of v)
    held (Reached x) d = d
    held (Opened x u l h) d = d.held

-- a name without a number is a node
pub last_inner : (n : Held) (c : PlainCopy) (vs : List Visit) (v : Visit)
    → IsOnWay n c (vs ++ v ∷ []) → get_or c.places.items (name_of v) None ≡ None → 2 ≤ name_of v
last_inner n c vs v w none = elim (cases_lt (name_of v) 2) [
  | inl small ↦ let there : None ≡ Some (name_of v) = sym none
      ∙ w.faithful.constants (name_of v) small in cc
  | inr large ↦ large
]

-- what was read of a node that is opened: its root, and then its cofactors
pub over_of : (n0 n1 n2 : Held) (x v l h : ℕ) → Extends n0 n1 → Extends n1 n2
    → IsHeld n0.worker.known.core x →
    v ≡ root n1.variables (tree_of n1.worker.known x) → v < n1.variables
    → AreCofactors n2.variables n2.worker.known v x l h → IsNodeOver n2 x v l h
over_of n0 n1 n2 x v l h e f held top below cofactors =
    let held1 = e.before.held x held in
    let below2 : v < n2.variables = omega (arith, below, f.variables) in
    record {
      held = f.before.held x held1;
      top = top ∙ sym ((names_stay n1 n2 f).root x held1);
      below = below2;
      halves = halves_of below2 cofactors;
    }

-- what follows from an answer
pub on_ok : {A E P Q : Type 0} (o : Result A E) → (P → Q) → OnOk o P → OnOk o Q
on_ok (Ok a) f p = f p
on_ok (Err e) f p = tt

-- a node at the end of the visits
pub last_over : (n : Held) (c : PlainCopy) (vs : List Visit) (x v l h : ℕ)
    → IsOnWay n c (vs ++ Opened x v l h ∷ []) → IsNodeOver n x v l h
last_over n c vs x v l h w = (due_apart n vs (Opened x v l h) w.due).1

-- where a name has no number, the store has room
pub has_room : (n : Held) (c : PlainCopy) (x : ℕ) → IsFaithful n c → get_or c.places.items x None
    ≡ None → x < length c.places.items → length c.store.nodes < c.store.limit
has_room n c x f none within =
    let fewer : sum_by free (set c.places.items x (Some 0)) + free (get_or c.places.items x None)
    ≡ sum_by free c.places.items + free (Some 0) =
    sum_by-set free c.places.items x (Some 0) None within in
    let counted : sum_by free (set c.places.items x (Some 0)) + 1 ≡ sum_by free c.places.items + 0 =
    rw none at fewer in
    let room = f.room in
    omega (arith, counted)
