-- Tables of references, and what an object holds beside them.
use Rattle.std.proofs.Common.{◌≡◌, ℕ, zero, suc, ◌+◌, ◌<◌, ◌≤◌, List, [], ◌∷◌, ◌++◌, cond, nat_eq}
use Rattle.std.proofs.Common.{length, get_or, set, refl, sym, ◌∙◌, ap, subst, arith, Option, Some}
use Rattle.std.proofs.Common.{None, inl, inr}
use Rattle.std.proofs.lemmas.List.{get_or-set_same, get_or-set_other, get_or_default}
use Rattle.std.proofs.lemmas.List.Sums.{sum_by-set, sum_by-cons, sum_by-append}
use Rattle.std.proofs.lemmas.Bool.{cases_eq}
use Rattle.std.proofs.Math.ListN.{length-set}
use Rattle.eqc_tree.specs.Holding.{Entry, Holding, IsHeld, weight, Loses, Keeps}
use Rattle.eqc_tree.proofs.HoldingLemmas.{counts_itself}
use Rattle.eqc_build.specs.Listed.{listed}
use Rattle.eqc_build.proofs.ListedLaws.{listed_size, listed_at, listed_set, listed_none}
use Rattle.eqc_build.specs.Building.{held_by, tally, OwnsTable, Moves, Fills, Empties, Releases}
use Rattle.eqc_build.specs.Building.{IsLastUse, KeepsLater, reference_of}
use Rattle.eqc_build.specs.Demand.{IsOfUse}
use Rattle.eqc_build.specs.declared.plan.Plan.{Plan}

-- a reference of a table is counted there
pub tally_there : {X : Type 0} (entry : X → Entry) (table : List (Option X)) (s : ℕ) (r : X)
    (e : Entry) → reference_of table s ≡ Some r → weight (entry r) e ≤ tally entry table e
tally_there entry [] s r e is = absurd (let q : None ≡ Some r = is in cc)
tally_there entry (o ∷ table) zero r e is = omega (
  arith,
  sum_by-cons (held_by entry e) o table,
  ap (held_by entry e) is,
)
tally_there entry (o ∷ table) (suc s) r e is = omega (
  arith,
  sum_by-cons (held_by entry e) o table,
  tally_there entry table s r e is,
)

pub owned_held : {X : Type 0} (entry : X → Entry) (d : Holding) (table : List (Option X)) (s : ℕ)
    (r : X) → OwnsTable entry d table → reference_of table s ≡ Some r → IsHeld d (entry r)
owned_held entry d table s r h is = omega (
  arith,
  counts_itself d (entry r),
  h.held (entry r),
  tally_there entry table s r (entry r) is,
)

-- a table without references
pub tally_none : {X : Type 0} (entry : X → Entry) (table : List (Option X)) (e : Entry)
    → ((s : ℕ) → reference_of table s ≡ None) → tally entry table e ≡ 0
tally_none entry [] e none = refl
tally_none entry (o ∷ table) e none = omega (
  arith,
  sum_by-cons (held_by entry e) o table,
  ap (held_by entry e) (none 0),
  tally_none entry table e (λ s. none (suc s)),
)

-- what was read at a place
pub found : {X : Type 0} (table : List (Option X)) (s : ℕ) (o : Option X) (r : X) → s < length table
    → o ≡ get_or table s o → Some r ≡ o → reference_of table s ≡ Some r
found table s o r h is e = get_or_default table s None o h ∙ (sym is ∙ sym e)

pub found_none : {X : Type 0} (table : List (Option X)) (s : ℕ) (o : Option X) → s < length table
    → o ≡ get_or table s o → None ≡ o → reference_of table s ≡ None
found_none table s o h is e = get_or_default table s None o h ∙ (sym is ∙ sym e)

-- a table with an entry in place of another
pub tally-set : {X : Type 0} (entry : X → Entry) (table : List (Option X)) (s : ℕ) (o : Option X)
    (e : Entry) → s < length table →
    tally entry (set table s o) e + held_by entry e (reference_of table s) ≡ tally entry table e
    + held_by entry e o
tally-set entry table s o e h = sum_by-set (held_by entry e) table s o None h

pub filled : {X : Type 0} (entry : X → Entry) (old new : Holding) (table : List (Option X)) (s : ℕ)
    (r before : X) → s < length table →
    reference_of table s ≡ Some before → Loses old new (entry before)
    → Fills entry old table new (set table s (Some r)) s r
filled entry old new table s r before h is l = record {
  table = refl;
  variables = l.variables;
  held = λ e. omega (
    arith,
    l.held e,
    ap (held_by entry e) is,
    tally-set entry table s (Some r) e
        h,
  );
}

pub filled_none : {X : Type 0} (entry : X → Entry) (old : Holding) (table : List (Option X)) (s : ℕ)
    (r : X) → s < length table →
    reference_of table s ≡ None → Fills entry old table old (set table s (Some r)) s r
filled_none entry old table s r h is = record {
  table = refl;
  variables = refl;
  held = λ e. omega (arith, ap (held_by entry e) is, tally-set entry table s (Some r) e h);
}

pub emptied : {X : Type 0} (entry : X → Entry) (old new : Holding) (table : List (Option X)) (s : ℕ)
    (r : X) → s < length table →
    reference_of table s ≡ Some r → Loses old new (entry r)
    → Empties entry old table new (set table s None) s
emptied entry old new table s r h is l = record {
  table = refl;
  moves = record {
    variables = l.variables;
    held = λ e. omega (arith, l.held e, ap (held_by entry e) is, tally-set entry table s None e h);
  };
}

pub emptied_none : {X : Type 0} (entry : X → Entry) (old : Holding) (table : List (Option X))
    (s : ℕ) → s < length table →
    reference_of table s ≡ None → Empties entry old table old (set table s None) s
emptied_none entry old table s h is = record {
  table = refl;
  moves = record {
    variables = refl;
    held = λ e. omega (arith, ap (held_by entry e) is, tally-set entry table s None e h);
  };
}

-- moves keep a table owned
pub owned_moves : {X : Type 0} (entry : X → Entry) (old new : Holding) (old_table new_table : List
    (Option X)) → OwnsTable entry old old_table →
    Moves entry old old_table new new_table → OwnsTable entry new new_table
owned_moves entry old new old_table new_table o m =
    record { held = λ e. omega (arith, o.held e, m.held e) }

pub moves_twice : {X : Type 0} (entry : X → Entry) (d0 d1 d2 : Holding) (t0 t1 t2 : List (Option X))
    → Moves entry d0 t0 d1 t1 → Moves entry d1 t1 d2 t2 → Moves entry d0 t0 d2 t2
moves_twice entry d0 d1 d2 t0 t1 t2 p q = record {
  variables = q.variables ∙ p.variables;
  held =
      λ e. omega (arith, p.held e, q.held e);
}

pub no_release : {X : Type 0} (entry : X → Entry) (d : Holding) (table : List (Option X))
    (plan : Plan) (used : List ℕ) (until : List ℕ) (at : ℕ)
    → Releases entry d table d table plan used until at
no_release entry d table plan used until at = record {
  size = refl;
  moves = record { variables = refl; held = λ e. refl };
  kept = λ s other. refl;
  later = λ s of_use. refl;
  none_new = λ s r is. is;
}

-- one more reference that is given back
pub released_more : {X : Type 0} (entry : X → Entry) (d0 d1 d2 : Holding)
    (t0 t1 t2 : List (Option X)) (plan : Plan) (used : List ℕ) (until : List ℕ) (at s : ℕ) →
    s < length t1 → Releases entry d0 t0 d1 t1 plan used until at → IsLastUse plan until s at
    → (IsOfUse plan used s at → ⊥) →
    Empties entry d1 t1 d2 t2 s → Releases entry d0 t0 d2 t2 plan used until at
released_more {X = X} entry d0 d1 d2 t0 t1 t2 plan used until at s h r is spent m = record {
  size = ap length m.table ∙ (length-set t1 s None ∙ r.size);
  moves = moves_twice entry d0 d1 d2 t0 t1 t2 r.moves m.moves;
  kept = λ k other. elim (cases_eq k s) [
    | inl same ↦ absurd (other (subst (λ j. IsLastUse plan until j at) (sym same) is))
    | inr apart ↦ there k apart ∙ r.kept k other
  ];
  later = λ k of_use. elim (cases_eq k s) [
    | inl same ↦ absurd (spent (subst (λ j. IsOfUse plan used j at) same of_use))
    | inr apart ↦ there k apart ∙ r.later k of_use
  ];
  none_new = λ k q some. elim (cases_eq k s) [
    | inl same ↦ absurd (clash k q same some)
    | inr apart ↦ r.none_new k q (sym (there k apart) ∙ some)
  ];
}
  where
    there : (k : ℕ) → (k ≡ s → ⊥) → reference_of t2 k ≡ reference_of t1 k
    there k apart = ap (λ t. reference_of t k) m.table ∙ get_or-set_other t1 s k None None apart

    clash : (k : ℕ) (q : X) → k ≡ s → reference_of t2 k ≡ Some q → ⊥
    clash k q same some =
        let none : reference_of t2 k ≡ None = ap (λ t. reference_of t k) m.table
        ∙ (ap (λ j. reference_of (set t1 s None) j) same ∙ get_or-set_same t1 s None None h) in
        let q' : None ≡ Some q = sym none ∙ some in cc

-- one more that is of no use is given back
pub keeps_more : {X : Type 0} (entry : X → Entry) (d1 d2 : Holding) (t0 t1 t2 : List (Option X))
    (plan : Plan) (used : List ℕ) (at s : ℕ) →
    s < length t1 → KeepsLater plan used t0 t1 at → (IsOfUse plan used s at → ⊥)
    → Empties entry d1 t1 d2 t2 s → KeepsLater plan used t0 t2 at
keeps_more {X = X} entry d1 d2 t0 t1 t2 plan used at s h k spent m = record {
  size = ap length m.table ∙ (length-set t1 s None ∙ k.size);
  none_new = λ i q some. elim (cases_eq i s) [
    | inl same ↦ absurd (clash i q same some)
    | inr apart ↦ k.none_new i q (sym (there i apart) ∙ some)
  ];
  kept = λ i of_use. elim (cases_eq i s) [
    | inl same ↦ absurd (spent (subst (λ j. IsOfUse plan used j at) same of_use))
    | inr apart ↦ there i apart ∙ k.kept i of_use
  ];
}
  where
    there : (i : ℕ) → (i ≡ s → ⊥) → reference_of t2 i ≡ reference_of t1 i
    there i apart = ap (λ t. reference_of t i) m.table ∙ get_or-set_other t1 s i None None apart

    clash : (i : ℕ) (q : X) → i ≡ s → reference_of t2 i ≡ Some q → ⊥
    clash i q same some =
        let none : reference_of t2 i ≡ None = ap (λ t. reference_of t i) m.table
        ∙ (ap (λ j. reference_of (set t1 s None) j) same ∙ get_or-set_same t1 s None None h) in
        let q' : None ≡ Some q = sym none ∙ some in cc

pub found_at : {X : Type 0} (table : List (Option X)) (s : ℕ) (o : Option X) (r : X)
    → s < length table → Some r ≡ get_or table s o → reference_of table s ≡ Some r
found_at table s o r h e = get_or_default table s None o h ∙ sym e

tally_end : {X : Type 0} (entry : X → Entry) (old new : List (Option X)) (o : Option X) (e : Entry)
    → old ≡ new ++ o ∷ [] → tally entry old e ≡ tally entry new e + held_by entry e o
tally_end entry old new o e is = ap (λ t. tally entry t e) is
    ∙ (sum_by-append (held_by entry e) new (o ∷ [])
    ∙ omega (arith, sum_by-cons (held_by entry e) o []))

-- the last reference of a table
pub popped_held : {X : Type 0} (entry : X → Entry) (d : Holding) (old new : List (Option X)) (r : X)
    → old ≡ new ++ Some r ∷ [] → OwnsTable entry d old → IsHeld d (entry r)
popped_held entry d old new r is h = omega (
  arith,
  counts_itself d (entry r),
  h.held (entry r),
  tally_end entry old new (Some r) (entry r) is,
)

pub popped : {X : Type 0} (entry : X → Entry) (d0 d1 d2 : Holding) (t0 old new : List (Option X))
    (r : X) → old ≡ new ++ Some r ∷ [] →
    Moves entry d0 t0 d1 old → Loses d1 d2 (entry r) → Moves entry d0 t0 d2 new
popped entry d0 d1 d2 t0 old new r is m l = record {
  variables = l.variables ∙ m.variables;
  held =
      λ e. omega (arith, m.held e, l.held e, tally_end entry old new (Some r) e is);
}

pub popped_owned : {X : Type 0} (entry : X → Entry) (d1 d2 : Holding) (old new : List (Option X))
    (r : X) → old ≡ new ++ Some r ∷ [] →
    OwnsTable entry d1 old → Loses d1 d2 (entry r) → OwnsTable entry d2 new
popped_owned entry d1 d2 old new r is h l =
    record { held = λ e. omega (arith, h.held e, l.held e, tally_end entry old new (Some r) e is) }

pub popped_none : {X : Type 0} (entry : X → Entry) (d0 d1 : Holding) (t0 old new : List (Option X))
    → old ≡ new ++ None ∷ [] → Moves entry d0 t0 d1 old → Moves entry d0 t0 d1 new
popped_none entry d0 d1 t0 old new is m = record {
  variables = m.variables;
  held =
      λ e. omega (arith, m.held e, tally_end entry old new None e is);
}

pub owned_kept : {X : Type 0} (entry : X → Entry) (old new : Holding) (table : List (Option X))
    → Keeps old new → OwnsTable entry old table → OwnsTable entry new table
owned_kept entry old new table k o = record { held = λ e. omega (arith, k.held e, o.held e) }

-- ---- references in a map

pub few_held : {X : Type 0} (entry : X → Entry) (d : Holding) (n : ℕ) (f : ℕ → Option X) (s : ℕ)
    (r : X) → f s ≡ Some r → s < n → OwnsTable entry d (listed n f) → IsHeld d (entry r)
few_held entry d n f s r was inside own = owned_held entry d (listed n f) s r own
    (listed_at n f s None inside ∙ was)

-- one of them is taken out and given back
pub few_moves : {X : Type 0} (entry : X → Entry) (d0 d1 : Holding) (n : ℕ) (f g : ℕ
    → Option X) (s : ℕ) (r : X) → f s ≡ Some r → s < n →
    ((q : ℕ) → g q ≡ cond (nat_eq s q) None (f q)) → Loses d0 d1 (entry r)
    → Moves entry d0 (listed n f) d1 (listed n g)
few_moves entry d0 d1 n f g s r was inside now l =
    subst (Moves entry d0 (listed n f) d1) (sym (listed_set n f g s None inside now))
    (emptied entry d0 d1 (listed n f) s r (omega (arith, inside, listed_size n f))
    (listed_at n f s None inside ∙ was) l).moves

-- none is left
pub few_given : {X : Type 0} (entry : X → Entry) (d0 d1 : Holding) (t0 : List (Option X)) (n : ℕ)
    (f : ℕ → Option X) → ((s : ℕ) → f s ≡ None) →
    Moves entry d0 t0 d1 (listed n f) → Moves entry d0 t0 d1 []
few_given entry d0 d1 t0 n f none m = record {
  variables = m.variables;
  held =
      λ e. omega (arith, m.held e, tally_none entry (listed n f) e (listed_none n f none));
}
