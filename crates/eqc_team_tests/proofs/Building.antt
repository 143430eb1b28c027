-- What the calls of a member of a team leave. Helpers of the tests
use Rattle.std.proofs.Common.{◌≡◌, ℕ, zero, suc, ◌+◌, ◌<◌, ◌≤◌, ◌^◌, List, [], ◌∷◌, ◌++◌, Bool}
use Rattle.std.proofs.Common.{true, false, cond, map, length, get_or, count_by, All, sym, ap, subst}
use Rattle.std.proofs.Common.{◌∙◌, arith, swap_remove}
use Rattle.std.specs.List.{remove}
use Rattle.std.proofs.lemmas.List.Elements.{All-nil, All-cons, All-head, All-tail}
use Rattle.std.proofs.lemmas.List.Sums.{sum_by-append, sum_by_push, sum_by-swap_remove, sum_by-le}
use Rattle.std.proofs.lemmas.List.Sums.{get_or-le-sum_by}
use Rattle.eqc_tree.specs.Holding.{Entry, IsNew, Keeps, Loses, entry_eq, copies, weight}
use Rattle.eqc_tree.proofs.HoldingLemmas.{counts_itself}
use Rattle.eqc_core.specs.State.{slots_from}
use Rattle.eqc_apply.specs.declared.applier.Applier.{Applier}
use Rattle.eqc_apply.specs.declared.reference.Ref.{Ref}
use Rattle.eqc_apply.specs.Extending.{holding_in}
use Rattle.eqc_apply.specs.Referring.{entry_of}
use Rattle.eqc_apply.specs.Teaming.{IsTeam, number_of, forest_of}
use Rattle.eqc_apply.specs.Before.{IsWorker}
use Rattle.eqc_apply.specs.Joining.{Joins, TakesIn}
use Rattle.eqc_team_tests.specs.Building.{constants_of, made_of, AreHeld, IsSame, IsBeside}
use Rattle.eqc_team_tests.specs.Building.{IsBuilding}

-- a constant counts once at most, and a reference too
one_at_most : (b : Bool) → cond b 1 0 ≤ 1
one_at_most true = omega arith
one_at_most false = omega arith

weight_at_most : (b c : Bool) → cond b 0 (cond c 1 0) ≤ 1
weight_at_most true c = omega arith
weight_at_most false c = one_at_most c

weight-le : (r e : Entry) → weight r e ≤ 1
unfolding weight
weight-le r e = weight_at_most _ _

constants-le : (e : Entry) → constants_of e ≤ 1
constants-le e = one_at_most _

made-le : (e : Entry) (refs : List Ref) → made_of e refs ≤ length refs
made-le e refs = omega (
  arith,
  sum_by-le (λ (r : Ref). weight (entry_of r) e) 1 refs
      (λ k d lt. weight-le (entry_of (get_or refs k d)) e),
)

-- a reference is held that stands in the list
counts_once : (r : Entry) → 0 < constants_of r + weight r r
unfolding copies
counts_once r = let h : 0 < constants_of r + 0 + weight r r =
    counts_itself (record { variables = 0; held = [] }) r in omega arith

pub is_there : (refs : List Ref) (i : ℕ) (d : Ref) (a : Applier) → i < length refs → AreHeld refs a
    → 0 < copies (holding_in a.names) (entry_of (get_or refs i d))
is_there refs i d a lt h =
    let r : Entry = entry_of (get_or refs i d) in
    omega (
      arith,
      h r,
      get_or-le-sum_by (λ (q : Ref). weight (entry_of q) r) refs i d lt,
      counts_once r,
    )

-- a new member holds no references
none_held : (n : ℕ) (a : Applier) → IsNew n (holding_in a.names) → AreHeld [] a
unfolding copies
none_held n a new e = ap (λ (l : List Entry). constants_of e + count_by (entry_eq e) l) new.held

-- it holds other references
builds : (v : ℕ) (f : Bool) (refs left : List Ref) (old new : Applier) → IsBuilding v f refs old
    → (holding_in new.names).variables ≡ v → IsSame old new → AreHeld left new
    → IsBuilding v f left new
builds v f refs left old new b range same held = record {
  range = range;
  held = held;
  number = λ e. subst (λ (n : ℕ). 0 < n) (sym same.1) (b.number e);
}

-- a call made nothing, or one reference
pub makes_nothing : (v : ℕ) (f : Bool) (refs : List Ref) (old new : Applier)
    → IsBuilding v f refs old → (holding_in new.names).variables ≡ v →
    IsSame old new → Keeps (holding_in old.names) (holding_in new.names) → IsBuilding v f refs new
makes_nothing v f refs old new b range same k = builds v f refs refs old new b range same
    (λ e. k.held e ∙ b.held e)

pub makes_one : (v : ℕ) (f : Bool) (refs all : List Ref) (r : Ref) (old new : Applier)
    → IsBuilding v f refs old →
    (holding_in new.names).variables ≡ v → IsSame old new →
    ((e : Entry) → copies (holding_in new.names) e ≡ copies (holding_in old.names) e
    + weight (entry_of r) e) → all ≡ refs ++ r ∷ [] →
    IsBuilding v f all new
makes_one v f refs all r old new b range same more is =
    builds v f refs all old new b range same (λ e. omega (
      arith,
      b.held e,
      more e,
      ap {B = ℕ} (made_of e) is,
      sum_by_push (λ (q : Ref). weight (entry_of q) e) refs r,
    ))

-- one was given back
pub gives_back : (v : ℕ) (f : Bool) (refs left : List Ref) (i : ℕ) (r : Ref) (old new : Applier)
    → IsBuilding v f refs old →
    Loses (holding_in old.names) (holding_in new.names) (entry_of r)
    → IsWorker old.names.worker new.names.worker → i < length refs →
    r ≡ get_or refs i r → left ≡ swap_remove refs i r → IsBuilding v f left new
gives_back v f refs left i r old new b less worker lt at is =
    builds v f refs left old new b (less.variables ∙ b.range) (worker.forest, worker.seat.number)
    fewer
  where
    fewer : AreHeld left new
    fewer e =
        let one : Ref → ℕ = λ q. weight (entry_of q) e in
        omega (
          arith,
          b.held e,
          less.held e,
          ap {B = ℕ} (made_of e) is,
          ap {B = ℕ} one at,
          sum_by-swap_remove one refs i r lt,
        )

-- another member was taken in
copies_join : (old other new : Applier) → Joins (holding_in old.names) (holding_in other.names)
    (holding_in new.names) → (e : Entry) →
    copies (holding_in new.names) e + constants_of e ≡ copies (holding_in old.names) e
    + copies (holding_in other.names) e
unfolding copies
copies_join old other new j e = omega (arith, j.held e)

pub takes_in : (v : ℕ) (f : Bool) (refs others all : List Ref) (old other new : Applier)
    → IsBuilding v f refs old → AreHeld others other →
    Joins (holding_in old.names) (holding_in other.names) (holding_in new.names)
    → TakesIn old.names.worker other.names.worker new.names.worker →
    all ≡ refs ++ others → IsBuilding v f all new
takes_in v f refs others all old other new b held j takes is =
    builds v f refs all old new b (j.variables ∙ b.range) (takes.forest, takes.number) both
  where
    both : AreHeld all new
    both e = omega (
      arith,
      b.held e,
      held e,
      copies_join old other new j e,
      ap {B = ℕ} (made_of e)
          is,
      sum_by-append (λ (q : Ref). weight (entry_of q) e) refs others,
    )

pub few_both : (refs others : List Ref) (a b : Applier) → AreHeld refs a → AreHeld others b
    → length refs ≤ 1000 → length others ≤ 1000 →
    (e : Entry) → copies (holding_in a.names) e + copies (holding_in b.names) e ≤ 2 ^ 38
few_both refs others a b h i lt less e = omega (
  arith,
  h e,
  i e,
  constants-le e,
  made-le e refs,
  made-le e others,
)

-- members behind the first are not worker 0
positive : (others : List Applier) (n m : ℕ) → 0 < n → map number_of others ≡ slots_from n m
    → All (λ (a : Applier). 0 < number_of a) others
positive [] n m p e = All-nil (λ (a : Applier). 0 < number_of a)
positive (a ∷ others) n zero p e = cc
positive (a ∷ others) n (suc m) p e =
    let head : number_of a ≡ n = cc in
    let tail : map number_of others ≡ slots_from (suc n) m = cc in
    All-cons (λ (b : Applier). 0 < number_of b) a others (omega arith) (positive others (suc n) m
    (omega arith) tail)

behind : (a : Applier) (others : List Applier) (w : ℕ) → number_of a ∷ map number_of others
    ≡ slots_from 0 w → All (λ (b : Applier). 0 < number_of b) others
behind a others zero e = cc
behind a others (suc m) e = let tail : map number_of others ≡ slots_from 1 m = cc in
    positive others 1 m (omega arith) tail

-- the first member of a team, beside which the others wait
lead_builds : (v nodes cells w : ℕ) (a : Applier) (others : List Applier)
    → IsTeam v nodes cells w (a ∷ others) → IsBuilding v true [] a × All (IsBeside v a) others
lead_builds v nodes cells w a others t =
    let P : Applier → Type 0 = λ b. IsNew v (holding_in b.names) in
    let Q : Applier → Type 0 = λ b. forest_of b ≡ t.forest in
    let new : P a = All-head P a others t.new in (
      record { range = new.variables; held = none_held v a new; number = λ e. cc },
      λ k d lt.
          let other : P (get_or others k d) = All-tail P a others t.new k d lt in (
            other.variables,
            none_held v (get_or others k d) other,
            All-tail Q a others t.one k d lt
                ∙ sym (All-head Q a others t.one),
            behind a others w t.numbers k d lt,
          ),
    )

pub first_builds : (v nodes cells w : ℕ) (all left : List Applier) (a : Applier)
    → IsTeam v nodes cells w all → 0 < length all →
    a ≡ get_or all 0 a → left ≡ remove all 0 → IsBuilding v true [] a × All (IsBeside v a) left
first_builds v nodes cells w [] left a t lt at is = absurd (omega arith)
first_builds v nodes cells w (b ∷ bs) left a t lt at is =
    let P : Applier → Type 0 = λ c. IsBuilding v true [] c × All (IsBeside v c) left in
    let Q : List Applier → Type 0 = λ l. IsBuilding v true [] b × All (IsBeside v b) l in
    subst P (sym at) (subst Q (sym is) (lead_builds v nodes cells w b bs t))

-- a member that waited
pub next_builds : (v : ℕ) (a b : Applier) → IsBeside v a b → IsBuilding v false [] b
next_builds v a b p = record { range = p.0; held = p.1; number = λ e. p.3 }
