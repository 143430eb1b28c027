-- The names of results, and what is held once references stand on them.
use Rattle.std.proofs.Common.{refl, ◌≡◌, ℕ, zero, suc, ◌+◌, ◌-◌, ◌^◌, ◌<◌, ◌≤◌, ◌↔◌, Bool, true}
use Rattle.std.proofs.Common.{false, nat_eq, Result, Ok, Err, Some, IfOk, OnErr, sym, ap, subst}
use Rattle.std.proofs.Common.{◌∙◌, arith, inl, inr, eqb-true}
use native.Mathlib.Decide.{ℕ_discrete, dec_le}
use Rattle.eqc_guard.proofs.Acquiring.{constant_trees}
use Rattle.eqc_apply.specs.Combining.{IsResult}
use mir.Val.{bool_byte}
use Rattle.std.specs.Prelude.{IsTrue}
use Rattle.std.proofs.lemmas.Bool.{eq-eqb}
use Rattle.eqc_tree.specs.Tree.{Tree, value}
use Rattle.eqc_tree.specs.Operation.{operate}
use Rattle.eqc_tree.specs.Holding.{Entry, Holding, IsHeld as IsIn, copies, weight, says, Keeps}
use Rattle.eqc_tree.specs.Holding.{Gains}
use Rattle.std.proofs.lemmas.Result.{IfOk-weaker}
use Rattle.eqc_tree.specs.declared.operation.Op.{Op}
use Rattle.eqc_tree.specs.declared.stopping.Stop.{Stop}
use Rattle.eqc_tree.proofs.Uniqueness.{bryant}
use Rattle.eqc_guard.specs.Known.{Known, IsHeld, IsKnown, tree_of}
use Rattle.eqc_guard.specs.Standing.{Standing}
use Rattle.eqc_apply.specs.declared.held.Held.{Held}
use Rattle.eqc_apply.specs.declared.reference.Ref.{Ref}
use Rattle.eqc_apply.specs.Extending.{Stays, Extends, entry_in, holding_of, holding_in}
use Rattle.eqc_apply.specs.Referring.{entry_of}
use Rattle.eqc_apply.specs.Before.{IsWorker}
use Rattle.eqc_plain.specs.Spending.{Spends}
use Rattle.eqc_apply.specs.Answering.{IsReferenced, IsAnswer}
use Rattle.eqc_apply.proofs.Once.{counted_held, seat_trans, seat_refl}
use Rattle.eqc_plain.proofs.Spending.{spends_as, spends_trans}
use Rattle.eqc_arena.proofs.Asking.{held_is_named}
use Rattle.eqc_apply.proofs.Holdings.{IsReferred, referred, keeps, counted_of}

-- a reference's name is held, with its tree
module _ (n : Held) (then : Standing) (x : ℕ) (h : IsIn (holding_in n) (entry_in then.known x))
  where
    is_referred : IsReferred n.worker.known n.counts.items x (tree_of then.known x)
    is_referred = referred n.variables n.worker.known then.known n.counts.items x h

    pub referred_tree : tree_of then.known x ≡ tree_of n.worker.known x
    referred_tree = is_referred.tree

    pub is_referenced : IsReferenced n x
    is_referenced = elim (dec_le 2 x) [
      | yes two ↦ inr (is_referred.refs two)
      | no small ↦
          inl (omega arith)
    ]

-- so is each name that references stand on
pub referenced_held : (n : Held) (x : ℕ) → IsReferenced n x → IsHeld n.worker.known.core x
referenced_held n x (inl small) = inl small
referenced_held n x (inr some) = counted_held n.once x (inr (counted_of n.counts.items x some))

-- what extends the names stays as references see it
pub extends_stays : (old new : Held) → Extends old new → Stays old new
extends_stays old new e = record {
  forest = e.forest;
  seat = e.seat;
  variables = e.variables;
  references = e.references;
  tree = λ x two. e.before.tree x (counted_held old.once x (inr (omega arith)));
  turns = e.turns;
}

pub stays_keeps : (old new : Held) → Stays old new → Keeps (holding_in old) (holding_in new)
stays_keeps old new s = keeps old.variables new.variables old.worker.known new.worker.known
    old.counts.items new.counts.items s.variables s.references (λ x some. s.tree x (omega arith))

-- numbers of one function are one
pub same_names : (k : Known) (x y : ℕ) → IsKnown k → IsHeld k.core x → IsHeld k.core y
    → ((a : ℕ → Bool) → value (tree_of k x) a ≡ value (tree_of k y) a) → x ≡ y
same_names k x y known hx hy same =
    known.one x y (held_is_named k x hx) (held_is_named k y hy) (bryant (tree_of k x) (tree_of k y)
    (known.canonical x (held_is_named k x hx)) (known.canonical y (held_is_named k y hy)) same)

module _ (n : Held) (s t : Standing) (x y : ℕ) (known : IsKnown n.worker.known)
    (hx : IsIn (holding_in n) (entry_in s.known x)) (hy : IsIn (holding_in n) (entry_in t.known y))
  where
    pub says_same : IsTrue (nat_eq x y) ↔ ((a : ℕ → Bool) → says (entry_in s.known x) a
        ≡ says (entry_in t.known y) a)
    says_same = (
      (λ e a. let is : x ≡ y = eqb-true x y e in ap (λ (u : Tree). value u a) (referred_tree n s x hx
          ∙ (ap (tree_of n.worker.known) is ∙ sym (referred_tree n t y hy)))),
      (λ f. eq-eqb x y (same_names n.worker.known x y known
          (referenced_held n x (is_referenced n s x hx))
          (referenced_held n y (is_referenced n t y hy))
          (λ a. sym (ap (λ (u : Tree). value u a) (referred_tree n s x hx))
          ∙ (f a ∙ ap (λ (u : Tree). value u a) (referred_tree n t y hy))))),
    )

-- a node says no constant
pub no_constant : (n : Held) (s : Standing) (x : ℕ) (b : Bool) → IsKnown n.worker.known
    → IsIn (holding_in n) (entry_in s.known x) → 2 ≤ x
    → ((a : ℕ → Bool) → says (entry_in s.known x) a ≡ b) → ⊥
no_constant n s x false known h two f =
    let e : x ≡ 0 = same_names n.worker.known x 0 known
    (referenced_held n x (is_referenced n s x h)) (inl (omega arith))
    (λ a. sym (ap (λ (u : Tree). value u a) (referred_tree n s x h)) ∙ f a) in
    omega arith
no_constant n s x true known h two f =
    let e : x ≡ 1 = same_names n.worker.known x 1 known
    (referenced_held n x (is_referenced n s x h)) (inl (omega arith))
    (λ a. sym (ap (λ (u : Tree). value u a) (referred_tree n s x h)) ∙ f a) in
    omega arith

-- one function for another
pub gains_as : (old new : Holding) (r : Entry) (f h : (ℕ → Bool) → Bool) → Gains old new r f
    → ((a : ℕ → Bool) → f a ≡ h a) → Gains old new r h
gains_as old new r f h g e = record {
  variables = g.variables;
  held = g.held;
  function =
      λ a. g.function a ∙ e a;
}

-- what comes after names that stay
pub keeps_then_gains : (a b c : Holding) (r : Entry) (f h : (ℕ → Bool) → Bool) → Keeps a b
    → Gains b c r f → ((x : ℕ → Bool) → f x ≡ h x) → Gains a c r h
keeps_then_gains a b c r f h k g e = record {
  variables = g.variables ∙ k.variables;
  held =
      λ d. g.held d ∙ ap (λ n. n + weight r d) (k.held d);
  function = λ x. g.function x ∙ e x;
}

pub bit_small : (b : Bool) → bool_byte b < 2
bit_small true = omega arith
bit_small false = omega arith

-- a constant says its own value
pub constant_says : (k : Known) (x : ℕ) (b : Bool) → x < 2
    → (Some (nat_eq x 1) ≡ Some b) ↔ ((a : ℕ → Bool) → says (entry_in k x) a ≡ b)
constant_says k zero b small = (
  (λ e a. let q : false ≡ b = cc in q),
  (λ e. ap Some (e (λ _. false))),
)
constant_says k (suc zero) b small = (
  (λ e a. let q : true ≡ b = cc in q),
  (λ e. ap Some (e (λ _. false))),
)
constant_says k (suc (suc x)) b small = absurd (omega arith)

pub on_err : {A E P : Type 0} (o : Result A E) → P → OnErr o P
on_err (Ok a) p = tt
on_err (Err e) p = p

-- a reference to a result, or none
module _ (old mid new : Held) (o : Result Ref Stop) (x : ℕ) (s : Stays old mid) where
  pub answer_gains : (f : (ℕ → Bool) → Bool)
      → ((a : ℕ → Bool) → value (tree_of mid.worker.known x) a ≡ f a) →
      IfOk o (λ r. Gains (holding_in mid) (holding_in new) (entry_of r)
      (says (entry_in mid.worker.known x))) →
      IfOk o (λ r. Gains (holding_in old) (holding_in new) (entry_of r) f)
  answer_gains f is g =
      IfOk-weaker o _ _ (λ r h. keeps_then_gains (holding_in old) (holding_in mid) (holding_in new)
      (entry_of r) (says (entry_in mid.worker.known x)) f (stays_keeps old mid s) h is) g

  pub answer_keeps : OnErr o (new ≡ mid) → OnErr o (Keeps (holding_in old) (holding_in new))
  answer_keeps e = keep o e
    where
      keep : (o : Result Ref Stop) → OnErr o (new ≡ mid)
          → OnErr o (Keeps (holding_in old) (holding_in new))
      keep (Ok r) e = tt
      keep (Err t) e = subst (λ (n : Held). Keeps (holding_in old) (holding_in n)) (sym e)
          (stays_keeps old mid s)

  pub answer_full : (t : Stop) (e : Entry) → OnErr o (2 ^ 32 - 1 ≤ copies (holding_in mid) e)
      → o ≡ Err t → (d : Entry) × (2 ^ 32 - 1 ≤ copies (holding_in old) d)
  answer_full t e full is = (
    e,
    let f : 2 ^ 32 - 1 ≤ copies (holding_in mid) e =
        subst (λ (q : Result Ref Stop). OnErr q (2 ^ 32 - 1 ≤ copies (holding_in mid) e)) is full in
        let k = (stays_keeps old mid s).held e in
        omega arith,
  )

-- an operation on what two references say
pub operate_referred : (op : Op) (n : Held) (s t : Standing) (x y : ℕ)
    → IsIn (holding_in n) (entry_in s.known x) → IsIn (holding_in n) (entry_in t.known y)
    → (a : ℕ → Bool)
    → operate op (value (tree_of n.worker.known x) a) (value (tree_of n.worker.known y) a)
    ≡ operate op (says (entry_in s.known x) a) (says (entry_in t.known y) a)
operate_referred op n s t x y hx hy a = λ i. operate op (value (sym (referred_tree n s x hx) i) a)
    (value (sym (referred_tree n t y hy) i) a)

-- the number of variables
pub variables_in : (n : Held) (v : ℕ) → v < (holding_in n).variables → v < n.variables
unfolding holding_of
variables_in n v h = h

-- what references stand on stays
module _ (old mid : Held) (s : Stays old mid) (x : ℕ) where
  pub referenced_stays : IsReferenced old x → IsReferenced mid x
  referenced_stays (inl small) = inl small
  referenced_stays (inr some) = inr (omega (arith, s.references x))

  pub referenced_tree : IsReferenced old x → tree_of mid.worker.known x ≡ tree_of old.worker.known x
  referenced_tree (inl small) = constant_trees mid.worker.known.trees old.worker.known.trees x small
      (ℕ_discrete x 0) (ℕ_discrete x 1)
  referenced_tree (inr some) = s.tree x (omega arith)

-- a result is the answer
pub answer_is : (op : Op) (old mid new : Held) (f g : ℕ) (o : Result ℕ Stop) → Stays old mid
    → Extends mid new → IsReferenced old f →
    IsReferenced old g → IfOk o (λ x. IsResult new.variables op new.worker.known f g x)
    → IfOk o (IsAnswer op old f g new)
answer_is op old mid new f g o s e hf hg r = IfOk-weaker o _ _ (λ x h. (
  h.within,
  λ a. h.function a
      ∙ (λ i. operate op (value (tree f hf i) a) (value (tree g hg i) a)),
)) r
  where
    tree : (x : ℕ) → IsReferenced old x → tree_of new.worker.known x ≡ tree_of old.worker.known x
    tree x h = e.before.tree x (referenced_held mid x (referenced_stays old mid s x h))
        ∙ referenced_tree old mid s x h

pub stays_trans : (a b c : Held) → Stays a b → Stays b c → Stays a c
stays_trans a b c s t = record {
  forest = t.forest ∙ s.forest;
  seat = seat_trans s.seat t.seat;
  variables = t.variables ∙ s.variables;
  references = λ x. t.references x ∙ s.references x;
  tree = λ x two. t.tree x (omega (arith, s.references x)) ∙ s.tree x two;
  turns = spends_trans s.turns t.turns;
}

-- the same worker
pub same_worker : (s t : Standing) → t ≡ s → IsWorker s t
same_worker s t is = subst (IsWorker s) (sym is) (record {
  forest = refl;
  seat =
      seat_refl s.known.core;
})

pub worker_stays : (old new : Held) → Stays old new → IsWorker old.worker new.worker
worker_stays old new s = record { forest = s.forest; seat = s.seat }

pub worker_stays_on : (old mid new : Held) → Stays old mid → new.worker ≡ mid.worker
    → IsWorker old.worker new.worker
worker_stays_on old mid new s is = subst (IsWorker old.worker) (sym is) (worker_stays old mid s)

-- no turn came back
pub turns_stay_on : (old mid new : Held) → Stays old mid → new.turns ≡ mid.turns
    → Spends old.turns new.turns
turns_stay_on old mid new s is = spends_trans s.turns (spends_as mid.turns new.turns is)

pub worker_trans : {r s t : Standing} → IsWorker r s → IsWorker s t → IsWorker r t
worker_trans p q = record { forest = q.forest ∙ p.forest; seat = seat_trans p.seat q.seat }
