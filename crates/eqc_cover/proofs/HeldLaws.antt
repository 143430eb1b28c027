-- Held references stay held.
use Rattle.std.proofs.Common.{◌≡◌, ℕ, zero, suc, ◌≤◌, List, [], ◌∷◌, take, drop, Bool, arith}
use Rattle.std.proofs.Common.{Result, Ok, Err, IfOk, refl, ◌∙◌, subst}
use Rattle.std.specs.Borrow.{Bor}
use Rattle.eqc_tree.specs.Holding.{Entry, Holding, copies, IsHeld, Keeps, Gains, Loses, says}
use Rattle.eqc_cover.specs.Matching.{AreHeld}

pub held_take : {X : Type 0} (entry : X → Entry) (d : Holding) (n : ℕ) (rs : List (Bor X))
    → AreHeld entry d rs → AreHeld entry d (take n rs)
held_take entry d zero rs h = record { each = tt }
held_take entry d (suc n) [] h = record { each = tt }
held_take entry d (suc n) (r ∷ rs) h =
    record { each = (h.each.0, (held_take entry d n rs (record { each = h.each.1 })).each) }

pub held_drop : {X : Type 0} (entry : X → Entry) (d : Holding) (n : ℕ) (rs : List (Bor X))
    → AreHeld entry d rs → AreHeld entry d (drop n rs)
held_drop entry d zero rs h = h
held_drop entry d (suc n) [] h = record { each = tt }
held_drop entry d (suc n) (r ∷ rs) h = held_drop entry d n rs (record { each = h.each.1 })

-- where no count falls
pub held_more : {X : Type 0} (entry : X → Entry) (old new : Holding) (rs : List (Bor X))
    → ((e : Entry) → copies old e ≤ copies new e) → AreHeld entry old rs → AreHeld entry new rs
held_more entry old new [] le h = record { each = tt }
held_more entry old new (r ∷ rs) le h = record {
  each = (
    omega (arith, le (entry r.now), h.each.0),
    (held_more entry old new rs le (record { each = h.each.1 })).each,
  );
}

pub held_gains : {X : Type 0} (entry : X → Entry) (old new : Holding) (rs : List (Bor X))
    (r : Entry) (f : (ℕ → Bool) → Bool) → Gains old new r f → AreHeld entry old rs
    → AreHeld entry new rs
held_gains entry old new rs r f g h = held_more entry old new rs (λ e. omega (arith, g.held e)) h

-- one function in place of another that is equal
pub gains_as : {X E : Type 0} (entry : X → Entry) (old new : Holding) (result : Result X E)
    (f g : (ℕ → Bool) → Bool)
    → ((a : ℕ → Bool) → f a ≡ g a) → IfOk result (λ r. Gains old new (entry r) f)
    → IfOk result (λ r. Gains old new (entry r) g)
gains_as entry old new (Ok r) f g e h = record {
  variables = h.variables;
  held = h.held;
  function =
      λ a. h.function a ∙ e a;
}
gains_as entry old new (Err stop) f g e h = tt

-- an operation on two references that are given back afterwards
pub joins_two : {X E : Type 0} (entry : X → Entry) (d0 d1 d2 d3 d4 d5 : Holding) (x y : Entry)
    (result : Result X E)
    (f g : (ℕ → Bool) → Bool) (op : (ℕ → Bool) → Bool → Bool → Bool) → Gains d0 d1 x f
    → Gains d1 d2 y g
    → IfOk result (λ r. Gains d2 d3 (entry r) (λ a. op a (says x a) (says y a))) → Loses d3 d4 x
    → Loses d4 d5 y
    → IfOk result (λ r. Gains d0 d5 (entry r) (λ a. op a (f a) (g a)))
joins_two entry d0 d1 d2 d3 d4 d5 x y (Ok r) f g op a b made c d = record {
  variables = d.variables ∙ (c.variables ∙ (made.variables ∙ (b.variables ∙ a.variables)));
  held = λ e. omega (arith, a.held e, b.held e, made.held e, c.held e, d.held e);
  function = λ v. made.function v ∙ rw (a.function v, b.function v) refl;
}
joins_two entry d0 d1 d2 d3 d4 d5 x y (Err stop) f g op a b made c d = tt

pub held_rest : {X : Type 0} (entry : X → Entry) (d : Holding) (r : Bor X) (all rs : List (Bor X))
    → all ≡ r ∷ rs → AreHeld entry d all → AreHeld entry d rs
held_rest entry d r all rs e h = held_drop entry d 1 (r ∷ rs) (subst (AreHeld entry d) e h)

pub keeps_twice : (d0 d1 d2 : Holding) → Keeps d0 d1 → Keeps d1 d2 → Keeps d0 d2
keeps_twice d0 d1 d2 a b = record {
  variables = b.variables ∙ a.variables;
  held = λ e. b.held e
      ∙ a.held e;
}

-- what was held still is
pub kept_held : (d0 d1 : Holding) (r : Entry) → Keeps d0 d1 → IsHeld d0 r → IsHeld d1 r
kept_held d0 d1 r k h = omega (arith, k.held r, h)
