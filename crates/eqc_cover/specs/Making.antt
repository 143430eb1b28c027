-- Calls that make a diagram, and calls that make one of those that were made in turn.
use Rattle.std.specs.Prelude.{◌≡◌, ◌≢◌, ℕ, ◌+◌, ◌≤◌, Bool, not, Result, Ok, Err, IfOk, IfErr}
use Rattle.std.specs.Prelude.{MatchResult}
use Rattle.eqc_tree.specs.declared.stopping.Stop.{Stop}
use Rattle.eqc_tree.specs.declared.stopping.Stop.TheVariants.{Threads}
use Rattle.eqc_tree.specs.Holding.{Entry, Holding, says, copies, weight, Loses}

-- how often an entry is held by the reference that a call may have made
abbrev pub made : {X : Type 0} → (X → Entry) → Result X Stop → Entry → ℕ
made entry (Ok r) e = weight (entry r) e
made entry (Err stop) e = 0

-- one reference more, with this function, or a stop that leaves what is held
pub record Makes {X : Type 0} (entry : X → Entry) (old new : Holding) (result : Result X Stop)
    (f : (ℕ → Bool) → Bool) : Type 0 where
  pub variables : new.variables ≡ old.variables
  pub held : (e : Entry) → copies new e ≡ copies old e + made entry result e
  pub function : IfOk result (λ r. (a : ℕ → Bool) → says (entry r) a ≡ f a)
  pub only : IfErr result (λ stop. stop ≢ Threads)

-- the reference that a call may have made is held
pub record OwnsMade {X : Type 0} (entry : X → Entry) (d : Holding) (x : Result X Stop) : Type 0
  where
    pub held : (e : Entry) → made entry x e ≤ copies d e
    pub only : IfErr x (λ stop. stop ≢ Threads)

-- a reference is held, and beside it the one that a later call may have made
pub record OwnsInTurn {X : Type 0} (entry : X → Entry) (d : Holding) (x : X) (y : Result X Stop) :
    Type 0 where
  pub held : (e : Entry) → weight (entry x) e + made entry y e ≤ copies d e
  pub only : IfErr y (λ stop. stop ≢ Threads)

-- both references, where the later call made the second; else its stop, and the first is given back
abbrev pub HasBoth : {X : Type 0} → (X → Entry) → (old new : Holding) → X → Result X Stop
    → Result (X × X) Stop → Type 0
HasBoth entry old new x y (Ok both) = (both.0 ≡ x) × ((y ≡ Ok both.1) × (new ≡ old))
HasBoth entry old new x y (Err stop) = (y ≡ Err stop) × Loses old new (entry x)

-- in place of the reference that a call may have made there is the one that an operation makes of
-- its values, or a stop
pub record Turns {X : Type 0} (entry : X → Entry) (old new : Holding) (x result : Result X Stop)
    (op : (ℕ → Bool) → Bool → Bool) : Type 0 where
  pub variables : new.variables ≡ old.variables
  pub held : (e : Entry) → copies new e + made entry x e ≡ copies old e + made entry result e
  pub function : IfOk result (λ r. MatchResult x (λ f. (a : ℕ → Bool) → says (entry r) a
      ≡ op a (says (entry f) a)) (λ stop. ⊥))
  pub only : IfErr result (λ stop. stop ≢ Threads)

-- in its place there is the one with the opposite function, or a stop
abbrev pub Inverts : {X : Type 0} → (X → Entry) → (old new : Holding) → (x result : Result X Stop)
    → Type 0
Inverts entry old new x result = Turns entry old new x result (λ _ v. not v)

-- in place of a reference and of the one that a later call may have made there is the one that an
-- operation makes of
-- their values, or a stop
pub record Joins {X : Type 0} (entry : X → Entry) (old new : Holding) (x : X)
    (y result : Result X Stop) (op : (ℕ → Bool) → Bool → Bool → Bool) : Type 0 where
  pub variables : new.variables ≡ old.variables
  pub held : (e : Entry) → copies new e + weight (entry x) e + made entry y e ≡ copies old e
      + made entry result e
  pub function : IfOk result (λ r. MatchResult y (λ g. (a : ℕ → Bool) → says (entry r) a
      ≡ op a (says (entry x) a) (says (entry g) a)) (λ stop. ⊥))
  pub only : IfErr result (λ stop. stop ≢ Threads)
