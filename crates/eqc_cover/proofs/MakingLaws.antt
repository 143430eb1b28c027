-- Diagrams that are made in turn, and operations on them.
use Rattle.std.proofs.Common.{◌≡◌, ◌≢◌, ℕ, ◌≤◌, Bool, true, false, not, List, ◌∷◌, Result, Ok, Err}
use Rattle.std.proofs.Common.{IfOk, IfErr, OnErr, refl, sym, ◌∙◌, ap, arith, subst}
use Rattle.std.specs.Borrow.{Bor}
use Rattle.eqc_tree.specs.declared.stopping.Stop.{Stop}
use Rattle.eqc_tree.specs.declared.stopping.Stop.TheVariants.{Memory, References, Threads}
use Rattle.eqc_tree.specs.Holding.{Entry, Holding, IsHeld, says, copies, weight, Keeps, Gains}
use Rattle.eqc_tree.specs.Holding.{Loses}
use Rattle.eqc_tree.specs.Operation.{operate}
use Rattle.eqc_tree.specs.declared.operation.Op.TheVariants.{Xor}
use Rattle.eqc_tree.proofs.HoldingLemmas.{counts_itself}
use Rattle.eqc_cover.specs.Matching.{AreHeld}
use Rattle.eqc_cover.specs.Making.{Makes, OwnsMade, OwnsInTurn, HasBoth, Inverts, Turns, Joins}
use Rattle.eqc_cover.proofs.HeldLaws.{held_more}

-- a call of diagrams by its clauses
pub call_makes : {X : Type 0} (entry : X → Entry) (d0 d1 : Holding) (result : Result X Stop)
    (f g : (ℕ → Bool) → Bool)
    → ((a : ℕ → Bool) → f a ≡ g a) → IfOk result (λ r. Gains d0 d1 (entry r) f)
    → OnErr result (Keeps d0 d1)
    → IfErr result (λ stop. stop ≢ Threads) → Makes entry d0 d1 result g
call_makes entry d0 d1 (Ok r) f g same gains keeps only = record {
  variables = gains.variables;
  held = gains.held;
  function = λ a. gains.function a ∙ same a;
  only = tt;
}
call_makes entry d0 d1 (Err stop) f g same gains keeps only = record {
  variables = keeps.variables;
  held = λ e. omega (arith, keeps.held e);
  function = tt;
  only = only;
}

-- one whose only error is the limit of references
pub reference_makes : {X : Type 0} (entry : X → Entry) (d0 d1 : Holding) (result : Result X Stop)
    (f g : (ℕ → Bool) → Bool)
    → ((a : ℕ → Bool) → f a ≡ g a) → IfOk result (λ r. Gains d0 d1 (entry r) f)
    → OnErr result (Keeps d0 d1)
    → IfErr result (λ stop. stop ≡ References) → Makes entry d0 d1 result g
reference_makes entry d0 d1 (Ok r) f g same gains keeps only =
    call_makes entry d0 d1 (Ok r) f g same gains keeps tt
reference_makes entry d0 d1 (Err stop) f g same gains keeps only =
    call_makes entry d0 d1 (Err stop) f g same gains keeps (λ is. let e : References ≡ Threads =
    sym only ∙ is in cc)

-- the same clauses of what was made
pub makes_gains : {X : Type 0} (entry : X → Entry) (d0 d1 : Holding) (result : Result X Stop)
    (f : (ℕ → Bool) → Bool) → Makes entry d0 d1 result f
    → IfOk result (λ r. Gains d0 d1 (entry r) f)
makes_gains entry d0 d1 (Ok r) f m = record {
  variables = m.variables;
  held = m.held;
  function =
      m.function;
}
makes_gains entry d0 d1 (Err stop) f m = tt

pub makes_keeps : {X : Type 0} (entry : X → Entry) (d0 d1 : Holding) (result : Result X Stop)
    (f : (ℕ → Bool) → Bool) → Makes entry d0 d1 result f → OnErr result (Keeps d0 d1)
makes_keeps entry d0 d1 (Ok r) f m = tt
makes_keeps entry d0 d1 (Err stop) f m = record {
  variables = m.variables;
  held =
      λ e. omega (arith, m.held e);
}

-- a function that is equal
pub makes_as : {X : Type 0} (entry : X → Entry) (d0 d1 : Holding) (result : Result X Stop) (f g : (ℕ
    → Bool) → Bool)
    → ((a : ℕ → Bool) → f a ≡ g a) → Makes entry d0 d1 result f → Makes entry d0 d1 result g
makes_as entry d0 d1 (Ok r) f g same m = record {
  variables = m.variables;
  held = m.held;
  function =
      λ a. m.function a ∙ same a;
  only = tt;
}
makes_as entry d0 d1 (Err stop) f g same m = record {
  variables = m.variables;
  held = m.held;
  function = tt;
  only = m.only;
}

-- what was held is held where a call made something
pub makes_held : {X : Type 0} (entry : X → Entry) (d0 d1 : Holding) (result : Result X Stop) (f : (ℕ
    → Bool) → Bool) (rs : List (Bor X))
    → Makes entry d0 d1 result f → AreHeld entry d0 rs → AreHeld entry d1 rs
makes_held entry d0 d1 result f rs m h = held_more entry d0 d1 rs (λ e. omega (arith, m.held e)) h

pub makes_one_held : {X : Type 0} (entry : X → Entry) (d0 d1 : Holding) (result : Result X Stop)
    (f : (ℕ → Bool) → Bool) (r : Entry) → Makes entry d0 d1 result f → IsHeld d0 r → IsHeld d1 r
makes_one_held entry d0 d1 result f r m h = omega (arith, m.held r)

-- the first of some references
pub first_held : {X : Type 0} (entry : X → Entry) (d : Holding) (r : Bor X) (all rs : List (Bor X))
    → all ≡ r ∷ rs → AreHeld entry d all → IsHeld d (entry r.now)
first_held entry d r all rs e h = (subst (AreHeld entry d) e h).each.0

-- a reference that is counted is held
counted : (d : Holding) (r : Entry) → weight r r ≤ copies d r → IsHeld d r
counted d r h = omega (arith, counts_itself d r)

-- what a call made is held
pub makes_owned : {X : Type 0} (entry : X → Entry) (d0 d1 : Holding) (result : Result X Stop)
    (f : (ℕ → Bool) → Bool) → Makes entry d0 d1 result f → OwnsMade entry d1 result
makes_owned entry d0 d1 result f m = record { held = λ e. omega (arith, m.held e); only = m.only }

-- what two calls made in turn is held
pub turns_owned : {X : Type 0} (entry : X → Entry) (d0 d1 d2 : Holding) (x : X) (y : Result X Stop)
    (f g : (ℕ → Bool) → Bool)
    → Makes entry d0 d1 (Ok x) f → Makes entry d1 d2 y g → OwnsInTurn entry d2 x y
turns_owned entry d0 d1 d2 x y f g m n = record {
  held = λ e. omega (arith, m.held e, n.held e);
  only = n.only;
}

-- an operation on what two calls made in turn
pub joined_makes : {X : Type 0} (entry : X → Entry) (d0 d1 d2 d3 : Holding) (x : X)
    (y result : Result X Stop) (f g h : (ℕ → Bool) → Bool)
    (op : (ℕ → Bool) → Bool → Bool → Bool) → ((a : ℕ → Bool) → op a (f a) (g a) ≡ h a)
    → Makes entry d0 d1 (Ok x) f
    → Makes entry d1 d2 y g → Joins entry d2 d3 x y result op → Makes entry d0 d3 result h
joined_makes entry d0 d1 d2 d3 x y (Err stop) f g h op same m n j = record {
  variables = j.variables ∙ (n.variables ∙ m.variables);
  held = λ e. omega (arith, m.held e, n.held e, j.held e);
  function = tt;
  only = j.only;
}
joined_makes entry d0 d1 d2 d3 x (Ok y) (Ok r) f g h op same m n j = record {
  variables = j.variables ∙ (n.variables ∙ m.variables);
  held = λ e. omega (arith, m.held e, n.held e, j.held e);
  function = λ a. j.function a ∙ (rw (m.function a, n.function a) refl ∙ same a);
  only = tt;
}
joined_makes entry d0 d1 d2 d3 x (Err stop) (Ok r) f g h op same m n j = absurd j.function

-- an operation on what a call made
pub turned_makes : {X : Type 0} (entry : X → Entry) (d0 d1 d2 : Holding) (x result : Result X Stop)
    (f h : (ℕ → Bool) → Bool)
    (op : (ℕ → Bool) → Bool → Bool) → ((a : ℕ → Bool) → op a (f a) ≡ h a) → Makes entry d0 d1 x f
    → Turns entry d1 d2 x result op → Makes entry d0 d2 result h
turned_makes entry d0 d1 d2 x (Err stop) f h op same m j = record {
  variables = j.variables ∙ m.variables;
  held = λ e. omega (arith, m.held e, j.held e);
  function = tt;
  only = j.only;
}
turned_makes entry d0 d1 d2 (Ok x) (Ok r) f h op same m j = record {
  variables = j.variables ∙ m.variables;
  held = λ e. omega (arith, m.held e, j.held e);
  function = λ a. j.function a ∙ (ap (op a) (m.function a) ∙ same a);
  only = tt;
}
turned_makes entry d0 d1 d2 (Err stop) (Ok r) f h op same m j = absurd j.function

-- the opposite of what a call made
pub inverted_makes : {X : Type 0} (entry : X → Entry) (d0 d1 d2 : Holding)
    (x result : Result X Stop) (f h : (ℕ → Bool) → Bool)
    → ((a : ℕ → Bool) → not (f a) ≡ h a) → Makes entry d0 d1 x f → Inverts entry d1 d2 x result
    → Makes entry d0 d2 result h
inverted_makes entry d0 d1 d2 x result f h same m j = turned_makes entry d0 d1 d2 x result f h
    (λ _ v. not v) same m j

-- both references are held, the second where it was made
pub first_of_turn : {X : Type 0} (entry : X → Entry) (d : Holding) (x : X) (made_later : Result X
    Stop) → OwnsInTurn entry d x made_later → IsHeld d (entry x)
first_of_turn entry d x made_later h = counted d (entry x) (omega (arith, h.held (entry x)))

second_of_turn : {X : Type 0} (entry : X → Entry) (d : Holding) (x y : X)
    → OwnsInTurn entry d x (Ok y) → IsHeld d (entry y)
second_of_turn entry d x y h = counted d (entry y) (omega (arith, h.held (entry y)))

module _ {X : Type 0} (entry : X → Entry) (d0 d1 : Holding) (x : X) (made_later : Result X Stop)
    (front back : X)
    (h : OwnsInTurn entry d0 x made_later) (b : HasBoth entry d0 d1 x made_later (Ok (front, back)))
  where
    both_owned : OwnsInTurn entry d1 front (Ok back)
    both_owned = rw (b.0, b.1.1) (subst (OwnsInTurn entry d0 x) b.1.0 h)

    pub front_held : IsHeld d1 (entry front)
    front_held = first_of_turn entry d1 front (Ok back) both_owned

    pub back_held : IsHeld d1 (entry back)
    back_held = second_of_turn entry d1 front back both_owned

    module _ (d2 : Holding) (result : Result X Stop) (f : (ℕ → Bool)
        → Bool) (m : Makes entry d1 d2 result f) where
      -- they stay held where a call makes something
      stay_owned : OwnsInTurn entry d2 front (Ok back)
      stay_owned = record { held = λ e. omega (arith, both_owned.held e, m.held e); only = tt }

      pub front_stays : IsHeld d2 (entry front)
      front_stays = first_of_turn entry d2 front (Ok back) stay_owned

      -- and the second where the first is given back
      pub back_stays : (d3 : Holding) → Loses d2 d3 (entry front) → IsHeld d3 (entry back)
      back_stays d3 l = counted d3 (entry back) (omega (
        arith,
        stay_owned.held (entry back),
        l.held (entry back),
      ))

    -- both are given back after the operation
    pub joins : (d2 d3 d4 : Holding) (result : Result X Stop) (op : (ℕ → Bool) → Bool → Bool → Bool)
        → Makes entry d1 d2 result (λ a. op a (says (entry front) a) (says (entry back) a))
        → Loses d2 d3 (entry front)
        → Loses d3 d4 (entry back) → Joins entry d0 d4 x made_later result op
    joins d2 d3 d4 result op m l n =
        rw b.1.0 (subst (λ s. Joins entry d0 d4 s (Ok back) result op) b.0
        (subst (λ d. Joins entry d d4 front (Ok back) result op) b.1.1 (by result m)))
      where
        by : (made : Result X Stop)
            → Makes entry d1 d2 made (λ a. op a (says (entry front) a) (says (entry back) a))
            → Joins entry d1 d4 front (Ok back) made op
        by (Ok r) made = record {
          variables = n.variables ∙ (l.variables ∙ made.variables);
          held = λ e. omega (arith, made.held e, l.held e, n.held e);
          function = made.function;
          only = tt;
        }
        by (Err stop) made = record {
          variables = n.variables ∙ (l.variables ∙ made.variables);
          held = λ e. omega (arith, made.held e, l.held e, n.held e);
          function = tt;
          only = made.only;
        }

-- the opposite of a reference by an operation on it and on the constant that is made after it
pub made_in_turn : {X : Type 0} (entry : X → Entry) (d0 d1 : Holding) (x : X) (f made_later : Result
    X Stop) (g : (ℕ → Bool) → Bool)
    → f ≡ Ok x → OwnsMade entry d0 f → Makes entry d0 d1 made_later g
    → OwnsInTurn entry d1 x made_later
made_in_turn entry d0 d1 x f made_later g is h m =
    let k : OwnsMade entry d0 (Ok x) = subst (OwnsMade entry d0) is h in
    record { held = λ e. omega (arith, k.held e, m.held e); only = m.only }

pub inverts : {X : Type 0} (entry : X → Entry) (d0 d1 d2 : Holding) (x : X) (f all result : Result X
    Stop) → f ≡ Ok x
    → Makes entry d0 d1 all (λ _. true) → Joins entry d1 d2 x all result (λ _ a b. operate Xor a b)
    → Inverts entry d0 d2 f result
inverts entry d0 d1 d2 x f all (Err stop) is m j = rw is (record {
  variables = j.variables ∙ m.variables;
  held = λ e. omega (arith, m.held e, j.held e);
  function = tt;
  only = j.only;
})
inverts entry d0 d1 d2 x f (Ok y) (Ok r) is m j = rw is (record {
  variables = j.variables ∙ m.variables;
  held = λ e. omega (arith, m.held e, j.held e);
  function = λ a. j.function a ∙ (ap (operate Xor (says (entry x) a)) (m.function a)
      ∙ with_true (says (entry x) a));
  only = tt;
})
  where
    with_true : (b : Bool) → operate Xor b true ≡ not b
    with_true true = refl
    with_true false = refl
inverts entry d0 d1 d2 x f (Err stop) (Ok r) is m j = absurd j.function
