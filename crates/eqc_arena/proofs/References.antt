-- References that are counted up and given back, and the children of a node that is read.
use Rattle.std.proofs.Common.{◌≡◌, ℕ, ◌/◌, ◌%◌, ◌^◌, ◌<◌, ◌≤◌, [], ◌∷◌, ◌++◌, Option, Some, Result}
use Rattle.std.proofs.Common.{Ok, Err, OnOk, OnErr, refl, sym, ap, subst, ◌∙◌, arith, inl, inr}
use native.Mathlib.Decide.{ℕ_discrete, dec_le}
use Rattle.eqc_tree.specs.Tree.{Node}
use Rattle.eqc_tree.specs.declared.stopping.Stop.{Stop}
use Rattle.eqc_core.specs.View.{View, Read}
use Rattle.eqc_core.specs.Words.{times, slots_of, children, variable_of, low_of, high_of}
use Rattle.eqc_core.specs.Moves.{forget}
use Rattle.eqc_core.specs.Counting.{upped, downed}
use Rattle.eqc_core.specs.Making.{read_node}
use Rattle.eqc_core.proofs.Names.{times-append, two_cases, names_low, names_high}
use Rattle.eqc_guard.specs.Known.{Known, IsHeld, IsKnown, IsNamed, names_of, tree_of}
use Rattle.eqc_guard.specs.Making.{Reads}
use Rattle.eqc_guard.specs.Standing.{Standing, Steps}
use Rattle.eqc_guard.specs.declared.reference.Ref.{Ref}
use Rattle.eqc_guard.proofs.Acquiring.{constant_trees}
use Rattle.eqc_guard.proofs.Learning.{names_is, held_named}
use Rattle.eqc_guard.proofs.Sweeping.{forget_none}
use Rattle.eqc_arena.specs.Changing.{Changes, Exchanges}
use Rattle.eqc_arena.specs.Nodes.{MayCount, KeepsTrees}
use Rattle.eqc_arena.proofs.Changing.{stays, ups, downs}

-- a reference is given back
pub gives : (x : ℕ) (old new : Standing) → IsKnown old.known → IsHeld old.known.core x
    → (x < 2 → new ≡ old) →
    (2 ≤ x → Steps old (downed old.known.core x) new) → Exchanges (slots_of (x ∷ [])) [] old new
gives x old new known held same step = elim (two_cases x) [
  | inl t ↦ rw t.0 (subst (λ (s : Standing). Changes [] [] old.known.core.hand old.known.core.draft
      old s) (sym (same t.1)) (stays old known))
  | inr t ↦ rw t.0 (downs x old new (there held t.1) (step t.1))
]
  where
    there : IsHeld old.known.core x → 2 ≤ x → 0 < times x old.known.core.held
    there (inl lt) two = absurd (omega arith)
    there (inr h) two = h

-- a constant is not counted
pub counts_none : (x : ℕ) (s : Standing) → IsKnown s.known → x < 2
    → Exchanges [] (slots_of (x ∷ [])) s s
counts_none x s known small = elim (two_cases x) [
  | inl t ↦ rw t.0 (stays s known)
  | inr t ↦
      absurd (let two = t.1 in omega arith)
]

pub counts_one : (x : ℕ) (old new : Standing) → 2 ≤ x → Steps old (upped old.known.core x) new
    → Exchanges [] (slots_of (x ∷ [])) old new
counts_one x old new two s = elim (two_cases x) [
  | inl t ↦ absurd (let small = t.1 in omega arith)
  | inr t ↦ rw t.0 (ups x old new s)
]

-- the node last read is still held after one more count
pub read_stays : (x : ℕ) (old new : Standing) → IsKnown old.known
    → Steps old (upped old.known.core x) new → new.known.core.read ≡ old.known.core.read
read_stays x old new known s =
    ap (λ (v : View). v.read) s.known.core
    ∙ forget_none (old.known.core.held ++ x ∷ []) old.known.core.read (λ r e. let h = known.read r e
    in omega (arith, times-append r.name old.known.core.held (x ∷ [])))

pub trees_stay : (x : ℕ) (old new : Standing) → IsKnown old.known
    → Steps old (upped old.known.core x) new → KeepsTrees old.known new.known
trees_stay x old new known s y (inl lt) = constant_trees new.known.trees old.known.trees y lt
    (ℕ_discrete y 0) (ℕ_discrete y 1)
trees_stay x old new known s y (inr h) = go (dec_le 2 y)
  where
    read : forget (old.known.core.held ++ x ∷ []) old.known.core.read ≡ old.known.core.read
    read = forget_none (old.known.core.held ++ x ∷ []) old.known.core.read (λ r e. let h =
        known.read r e in omega (arith, times-append r.name old.known.core.held (x ∷ [])))

    named : 0 < times y (names_of (upped old.known.core x))
    named = subst (λ (o : Option Read). 0
        < times y (names_of (record old.known.core {
          held = old.known.core.held ++ x ∷ [];
          read =
              o;
        }))) (sym read)
        (omega (
          arith,
          names_is y old.known.core,
          names_is y (record old.known.core {
            held =
                old.known.core.held ++ x ∷ [];
          }),
          times-append y old.known.core.held (x ∷ []),
        ))

    go : Dec (2 ≤ y) → tree_of new.known y ≡ tree_of old.known y
    go (yes two) = s.known.agrees y two h named
    go (no n) = constant_trees new.known.trees old.known.trees y (omega arith) (ℕ_discrete y 0)
        (ℕ_discrete y 1)

-- over an answer
pub counted : (x : ℕ) (old new : Standing) (o : Result Ref Stop) → 2 ≤ x
    → OnOk o (Steps old (upped old.known.core x) new)
    → OnOk o (Exchanges [] (slots_of (x ∷ [])) old new)
counted x old new (Ok r) two s = counts_one x old new two s
counted x old new (Err e) two s = tt

pub trees_kept : (x : ℕ) (old new : Standing) (o : Result Ref Stop) → IsKnown old.known
    → OnOk o (Steps old (upped old.known.core x) new) → OnOk o (KeepsTrees old.known new.known)
trees_kept x old new (Ok r) known s = trees_stay x old new known s
trees_kept x old new (Err e) known s = tt

pub read_kept : (x : ℕ) (old new : Standing) (o : Result Ref Stop) → IsKnown old.known
    → OnOk o (Steps old (upped old.known.core x) new)
    → OnOk o (new.known.core.read ≡ old.known.core.read)
read_kept x old new (Ok r) known s = read_stays x old new known s
read_kept x old new (Err e) known s = tt

-- what is held may be counted
pub held_counts : (k : Known) (x : ℕ) → IsHeld k.core x → MayCount k.core x
held_counts k x (inl lt) = inl lt
held_counts k x (inr h) = inr (held_named k.core x h, inl h)

-- a child of the node last read may be counted
pub child_counts : (v : View) (x y word : ℕ) → v.read ≡ Some (record { name = x; word = word })
    → 0 < times y (children word) → MayCount v y
child_counts v x y word is there =
    inr (named, inr (inr (inr (record { name = x; word = word }, is, there))))
  where
    read : 0 < times y (names_of (record v { read = Some (record { name = x; word = word }) }))
    read = omega (arith, names_is y (record v { read = Some (record { name = x; word = word }) }))

    named : 0 < times y (names_of v)
    named = subst (λ (o : Option Read). 0 < times y (names_of (record v { read = o }))) (sym is)
        read

-- the children in the word
pub low_is : (word : ℕ) → low_of word ≡ word / 2 ^ 20 % 2 ^ 20
unfolding low_of
low_is word = refl

pub high_is : (word : ℕ) → high_of word ≡ word % 2 ^ 20
unfolding high_of
high_is word = refl

pub variable_is : (word : ℕ) → variable_of word < 2 ^ 16 → word / 2 ^ 40 % 2 ^ 16 ≡ variable_of word
unfolding variable_of
variable_is word small = omega arith

named_is : (v : View) (x : ℕ) → MayCount v x → IsNamed v x
named_is v x (inl lt) = inl lt
named_is v x (inr p) = inr p.0

-- an error carries what it is said to
pub on_err : {A E P : Type 0} (o : Result A E) → P → OnErr o P
on_err (Ok a) p = tt
on_err (Err e) p = p

-- a node was read, and then its children are counted
module _ (s0 s1 : Standing) (x word : ℕ) (read : Steps s0 (read_node s0.known.core x word) s1) where
  read_now : s1.known.core.read ≡ Some (record { name = x; word = word })
  read_now = ap (λ (v : View). v.read) read.known.core

  pub low_counts : (y : ℕ) → y ≡ word / 2 ^ 20 % 2 ^ 20 → MayCount s1.known.core y
  low_counts y e = subst (λ (n : ℕ). MayCount s1.known.core n) (low_is word
      ∙ sym e) (child_counts s1.known.core x (low_of word) word read_now (names_low word))

  module _ (s2 : Standing) (stays : s2.known.core.read ≡ s1.known.core.read) where
    pub high_counts : (y : ℕ) → y ≡ word % 2 ^ 20 → MayCount s2.known.core y
    high_counts y e = subst (λ (n : ℕ). MayCount s2.known.core n) (high_is word
        ∙ sym e) (child_counts s2.known.core x (high_of word) word (stays
        ∙ read_now) (names_high word))

    pub opened : (s3 : Standing) (low high : ℕ) (p : ℕ × ℕ × ℕ) → KeepsTrees s1.known s2.known
        → KeepsTrees s2.known s3.known → Reads s0.known x word s1.known
        → p ≡ (word / 2 ^ 40 % 2 ^ 16, word / 2 ^ 20 % 2 ^ 20, word % 2 ^ 20) → low ≡ p.1
        → high ≡ p.2 → tree_of s0.known x ≡ Node p.0 (tree_of s3.known low)
        (tree_of s3.known high)
    opened s3 low high p first second tells is l h =
        let variable : variable_of word ≡ p.0 = sym (ap (λ (q : ℕ × ℕ × ℕ). q.0) is
        ∙ variable_is word tells.small) in
        let lower : low_of word ≡ low = low_is word ∙ sym (l ∙ ap (λ (q : ℕ × ℕ × ℕ). q.1) is) in
        let higher : high_of word ≡ high = high_is word ∙ sym (h ∙ ap (λ (q : ℕ × ℕ × ℕ). q.2) is)
        in
        let low_tree : tree_of s1.known (low_of word) ≡ tree_of s3.known (low_of word) =
        sym (second (low_of word) (named_is s2.known.core (low_of word) (child_counts s2.known.core
        x (low_of word) word (stays ∙ read_now) (names_low word)))
        ∙ first (low_of word) (named_is s1.known.core (low_of word) (child_counts s1.known.core x
        (low_of word) word read_now (names_low word)))) in
        let high_tree : tree_of s1.known (high_of word) ≡ tree_of s3.known (high_of word) =
        sym (second (high_of word) (named_is s2.known.core (high_of word)
        (child_counts s2.known.core x (high_of word) word (stays ∙ read_now) (names_high word)))
        ∙ first (high_of word) (named_is s1.known.core (high_of word) (child_counts s1.known.core x
        (high_of word) word read_now (names_high word)))) in
        tells.tree ∙ ((λ i. Node (variable i) (low_tree i) (high_tree i))
        ∙ (λ i. Node p.0 (tree_of s3.known (lower i)) (tree_of s3.known (higher i))))
