-- What the tests know of a worker that they drive step by step.
use Rattle.std.specs.Prelude.{◌≡◌, ℕ, ◌<◌, ◌≤◌, List, [], ◌∷◌, None, cond, eqb, sum_by}
use Rattle.eqc_core.specs.declared.phase.Phase.{Phase}
use Rattle.eqc_core.specs.declared.phase.Phase.TheVariants.{Idle}
use Rattle.eqc_core.specs.View.{View}
use Rattle.eqc_core.specs.Words.{times}
use Rattle.eqc_core.specs.Counting.{upped}
use Rattle.eqc_tree.specs.declared.operation.Op.TheVariants.{And}
use Rattle.eqc_guard.specs.declared.filled.Filled.{Filled}
use Rattle.eqc_guard.specs.declared.reference.Ref.{Ref}
use Rattle.eqc_guard.specs.Known.{IsKnown}
use Rattle.eqc_guard.specs.Standing.{Standing}

-- how many of the references are of the name x
abbrev pub references_of : ℕ → List Ref → ℕ
references_of x refs = sum_by (λ (r : Ref). cond (eqb r.number x) 1 0) refs

-- each reference to a slot is of a name that the worker holds as often
abbrev pub AreCovered : List Ref → List ℕ → Type 0
AreCovered refs held = (x : ℕ) → 2 ≤ x → references_of x refs ≤ times x held

-- how far a worker is: the phase of its first announcement word, its scan, and that the other words
-- are idle and it has neither a draft nor a stripe
pub record IsAt (phase : Phase) (position : ℕ) (v : View) : Type 0 where
  pub four_words : v.sizes.announcements ≡ 4
  pub phases : v.phases ≡ phase ∷ Idle ∷ Idle ∷ Idle ∷ []
  pub place : v.position ≡ position
  pub no_draft : v.draft ≡ None
  pub no_hand : v.hand ≡ None

-- a worker is as its driver has it
pub record IsDriven (phase : Phase) (position : ℕ) (references : List Ref) (s : Standing) : Type 0
  where
    pub stands : IsAt phase position s.known.core
    pub covered : AreCovered references s.known.core.held

-- an entry of the name x alone was counted up: the worker holds x thrice more
pub record IsTriple (x : ℕ) (filled : Filled) (old new : Standing) : Type 0 where
  pub forest : new.forest ≡ old.forest
  pub core : new.known.core ≡ upped (upped (upped old.known.core x) x) x
  pub operation : filled.op ≡ And
  pub first : filled.f.number ≡ x
  pub second : filled.g.number ≡ x
  pub result : filled.r.number ≡ x
  pub known : IsKnown new.known
