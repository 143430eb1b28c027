-- What the tests know of a worker that makes nodes.
use Rattle.std.specs.Prelude.{◌≡◌, ℕ, ◌<◌, ◌≤◌, List, None, cond, eqb, sum_by}
use Rattle.eqc_core.specs.declared.phase.Phase.{Phase}
use Rattle.eqc_core.specs.declared.phase.Phase.TheVariants.{Idle, Seen, Announced, Confirmed}
use Rattle.eqc_core.specs.declared.phase.Phase.TheVariants.{Missed}
use Rattle.eqc_core.specs.View.{View}
use Rattle.eqc_core.specs.Words.{times}
use Rattle.eqc_guard.specs.declared.reference.Ref.{Ref}
use Rattle.eqc_guard.specs.Standing.{Standing}

-- how many of the references are of the name x
abbrev pub references_of : ℕ → List Ref → ℕ
references_of x references = sum_by (λ (r : Ref). cond (eqb r.number x) 1 0) references

-- how many names a phase announces
abbrev pub announces : Phase → ℕ
announces Idle = 0
announces (Seen c word) = 0
announces (Announced c word) = 1
announces (Confirmed x) = 1
announces (Missed x) = 1

-- nothing is announced, scanned, claimed or in hand
pub record Rests (v : View) : Type 0 where
  pub place : v.position ≡ 0
  pub silent : sum_by announces v.phases ≡ 0
  pub no_draft : v.draft ≡ None
  pub no_hand : v.hand ≡ None

-- a worker is at rest in a forest of at least so many variables that has cells, and holds what the
-- references are of
pub record IsMaking (variables : ℕ) (references : List Ref) (s : Standing) : Type 0 where
  pub rests : Rests s.known.core
  pub four_words : s.known.core.sizes.announcements ≡ 4
  pub cells : 0 < s.known.core.sizes.cells
  pub few : variables ≤ s.known.core.sizes.variables
  pub covered : (x : ℕ) → 2 ≤ x → references_of x references ≤ times x s.known.core.held
