-- What steps leave of snapshots.
use Rattle.std.proofs.Common.{◌≡◌, ℕ, ◌<◌, ◌≤◌, List, set, get_or, refl, sym, ap, subst, ◌∙◌, arith}
use mathlib.Core.Option.{some}
use native.Mathlib.Decide.{ℕ_discrete}
use lib.ListN.{get_elem?}
use Rattle.eqc_core.specs.declared.phase.Phase.{Phase}
use Rattle.eqc_core.specs.declared.phase.Phase.TheVariants.{Idle, Confirmed}
use Rattle.eqc_core.specs.View.{View, phase_at}
use Rattle.eqc_core.specs.Words.{times}
use Rattle.eqc_core.specs.Moves.{IsQuiet}
use Rattle.eqc_core.proofs.Lists.{set_else, at_get}
use Rattle.eqc_guard.specs.Known.{Known, names_of, tree_of}
use Rattle.eqc_guard.specs.Standing.{Standing, Steps}
use Rattle.eqc_guard.specs.Snapshots.{IsSnapshot, KeepsSnapshot, KeepsSnapshots, KeepsOthers}
use Rattle.eqc_guard.proofs.Learning.{confirmed_named}

-- a worker that does nothing keeps them
pub all_stay : (k : Known) → KeepsSnapshots k k
all_stay k i x is = (is, refl)

-- and so do two calls that keep them
pub snapshots_on : (a b c : Known) → KeepsSnapshots a b → KeepsSnapshots b c → KeepsSnapshots a c
snapshots_on a b c first second i x is =
    let mid = first i x is in
    let last = second i x mid.0 in
    (last.0, last.1 ∙ mid.1)

-- where all phases stay, and the trees of what was named, they are kept
pub named_keep : (k after : Known) → after.core.phases ≡ k.core.phases
    → ((x : ℕ) → 2 ≤ x → 0 < times x (names_of k.core) → tree_of after x ≡ tree_of k x)
    → KeepsSnapshots k after
named_keep k after same trees i x is = (
  (
    is.0,
    is.1,
    ap (λ (ps : List Phase). get_elem? ps i) same
        ∙ is.2,
  ),
  trees x is.1 (confirmed_named k.core i x is.2),
)

module _ (old new : Standing) (v : View) (s : Steps old v new) where
  -- a step keeps that of a word whose phase it leaves
  keeps_one : (i x : ℕ) → get_elem? v.phases i ≡ get_elem? old.known.core.phases i
      → IsSnapshot old.known.core i x → KeepsSnapshot i x old.known new.known
  keeps_one i x same is =
      let there : get_elem? v.phases i ≡ some (Confirmed x) = same ∙ is.2 in (
        (is.0, is.1, ap (λ (u : View). get_elem? u.phases i) s.known.core ∙ there),
        s.known.agrees x is.1 (confirmed_named old.known.core i x is.2) (confirmed_named v i x
            there),
      )

  pub steps_keep : v.phases ≡ old.known.core.phases → KeepsSnapshots old.known new.known
  steps_keep same i x is = keeps_one i x (ap (λ (ps : List Phase). get_elem? ps i) same) is

  -- a step that sets the phase of one word keeps those of the others
  pub others_keep : (j : ℕ) (p : Phase) → v.phases ≡ set old.known.core.phases j p
      → KeepsOthers j old.known new.known
  others_keep j p sets i x other is = keeps_one i x (ap (λ (ps : List Phase). get_elem? ps i) sets
      ∙ set_else old.known.core.phases j i p other) is

  pub first_keeps : (p : Phase) → v.phases ≡ set old.known.core.phases 0 p
      → KeepsSnapshots old.known new.known
  first_keeps p sets i x is = others_keep 0 p sets i x (λ e. let far = is.0 in omega arith) is

-- two calls that keep all but one
pub others_on : (j : ℕ) (a b c : Known) → KeepsOthers j a b → KeepsOthers j b c → KeepsOthers j a c
others_on j a b c first second i x other is =
    let mid = first i x other is in
    let last = second i x other mid.0 in
    (last.0, last.1 ∙ mid.1)

-- by the first word there is none
pub first_all : (k after : Known) → KeepsOthers 0 k after → KeepsSnapshots k after
first_all k after others i x is = others i x (λ e. let far = is.0 in omega arith) is

-- by a word that announces nothing there is none
pub quiet_keeps : (j : ℕ) (k after : Known) → IsQuiet (phase_at k.core j) → KeepsOthers j k after
    → KeepsSnapshots k after
quiet_keeps j k after quiet others i x is = go (ℕ_discrete i j)
  where
    go : Dec (i ≡ j) → KeepsSnapshot i x k after
    go (yes e) = absurd (subst (λ (p : Phase). IsQuiet p)
        (ap (λ (n : ℕ). get_or k.core.phases n Idle) (sym e)
        ∙ at_get k.core.phases i (Confirmed x) Idle is.2) quiet)
    go (no n) = others i x n is
