use Rattle.std.proofs.Common.{◌≡◌, ◌<◌, ℕ, List, length, get_or, Option, Some, None, IfSome, sym}
use Rattle.std.proofs.Common.{ap, subst}
use Rattle.eqc_core.specs.declared.phase.Phase.{Phase}
use Rattle.eqc_core.specs.declared.phase.Phase.TheVariants.{Idle}
use Rattle.eqc_core.specs.View.{View}
use Rattle.eqc_core.specs.Moves.{IsQuiet}
use Rattle.eqc_guard.specs.Snapshots.{IsFree}
use Rattle.eqc_guard.specs.Standing.{Standing}
use Rattle.eqc_guard.proofs.worker.Worker.free_word.Goals as goal

-- what is free among the phases is free of the view
module _ (v : View) (ps : List Phase) (words : ℕ) (phases : v.phases ≡ ps) (all : words
    ≡ v.sizes.announcements) where
  abbrev IsQuietAt : ℕ → Type 0
  IsQuietAt k = (0 < k) × (k < words) × IsQuiet (get_or ps k Idle)

  free : (k : ℕ) → IsQuietAt k → IsFree v k
  free k is = (
    is.0,
    subst (λ (n : ℕ). k < n) all is.1,
    subst (λ (qs : List Phase). IsQuiet (get_or qs k Idle)) (sym phases) is.2,
  )

  free_if : (o : Option ℕ) → IfSome o IsQuietAt → IfSome o (λ k. IsFree v k)
  free_if None is = tt
  free_if (Some k) is = free k is

  none_free : ((k : ℕ) → 0 < k → k < words → IsQuiet (get_or ps k Idle) → ⊥) → (k : ℕ) → IsFree v k
      → ⊥
  none_free none k is = none k is.0 (subst (λ (n : ℕ). k < n) (sym all) is.1)
      (subst (λ (qs : List Phase). IsQuiet (get_or qs k Idle)) phases is.2)

pub free_word-requires : goal.free_word-requires
free_word-requires c =
    let is = c.self.invariant in
    let each = is.worker.known.each in
    let long = ap length is.phases_are in
    let sizes = is.worker.sizes in
    cc

pub returns-clause-some : goal.returns-clause-some
returns-clause-some c =
    let v = c.self.view_is in
    let is = c.self.invariant in
    let phases = subst (λ (s : Standing). s.known.core.phases ≡ c.self.inside.phases.items) v
    is.phases_are in
    let all : c.self.inside.sizes.announcements ≡ c.args.self.now.known.core.sizes.announcements =
    subst (λ (s : Standing). c.self.inside.sizes.announcements ≡ s.known.core.sizes.announcements) v
    (sym (ap (λ z. z.announcements) is.worker.sizes)) in
    free_if c.args.self.now.known.core c.self.inside.phases.items c.self.inside.sizes.announcements
    phases all c.free_word.result c.free_word.ensures.some

pub returns-clause-none : goal.returns-clause-none
returns-clause-none c = λ e.
    let v = c.self.view_is in
    let is = c.self.invariant in
    let phases = subst (λ (s : Standing). s.known.core.phases ≡ c.self.inside.phases.items) v
    is.phases_are in
    let all : c.self.inside.sizes.announcements ≡ c.args.self.now.known.core.sizes.announcements =
    subst (λ (s : Standing). c.self.inside.sizes.announcements ≡ s.known.core.sizes.announcements) v
    (sym (ap (λ z. z.announcements) is.worker.sizes)) in
    none_free c.args.self.now.known.core c.self.inside.phases.items
    c.self.inside.sizes.announcements phases all (c.free_word.ensures.none e)
