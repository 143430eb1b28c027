-- A worker is split off, and joined again: what it held and retired is then the other's.
use Rattle.std.specs.Prelude.{◌≡◌, ◌≢◌, ℕ, ◌+◌, ◌*◌, ◌<◌, ◌≤◌, List, [], ◌∷◌, ◌++◌, length, set}
use Rattle.std.specs.Prelude.{if◌then◌else◌, eqb, max, suc, None, true}
use mathlib.Core.Option.{some}
use lib.ListN.{get_elem?}
use Rattle.eqc_core.specs.declared.phase.Phase.{Phase}
use Rattle.eqc_core.specs.View.{View, fresh, spent, unused, view_at, grown}
use Rattle.eqc_core.specs.Words.{announced_words}
use Rattle.eqc_core.specs.Moves.{IsReady, IsQuiet, with_held, without_each}

-- worker 0 splits off a number that was never active
abbrev pub MaySplit : List View → View → ℕ → Type 0
MaySplit vs v to = IsReady v × (v.number ≡ 0) × (to < v.sizes.workers) × (view_at vs to ≡ unused)

abbrev pub splitter : View → ℕ → View
splitter v to = record v { out = v.out ++ to ∷ []; given = max v.given (suc to) }

abbrev pub split : List View → ℕ → View → ℕ → List View
split vs id v to = set (set (grown vs (suc to)) to (fresh v.sizes to)) id (splitter v to)

-- nothing is announced, scanned, claimed or in hand
pub record IsAtRest (v : View) : Type 0 where
  pub ready : IsReady v
  pub quiet : (k : ℕ) (p : Phase) → get_elem? v.phases k ≡ some p → IsQuiet p
  pub no_draft : v.draft ≡ None
  pub no_hand : v.hand ≡ None

-- another active worker, which is not worker 0, is joined
abbrev pub MayJoin : View → ℕ → View → Type 0
MayJoin v from o = IsReady v × (from ≢ v.number) × (0 < from) × (o.active ≡ true) × IsAtRest o
    × (length v.retired + length o.retired ≤ 2 * announced_words v.sizes)

-- the numbers that came back: at worker 0 they are out no more, at another worker they are taken in
abbrev pub out_after : View → ℕ → View → List ℕ
out_after v from o = if eqb v.number 0 then without_each (from ∷ o.out) v.out else v.out ++ from
    ∷ o.out

abbrev pub joined : View → ℕ → View → View
joined v from o = record (with_held v (v.held ++ o.held)) {
  retired = v.retired ++ o.retired;
  out =
      out_after v from o;
}

abbrev pub join : List View → ℕ → View → ℕ → List View
join vs id v from = set (set vs id (joined v from (view_at vs from))) from spent
