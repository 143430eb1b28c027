-- What is told after a load that leaves all as it is, told of the worker before it.
use Rattle.std.proofs.Common.{◌≡◌, ℕ, ◌+◌, ◌-◌, ◌^◌, ◌<◌, ◌≤◌, ◌⊎◌, List, [], ◌∷◌, ◌++◌, set}
use Rattle.std.proofs.Common.{get_or, length, Option, Some, None, IfSome, sym, ap, subst, ◌∙◌, inl}
use Rattle.std.proofs.Common.{inr, ⊎_elim}
use Rattle.std.proofs.lemmas.List.{set-get_or}
use Rattle.eqc_tree.specs.Tree.{value}
use Rattle.eqc_tree.specs.Operation.{operate}
use Rattle.eqc_tree.specs.declared.operation.Op.{Op}
use Rattle.eqc_core.specs.declared.phase.Phase.{Phase}
use Rattle.eqc_core.specs.declared.phase.Phase.TheVariants.{Idle}
use Rattle.eqc_core.specs.declared.sizes.Sizes.{Sizes}
use Rattle.eqc_core.specs.View.{View, phase_at}
use Rattle.eqc_core.specs.Words.{times, slots_of, result_of}
use Rattle.eqc_core.specs.Moves.{IsQuiet, with_phase}
use Rattle.eqc_core.specs.Announcing.{MayLook}
use Rattle.eqc_guard.specs.declared.reference.Ref.{Ref}
use Rattle.eqc_guard.specs.Known.{IsHeld}
use Rattle.eqc_guard.specs.Rule.{cells_from}
use Rattle.eqc_guard.specs.Standing.{Standing, Steps}
use Rattle.eqc_guard.specs.Telling.{Copies}
use Rattle.eqc_guard.specs.Copying.{cell_in, KeepsCells}
use Rattle.eqc_guard.specs.Acquiring.{IsAt, IsPassed}
use Rattle.eqc_guard.proofs.Acquiring.{starts, joins, held_tree_stays}
use Rattle.eqc_guard.proofs.Closing.{read_stays}
use Rattle.eqc_guard.proofs.Copying.{load_keeps, cells_on}
use Rattle.eqc_guard.proofs.Learning.{keeps_on}
use Rattle.eqc_guard.proofs.Snapshots.{snapshots_on, first_all}
use Rattle.eqc_cache.specs.Finding.{IsOrdered, IsHit}
use Rattle.eqc_cache.specs.Placing.{in_order, place_of, IsEntry, HasResult, HasNone, HasResultAt}
use Rattle.eqc_cache.specs.Placing.{HasNoneAt}
use Rattle.eqc_cache.proofs.Hits.{ordered_hit}

module _ (old mid : Standing) (loads : Steps old old.known.core mid) where
  same_phase : with_phase old.known.core 0 (phase_at old.known.core 0) ≡ old.known.core
  same_phase = ap (λ (ps : List Phase). record old.known.core { phases = ps })
      (set-get_or old.known.core.phases 0 Idle)

  -- the phase is what it was
  still : IsAt 0 (phase_at old.known.core 0) old mid
  still = starts 0 old mid (phase_at old.known.core 0) (subst (λ (v : View). Steps old v mid)
      (sym same_phase) loads)

  pub passes : IsQuiet (phase_at old.known.core 0) → IsPassed 0 old mid
  passes quiet = record { phase = phase_at old.known.core 0; quiet = quiet; stands = still }

  pub may_on : (cell : ℕ) → MayLook old.known.core 0 0 → cell < old.known.core.sizes.cells
      → MayLook mid.known.core 0 cell
  may_on cell may there = subst (λ (v : View). MayLook v 0 cell) (sym loads.known.core) (
    may.0,
    may.1,
    there,
    may.3,
  )

  pub passed_on : (new : Standing) → IsPassed 0 mid new → IsPassed 0 old new
  passed_on new p = record {
    phase = p.phase;
    quiet = p.quiet;
    stands =
        joins 0 old mid new (phase_at old.known.core 0) p.phase still p.stands;
  }

  hit_on : (op : Op) (f g r : ℕ) (new : Standing) → IsHeld old.known.core f
      → IsHeld old.known.core g → IsHit op f g r mid new → IsHit op f g r old new
  hit_on op f g r new first second hit =
      let left = held_tree_stays 0 (phase_at old.known.core 0) old mid f still first in
      let right = held_tree_stays 0 (phase_at old.known.core 0) old mid g still second in
      record {
        forest = hit.forest ∙ loads.forest;
        phase = hit.phase;
        quiet = hit.quiet;
        core = hit.core ∙ ap (λ (v : View). record v {
          held = v.held ++ slots_of (r ∷ []);
          phases =
              set v.phases 0 hit.phase;
        }) loads.known.core;
        result = λ a. (λ i. operate op (value (sym left i) a) (value (sym right i) a))
            ∙ hit.result a;
        trees = λ x two h. hit.trees x two (subst (λ (v : View). 0 < times x v.held)
            (sym loads.known.core) h) ∙ still.trees x two h;
        snapshots = snapshots_on old.known mid.known new.known (first_all old.known mid.known
            still.others) hit.snapshots;
        copy = keeps_on old.known mid.known new.known loads.known.copy hit.copy;
        known = hit.known;
      }

  pub hits_on : (op : Op) (f g m n : ℕ) (p : ℕ × ℕ) (new : Standing) (found : Option Ref) → m ≡ f
      → n ≡ g → IsOrdered op m n p → IsHeld old.known.core p.0 → IsHeld old.known.core p.1
      → IfSome found (λ r. IsHit op p.0 p.1 r.number mid new)
      → IfSome found (λ r. IsHit op f g r.number old new)
  hits_on op f g m n p new None a b is first second hit = tt
  hits_on op f g m n p new (Some r) a b is first second hit = ordered_hit op f g m n r.number p old
      new a b is (hit_on op p.0 p.1 r.number new first second hit)

  -- and so is a copy of the words
  module _ (i word : ℕ) (copies : Copies old.known i word word mid.known) where
    sizes : mid.known.core.sizes ≡ old.known.core.sizes
    sizes = ap (λ (v : View). v.sizes) loads.known.core

    pub load_leaves : KeepsCells old.known mid.known
    load_leaves = load_keeps old.known mid.known i word copies

    pub cells_after : (new : Standing) → KeepsCells mid.known new.known
        → KeepsCells old.known new.known
    cells_after new keeps = cells_on old.known mid.known new.known sizes load_leaves keeps

    -- the cell is that of the operands in order
    module _ (op : Op) (f g m n cells cell : ℕ) (p : ℕ × ℕ) (left : m ≡ f) (right : n ≡ g)
        (order : p ≡ in_order op m n)
        (all : cells ≡ old.known.core.sizes.cells) (at : cell ≡ place_of cells op (p.0, p.1)) where
      abbrev here : ℕ × (ℕ × ℕ)
      here = (place_of old.known.core.sizes.cells op (in_order op f g), in_order op f g)

      ordered : p ≡ in_order op f g
      ordered = order ∙ (λ i. in_order op (left i) (right i))

      same : (cell, p) ≡ here
      same = λ i. ((at ∙ (λ j. place_of (all j) op (ordered j))) i, ordered i)

      result_after : (r : ℕ) → HasResultAt op p cell r mid.known → HasResult op f g r old.known
      result_after r has ws is = subst
          (λ (t : ℕ × (ℕ × ℕ)). IsEntry op t.1 (cell_in old.known ws t.0)
          × (result_of (cell_in old.known ws t.0) ≡ r))
          same
          (subst
          (λ (z : Sizes). IsEntry op p (get_or ws (cells_from z + cell) 0)
          × (result_of (get_or ws (cells_from z + cell) 0) ≡ r))
          sizes
          (has ws (read_stays old.known mid.known i word ws copies is).0))

      pub results_after : (found : Option Ref)
          → IfSome found (λ r. HasResultAt op p cell r.number mid.known)
          → IfSome found (λ r. HasResult op f g r.number old.known)
      results_after None has = tt
      results_after (Some r) has = result_after r.number has

      none_after : HasNoneAt op p cell mid.known → HasNone op f g old.known
      none_after none ws is entry = none ws (read_stays old.known mid.known i word ws copies is).0
          (subst
          (λ (z : Sizes). IsEntry op p (get_or ws (cells_from z + cell) 0))
          (sym sizes)
          (subst (λ (t : ℕ × (ℕ × ℕ)). IsEntry op t.1 (cell_in old.known ws t.0)) (sym same) entry))

      pub missed_after : (2 ^ 32 - 1 ≤ length mid.known.core.held) ⊎ HasNoneAt op p cell mid.known
          → (2 ^ 32 - 1 ≤ length old.known.core.held) ⊎ HasNone op f g old.known
      missed_after missed = ⊎_elim
          (λ limit. inl (subst (λ (v : View). 2 ^ 32 - 1 ≤ length v.held) loads.known.core limit))
          (λ none. inr (none_after none))
          missed
