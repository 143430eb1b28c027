-- What a stored machine needs to take a step: its names are there, and the worker's view is where
-- the state after the step has it.
use Rattle.std.proofs.Common.{◌≡◌, ℕ, zero, suc, ◌+◌, ◌<◌, ◌≤◌, List, [], ◌∷◌, length, set, get_or}
use Rattle.std.proofs.Common.{drop, true, refl, sym, ap, subst, ◌∙◌, arith, inl, inr, length-set}
use Rattle.std.proofs.Common.{get_or-set_same, get_or-set_other}
use native.Mathlib.Decide.{dec_le}
use Rattle.eqc_core.specs.declared.sizes.Sizes.{Sizes}
use Rattle.eqc_core.specs.declared.phase.Phase.{Phase}
use Rattle.eqc_core.specs.declared.phase.Phase.TheVariants.{Idle, Seen, Announced, Confirmed}
use Rattle.eqc_core.specs.declared.phase.Phase.TheVariants.{Missed}
use Rattle.eqc_core.specs.declared.event.Event.{Event}
use Rattle.eqc_core.specs.declared.event.Step.{Step}
use Rattle.eqc_core.specs.declared.event.Step.TheVariants.{Split, Join, Announce, Look, Recheck, Up}
use Rattle.eqc_core.specs.declared.event.Step.TheVariants.{Down, SwapCell, ScanOne, Lock, Unlock}
use Rattle.eqc_core.specs.declared.event.Step.TheVariants.{Claim, Unclaim, WriteNode, ReadNode}
use Rattle.eqc_core.specs.declared.event.Step.TheVariants.{Reclaim, SwapBox, LookBox}
use Rattle.eqc_core.specs.declared.machine.Machine.{Machine}
use Rattle.eqc_core.specs.View.{View, unused, fresh, spent, view_at, grown}
use Rattle.eqc_core.specs.Words.{times, cell_names}
use Rattle.eqc_core.specs.Tables.{IsName}
use Rattle.eqc_core.specs.Lawful.{IsNamed}
use Rattle.eqc_core.specs.Moves.{AreHeld}
use Rattle.eqc_core.specs.Announcing.{IsAnnounced, announced_cell}
use Rattle.eqc_core.specs.Seating.{splitter, joined}
use Rattle.eqc_core.specs.State.{State, IsLawful}
use Rattle.eqc_core.specs.Run.{May, view_after, views_after, IsAllowed, after, Runs, IsStoppedAt}
use Rattle.eqc_core.specs.Machine.{state_of, IsKept, Stands}
use Rattle.eqc_core.proofs.Lists.{at_below}
use Rattle.eqc_core.proofs.Tables.{held_tabled}
use Rattle.eqc_core.proofs.Splitting.{length-grown}
use Rattle.eqc_core.proofs.Runs.{active_there, event_lawful}

pub named_cell : (z : Sizes) (p : Phase) → IsNamed z p → IsAnnounced p → announced_cell p < z.cells
named_cell z Idle n a = absurd a
named_cell z (Seen c word) n a = absurd a
named_cell z (Announced c word) n a = n.0
named_cell z (Confirmed x) n a = absurd a
named_cell z (Missed x) n a = absurd a

-- the names of a word that may be stored are constants or tabled
pub swap_named : (m : Machine) (v : View) (word x : ℕ) → IsKept m → Stands m v
    → AreHeld (cell_names word) v.held → 0 < times x (cell_names word)
    → IsName (state_of m).homes (state_of m).views x
swap_named m v word x kept stands held names = go (dec_le 2 x)
  where
    go : Dec (2 ≤ x) → IsName (state_of m).homes (state_of m).views x
    go (yes two) = let s = state_of m in let h = held x two in
        inr (held_tabled s.sizes s.words s.homes s.views kept.lawful stands.0 x v stands.1 two
        (omega arith))
    go (no n) = inl (omega arith)

-- the view of the worker that stepped stands in its place
pub view_at-after : (s : State) (id : ℕ) (p : Step) → (view_at s.views id).active ≡ true
    → (view_at s.views id).number ≡ id →
    May s (view_at s.views id) p → view_at (views_after s id (view_at s.views id) p) id
    ≡ view_after s (view_at s.views id) p
view_at-after s id (Split to) on number may =
    let b = at_below s.views id (view_at s.views id) (active_there s.views id on) in
    get_or-set_same (set (grown s.views (suc to)) to (fresh (view_at s.views id).sizes to)) id
    (splitter (view_at s.views id) to) unused
    (omega (
      arith,
      length-set (grown s.views (suc to)) to (fresh (view_at s.views id).sizes to),
      length-grown s.views (suc to),
    ))
view_at-after s id (Join from) on number may =
    let b = at_below s.views id (view_at s.views id) (active_there s.views id on) in
    get_or-set_other (set s.views id (joined (view_at s.views id) from (view_at s.views from))) from
    id spent unused (λ e. may.1 (sym e ∙ sym number))
    ∙ get_or-set_same s.views id (joined (view_at s.views id) from (view_at s.views from)) unused b
view_at-after s id (Announce k x) on number may =
    get_or-set_same s.views id (view_after s (view_at s.views id) (Announce k x)) unused
    (at_below s.views id (view_at s.views id) (active_there s.views id on))
view_at-after s id (Look k c) on number may =
    get_or-set_same s.views id (view_after s (view_at s.views id) (Look k c)) unused
    (at_below s.views id (view_at s.views id) (active_there s.views id on))
view_at-after s id (Recheck k) on number may =
    get_or-set_same s.views id (view_after s (view_at s.views id) (Recheck k)) unused
    (at_below s.views id (view_at s.views id) (active_there s.views id on))
view_at-after s id (Up x) on number may =
    get_or-set_same s.views id (view_after s (view_at s.views id) (Up x)) unused
    (at_below s.views id (view_at s.views id) (active_there s.views id on))
view_at-after s id (Down x) on number may =
    get_or-set_same s.views id (view_after s (view_at s.views id) (Down x)) unused
    (at_below s.views id (view_at s.views id) (active_there s.views id on))
view_at-after s id (SwapCell c word) on number may =
    get_or-set_same s.views id (view_after s (view_at s.views id) (SwapCell c word)) unused
    (at_below s.views id (view_at s.views id) (active_there s.views id on))
view_at-after s id ScanOne on number may =
    get_or-set_same s.views id (view_after s (view_at s.views id) ScanOne) unused
    (at_below s.views id (view_at s.views id) (active_there s.views id on))
view_at-after s id (Lock i won) on number may =
    get_or-set_same s.views id (view_after s (view_at s.views id) (Lock i won)) unused
    (at_below s.views id (view_at s.views id) (active_there s.views id on))
view_at-after s id (Unlock i) on number may =
    get_or-set_same s.views id (view_after s (view_at s.views id) (Unlock i)) unused
    (at_below s.views id (view_at s.views id) (active_there s.views id on))
view_at-after s id (Claim x won) on number may =
    get_or-set_same s.views id (view_after s (view_at s.views id) (Claim x won)) unused
    (at_below s.views id (view_at s.views id) (active_there s.views id on))
view_at-after s id Unclaim on number may =
    get_or-set_same s.views id (view_after s (view_at s.views id) Unclaim) unused
    (at_below s.views id (view_at s.views id) (active_there s.views id on))
view_at-after s id (WriteNode variable low high) on number may =
    get_or-set_same s.views id (view_after s (view_at s.views id) (WriteNode variable low high))
    unused (at_below s.views id (view_at s.views id) (active_there s.views id on))
view_at-after s id (ReadNode x) on number may =
    get_or-set_same s.views id (view_after s (view_at s.views id) (ReadNode x)) unused
    (at_below s.views id (view_at s.views id) (active_there s.views id on))
view_at-after s id (Reclaim x) on number may =
    get_or-set_same s.views id (view_after s (view_at s.views id) (Reclaim x)) unused
    (at_below s.views id (view_at s.views id) (active_there s.views id on))
view_at-after s id (SwapBox b word) on number may =
    get_or-set_same s.views id (view_after s (view_at s.views id) (SwapBox b word)) unused
    (at_below s.views id (view_at s.views id) (active_there s.views id on))
view_at-after s id (LookBox b) on number may =
    get_or-set_same s.views id (view_after s (view_at s.views id) (LookBox b)) unused
    (at_below s.views id (view_at s.views id) (active_there s.views id on))

-- an event that was taken leaves a machine whose state is lawful
pub kept_after : (m m' : Machine) (e : Event) → IsKept m → IsAllowed (state_of m) e
    → state_of m' ≡ after (state_of m) e → IsKept m'
kept_after m m' e kept allowed is = record {
  lawful = subst (λ (s : State). IsLawful s) (sym is) (event_lawful (state_of m) e kept.lawful
      allowed);
}

-- what the rest of the events leads to after one of them
pub runs_more : (s s' : State) (e : Event) (rest : List Event) (t : State) → IsAllowed s e
    → s' ≡ after s e → Runs s' rest t → Runs s (e ∷ rest) t
runs_more s s' e rest t allowed is runs = (allowed, subst (λ (u : State). Runs u rest t) is runs)

pub stops_more : (s s' : State) (e : Event) (rest : List Event) (k : ℕ) → IsAllowed s e
    → s' ≡ after s e → IsStoppedAt s' rest k → IsStoppedAt s (e ∷ rest) (suc k)
stops_more s s' e rest k allowed is stops = (
  allowed,
  subst (λ (u : State). IsStoppedAt u rest k) is
      stops,
)

pub drop_here : {A : Type 0} (l : List A) (i : ℕ) (d : A) → i < length l → drop i l ≡ get_or l i d
    ∷ drop (suc i) l
drop_here [] i d lt = absurd (omega arith)
drop_here (x ∷ xs) zero d lt = refl
drop_here (x ∷ xs) (suc i) d lt = drop_here xs i d (omega arith)

pub drop_past : {A : Type 0} (l : List A) (i : ℕ) → length l ≤ i → drop i l ≡ []
drop_past [] zero le = refl
drop_past [] (suc i) le = refl
drop_past (x ∷ xs) zero le = absurd (omega arith)
drop_past (x ∷ xs) (suc i) le = drop_past xs i (omega arith)

-- one turn of the list of events, from its place i on
module _ (start s s' : State) (es : List Event) (i : ℕ) (d : Event) (lt : i < length es) where
  pub stops_here : ((k : ℕ) → IsStoppedAt s (drop i es) k → IsStoppedAt start es (i + k))
      → (IsAllowed s (get_or es i d) → ⊥) → IsStoppedAt start es i
  stops_here stops not =
      let h : IsStoppedAt s (drop i es) 0 = subst (λ (l : List Event). IsStoppedAt s l 0)
      (sym (drop_here es i d lt)) not in
      subst (λ (k : ℕ). IsStoppedAt start es k) (let e : i + 0 ≡ i = omega arith in e) (stops 0 h)

  pub runs_on : ((t : State) → Runs s (drop i es) t → Runs start es t) → IsAllowed s (get_or es i d)
      → s' ≡ after s (get_or es i d) → (t : State) → Runs s' (drop (i + 1) es) t → Runs start es t
  runs_on runs allowed is t rest =
      let r : Runs s' (drop (suc i) es) t = subst (λ (k : ℕ). Runs s' (drop k es) t) (let e : i + 1
      ≡ suc i = omega arith in e) rest in
      runs t (subst (λ (l : List Event). Runs s l t) (sym (drop_here es i d lt))
      (runs_more s s' (get_or es i d) (drop (suc i) es) t allowed is r))

  pub stops_on : ((k : ℕ) → IsStoppedAt s (drop i es) k → IsStoppedAt start es (i + k))
      → IsAllowed s (get_or es i d) →
      s' ≡ after s (get_or es i d) → (k : ℕ) → IsStoppedAt s' (drop (i + 1) es) k
      → IsStoppedAt start es (i + 1 + k)
  stops_on stops allowed is k rest =
      let r : IsStoppedAt s' (drop (suc i) es) k = subst (λ (n : ℕ). IsStoppedAt s' (drop n es) k)
      (let e : i + 1 ≡ suc i = omega arith in e) rest in
      let h = stops (suc k) (subst (λ (l : List Event). IsStoppedAt s l (suc k))
      (sym (drop_here es i d lt)) (stops_more s s' (get_or es i d) (drop (suc i) es) k allowed
      is r)) in
      subst (λ (n : ℕ). IsStoppedAt start es n) (let e : i + suc k ≡ i + 1 + k = omega arith in e) h

-- a run leaves the sizes as they were
pub runs_sizes : (s : State) (es : List Event) (t : State) → Runs s es t → t.sizes ≡ s.sizes
runs_sizes s [] t is = ap (λ (u : State). u.sizes) (sym is)
runs_sizes s (e ∷ es) t is = runs_sizes (after s e) es t is.1
