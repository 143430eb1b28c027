-- Each state of each run is lawful.
use Rattle.std.proofs.Common.{◌≡◌, ℕ, ◌+◌, ◌^◌, ◌<◌, ◌≤◌, List, [], ◌∷◌, length, get_or, true}
use Rattle.std.proofs.Common.{false, sym, ap, subst, ◌∙◌, arith}
use mathlib.Core.Option.{some, none}
use native.Mathlib.Decide.{dec_le}
use lib.ListN.{get_elem?}
use Rattle.eqc_tree.specs.Word.{node_word}
use Rattle.eqc_core.specs.declared.sizes.Sizes.{Sizes}
use Rattle.eqc_core.specs.declared.event.Event.{Event}
use Rattle.eqc_core.specs.declared.event.Step.{Step}
use Rattle.eqc_core.specs.declared.event.Step.TheVariants.{Split, Join, Announce, Look, Recheck, Up}
use Rattle.eqc_core.specs.declared.event.Step.TheVariants.{Down, SwapCell, ScanOne, Lock, Unlock}
use Rattle.eqc_core.specs.declared.event.Step.TheVariants.{Claim, Unclaim, WriteNode, ReadNode}
use Rattle.eqc_core.specs.declared.event.Step.TheVariants.{Reclaim, SwapBox, LookBox}
use Rattle.eqc_core.specs.View.{View, unused, view_at, draft_of, hand_of}
use Rattle.eqc_core.specs.Tables.{Entries, entries_of}
use Rattle.eqc_core.specs.Lawful.{Lawful}
use Rattle.eqc_core.specs.State.{State, IsLawful, IsWithinLimits, opening}
use Rattle.eqc_core.specs.Run.{May, view_after, words_after, homes_after, views_after, IsAllowed}
use Rattle.eqc_core.specs.Run.{after, Runs}
use Rattle.eqc_core.specs.Facts.{ConfirmedCounted}
use Rattle.eqc_core.proofs.Lists.{get_at, get_past, at_get}
use Rattle.eqc_core.proofs.Announcing.{look_keeps, announce_keeps, recheck_keeps}
use Rattle.eqc_core.proofs.Counting.{up_keeps, down_keeps}
use Rattle.eqc_core.proofs.Caching.{swap_keeps}
use Rattle.eqc_core.proofs.Sharing.{swap_box_keeps}
use Rattle.eqc_core.proofs.Scanning.{scan_keeps}
use Rattle.eqc_core.proofs.Splitting.{split_keeps}
use Rattle.eqc_core.proofs.Joining.{join_keeps}
use Rattle.eqc_core.proofs.Locking.{table_is_there, lock_keeps, lock_lost_keeps, unlock_keeps}
use Rattle.eqc_core.proofs.Claiming.{claimed_is_free, claim_keeps, claim_lost_keeps, unclaim_keeps}
use Rattle.eqc_core.proofs.Claiming.{read_keeps}
use Rattle.eqc_core.proofs.Writing.{write_keeps}
use Rattle.eqc_core.proofs.Reclaiming.{reclaim_keeps, reclaimed_is_free}
use Rattle.eqc_core.specs.Laws.{IsGivenOnce}
use Rattle.eqc_core.proofs.Confirmed.{confirmed_counted}
use Rattle.eqc_core.proofs.Opening.{opening_lawful}

-- an active view stands in the list
pub active_there : (vs : List View) (id : ℕ) → (view_at vs id).active ≡ true
    → get_elem? vs id ≡ some (view_at vs id)
active_there vs id on = go (dec_le (length vs) id)
  where
    go : Dec (length vs ≤ id) → get_elem? vs id ≡ some (view_at vs id)
    go (yes past) = absurd (let q : false ≡ true =
        ap (λ (v : View). v.active) (sym (get_past vs id unused past)) ∙ on in cc)
    go (no lt) = get_at vs id unused (omega arith)

step_lawful : (s : State) (id : ℕ) (v : View) (p : Step) → IsLawful s → get_elem? s.views id
    ≡ some v → v.active ≡ true → May s v p → length (view_after s v p).held ≤ 2 ^ 40
    → Lawful s.sizes (words_after s id v p) (homes_after s v p) (views_after s id v p)
step_lawful s id v (Split to) law at on may room = split_keeps s.sizes s.words s.homes s.views id to
    v law at on may
step_lawful s id v (Join from) law at on may room =
    join_keeps s.sizes s.words s.homes s.views id from v (view_at s.views from) law at on
    (active_there s.views from may.3) may room
step_lawful s id v (Announce k x) law at on may room = announce_keeps s.sizes s.words s.homes
    s.views id v law at on k x may
step_lawful s id v (Look k c) law at on may room = look_keeps s.sizes s.words s.homes s.views id v
    law at on k c may
step_lawful s id v (Recheck k) law at on may room = recheck_keeps s.sizes s.words s.homes s.views id
    v law at on k may
step_lawful s id v (Up x) law at on may room = up_keeps s.sizes s.words s.homes s.views id v law at
    on x may room
step_lawful s id v (Down x) law at on may room = down_keeps s.sizes s.words s.homes s.views id v law
    at on x may
step_lawful s id v (SwapCell c word) law at on may room = swap_keeps s.sizes s.words s.homes s.views
    id v law at on c word may room
step_lawful s id v ScanOne law at on may room = scan_keeps s.sizes s.words s.homes s.views id v law
    at on may room
step_lawful s id v (Lock i true) law at on may room =
    let home = table_is_there s.sizes s.words s.homes s.views i law may.0.1 may.1 in
    let t : entries_of (get_or s.homes i none) ≡ home.0 =
    ap entries_of (at_get s.homes i (some home.0) none home.1) in
    lock_keeps s.sizes s.words s.homes s.views id v law at on i (entries_of (get_or s.homes i none))
    may.0 may.1 (home.1 ∙ ap (λ (y : Entries). some (some y)) (sym t))
step_lawful s id v (Lock i false) law at on may room = lock_lost_keeps s.sizes s.words s.homes
    s.views id v law at
step_lawful s id v (Unlock i) law at on may room = unlock_keeps s.sizes s.words s.homes s.views id v
    law at on (hand_of v.hand) (hand_of v.hand).entries may.0
step_lawful s id v (Claim x true) law at on may room = claim_keeps s.sizes s.words s.homes s.views
    id v law at on x may.0 may.1
step_lawful s id v (Claim x false) law at on may room = claim_lost_keeps s.sizes s.words s.homes
    s.views id v law at on x
step_lawful s id v Unclaim law at on may room = unclaim_keeps s.sizes s.words s.homes s.views id v
    law at on (draft_of v.draft) may
step_lawful s id v (WriteNode variable low high) law at on may room =
    write_keeps s.sizes s.words s.homes s.views id v law at on (draft_of v.draft)
    (node_word variable low high) (hand_of v.hand) may.word room
step_lawful s id v (ReadNode x) law at on may room = read_keeps s.sizes s.words s.homes s.views id v
    law at on x may
step_lawful s id v (Reclaim x) law at on may room = reclaim_keeps s.sizes s.words s.homes s.views id
    v law at on x (hand_of v.hand) may room
step_lawful s id v (SwapBox b word) law at on may room = swap_box_keeps s.sizes s.words s.homes
    s.views id v law at on b word may room
step_lawful s id v (LookBox b) law at on may room = lock_lost_keeps s.sizes s.words s.homes s.views
    id v law at

-- an allowed event leads from a lawful state to a lawful one
pub event_lawful : (s : State) (e : Event) → IsLawful s → IsAllowed s e → IsLawful (after s e)
event_lawful s e law allowed = step_lawful s e.worker (view_at s.views e.worker) e.step law
    (active_there s.views e.worker allowed.active) allowed.active allowed.may allowed.room

pub runs_lawful : (s : State) (es : List Event) (t : State) → IsLawful s → Runs s es t → IsLawful t
runs_lawful s [] t law is = subst (λ (u : State). IsLawful u) is law
runs_lawful s (e ∷ es) t law is = runs_lawful (after s e) es t (event_lawful s e law is.0) is.1

pub run_is_lawful : (z : Sizes) (n : ℕ) (es : List Event) (t : State) → IsWithinLimits z
    → n + 2 ≤ z.names → n ≤ z.variables → Runs (opening z n) es t → IsLawful t × ConfirmedCounted t
run_is_lawful z n es t limits fits few is =
    let law = runs_lawful (opening z n) es t (opening_lawful z n limits fits few) is in (
      law,
      λ id k x v at on confirmed. confirmed_counted t.sizes t.words t.homes t.views law id k x v
          at on confirmed,
    )

-- what an allowed step claims is free, and what it takes back is its table's alone
given_once : (s : State) (id : ℕ) (v : View) (p : Step) → IsLawful s → get_elem? s.views id ≡ some v
    → v.active ≡ true → May s v p → IsGivenOnce s p
given_once s id v (Split to) law at on may = tt
given_once s id v (Join from) law at on may = tt
given_once s id v (Announce k x) law at on may = tt
given_once s id v (Look k c) law at on may = tt
given_once s id v (Recheck k) law at on may = tt
given_once s id v (Up x) law at on may = tt
given_once s id v (Down x) law at on may = tt
given_once s id v (SwapCell c word) law at on may = tt
given_once s id v ScanOne law at on may = tt
given_once s id v (Lock i won) law at on may = tt
given_once s id v (Unlock i) law at on may = tt
given_once s id v (Claim x true) law at on may =
    claimed_is_free s.sizes s.words s.homes s.views x law may.0.1 (subst (λ (z : Sizes). x
    < z.names) (law.views id v at on).sizes may.0.2) may.1
given_once s id v (Claim x false) law at on may = tt
given_once s id v Unclaim law at on may = tt
given_once s id v (WriteNode variable low high) law at on may = tt
given_once s id v (ReadNode x) law at on may = tt
given_once s id v (Reclaim x) law at on may =
    (reclaimed_is_free s.sizes s.words s.homes s.views id v law at on x (hand_of v.hand) may).0
given_once s id v (SwapBox b word) law at on may = tt
given_once s id v (LookBox b) law at on may = tt

pub no_slot_given_again : (z : Sizes) (n : ℕ) (es : List Event) (t : State) (e : Event)
    → IsWithinLimits z → n + 2 ≤ z.names → n ≤ z.variables →
    Runs (opening z n) es t → IsAllowed t e → IsGivenOnce t e.step
no_slot_given_again z n es t e limits fits few is may =
    let law = runs_lawful (opening z n) es t (opening_lawful z n limits fits few) is in
    given_once t e.worker (view_at t.views e.worker) e.step law (active_there t.views e.worker
    may.active) may.active may.may
