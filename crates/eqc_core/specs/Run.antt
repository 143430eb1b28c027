-- When an event is allowed, what it changes, and the runs of allowed events.
use Rattle.std.specs.Prelude.{◌≡◌, ℕ, zero, suc, ◌+◌, ◌-◌, ◌^◌, ◌≤◌, List, [], ◌∷◌, length, set}
use Rattle.std.specs.Prelude.{get_or, true, false}
use mathlib.Core.Option.{none}
use Rattle.eqc_tree.specs.Word.{node_word}
use Rattle.eqc_core.specs.declared.event.Event.{Event}
use Rattle.eqc_core.specs.declared.event.Step.{Step}
use Rattle.eqc_core.specs.declared.event.Step.TheVariants.{Split, Join, Announce, Look, Recheck, Up}
use Rattle.eqc_core.specs.declared.event.Step.TheVariants.{Down, SwapCell, ScanOne, Lock, Unlock}
use Rattle.eqc_core.specs.declared.event.Step.TheVariants.{Claim, Unclaim, WriteNode, ReadNode}
use Rattle.eqc_core.specs.declared.event.Step.TheVariants.{Reclaim, SwapBox, LookBox}
use Rattle.eqc_core.specs.View.{View, view_at, phase_at, draft_of, hand_of}
use Rattle.eqc_core.specs.Words.{Words, word_at}
use Rattle.eqc_core.specs.Tables.{Homes, entries_of}
use Rattle.eqc_core.specs.State.{State}
use Rattle.eqc_core.specs.Moves.{with_announced, with_count, with_cell}
use Rattle.eqc_core.specs.Announcing.{MayLook, looked, MayAnnounce, announced, announced_cell}
use Rattle.eqc_core.specs.Announcing.{MayRecheck, rechecked}
use Rattle.eqc_core.specs.Counting.{MayUp, upped, MayDown, downed}
use Rattle.eqc_core.specs.Caching.{MaySwapCell, swapped}
use Rattle.eqc_core.specs.Scanning.{MayScan, scanned}
use Rattle.eqc_core.specs.Locking.{MayTryLock, locked_words, taken_out, locked, MayPutHome}
use Rattle.eqc_core.specs.Locking.{unlocked_words, put_home, unlocked}
use Rattle.eqc_core.specs.Making.{MayTryClaim, claimed_words, claimed, found_taken, MayUnclaim}
use Rattle.eqc_core.specs.Making.{unclaimed_words, unclaimed, MayWriteNode, written_words, wrote}
use Rattle.eqc_core.specs.Making.{MayRead, read_node, MayReclaim, reclaimed_words, reclaimed}
use Rattle.eqc_core.specs.Seating.{MaySplit, splitter, split, MayJoin, joined, join}
use Rattle.eqc_core.specs.Sharing.{MaySwapBox, MayLookBox, boxed_words, boxed}

-- a worker with this view may take the step
abbrev pub May : State → View → Step → Type 0
May s v (Split to) = MaySplit s.views v to
May s v (Join from) = MayJoin v from (view_at s.views from)
May s v (Announce k x) = MayAnnounce v k x
May s v (Look k c) = MayLook v k c
May s v (Recheck k) = MayRecheck v k
May s v (Up x) = MayUp v x
May s v (Down x) = MayDown v x
May s v (SwapCell c word) = MaySwapCell s.words.nodes v c word
May s v ScanOne = MayScan v
May s v (Lock i won) = MayTryLock s.words v i won
May s v (Unlock i) = MayPutHome v i
May s v (Claim x won) = MayTryClaim s.words v x won
May s v Unclaim = MayUnclaim v (draft_of v.draft)
May s v (WriteNode variable low high) = MayWriteNode s.words.nodes v (draft_of v.draft)
    (hand_of v.hand) variable low high
May s v (ReadNode x) = MayRead v x
May s v (Reclaim x) = MayReclaim s.words v (hand_of v.hand) x
May s v (SwapBox b word) = MaySwapBox s.words.nodes v b word
May s v (LookBox b) = MayLookBox v b

-- the worker's view after it
abbrev pub view_after : State → View → Step → View
view_after s v (Split to) = splitter v to
view_after s v (Join from) = joined v from (view_at s.views from)
view_after s v (Announce k x) = announced v k
view_after s v (Look k c) = looked v k c (get_or s.words.cells c 0)
view_after s v (Recheck k) = rechecked v k (get_or s.words.cells (announced_cell (phase_at v k)) 0)
view_after s v (Up x) = upped v x
view_after s v (Down x) = downed v x
view_after s v (SwapCell c word) = swapped v (get_or s.words.cells c 0) word
view_after s v ScanOne = scanned v (get_or s.words.announced v.position 0)
view_after s v (Lock i true) = locked v i (entries_of (get_or s.homes i none))
view_after s v (Lock i false) = v
view_after s v (Unlock i) = unlocked v
view_after s v (Claim x true) = claimed v x
view_after s v (Claim x false) = found_taken v x
view_after s v Unclaim = unclaimed v
view_after s v (WriteNode variable low high) = wrote v (draft_of v.draft) (hand_of v.hand)
    (node_word variable low high)
view_after s v (ReadNode x) = read_node v x (get_or s.words.nodes x 0)
view_after s v (Reclaim x) = reclaimed v (hand_of v.hand) x (get_or s.words.nodes x 0)
view_after s v (SwapBox b word) = boxed v (get_or s.words.boxes b 0) word
view_after s v (LookBox b) = v

-- how many names the workers of the step hold before it: a join has two
abbrev pub held_before : State → View → Step → ℕ
held_before s v (Split to) = length v.held
held_before s v (Join from) = length v.held + length (view_at s.views from).held
held_before s v (Announce k x) = length v.held
held_before s v (Look k c) = length v.held
held_before s v (Recheck k) = length v.held
held_before s v (Up x) = length v.held
held_before s v (Down x) = length v.held
held_before s v (SwapCell c word) = length v.held
held_before s v ScanOne = length v.held
held_before s v (Lock i won) = length v.held
held_before s v (Unlock i) = length v.held
held_before s v (Claim x won) = length v.held
held_before s v Unclaim = length v.held
held_before s v (WriteNode variable low high) = length v.held
held_before s v (ReadNode x) = length v.held
held_before s v (Reclaim x) = length v.held
held_before s v (SwapBox b word) = length v.held
held_before s v (LookBox b) = length v.held

-- the words after the step of worker id, whose view is v
abbrev pub words_after : State → ℕ → View → Step → Words
words_after s id v (Split to) = s.words
words_after s id v (Join from) = s.words
words_after s id v (Announce k x) = with_announced s.words (word_at s.sizes id k) x
words_after s id v (Look k c) = s.words
words_after s id v (Recheck k) = s.words
words_after s id v (Up x) = with_count s.words x (get_or s.words.counts x 0 + 1)
words_after s id v (Down x) = with_count s.words x (get_or s.words.counts x 0 - 1)
words_after s id v (SwapCell c word) = with_cell s.words c word
words_after s id v ScanOne = s.words
words_after s id v (Lock i true) = locked_words s.words i
words_after s id v (Lock i false) = s.words
words_after s id v (Unlock i) = unlocked_words s.words (hand_of v.hand)
words_after s id v (Claim x true) = claimed_words s.words x
words_after s id v (Claim x false) = s.words
words_after s id v Unclaim = unclaimed_words s.words (draft_of v.draft)
words_after s id v (WriteNode variable low high) = written_words s.words (draft_of v.draft)
    (node_word variable low high)
words_after s id v (ReadNode x) = s.words
words_after s id v (Reclaim x) = reclaimed_words s.words x
words_after s id v (SwapBox b word) = boxed_words s.words b word
words_after s id v (LookBox b) = s.words

-- the tables at home after it: a lock that is won takes one out, and an unlock puts one home
abbrev pub homes_after : State → View → Step → Homes
homes_after s v (Split to) = s.homes
homes_after s v (Join from) = s.homes
homes_after s v (Announce k x) = s.homes
homes_after s v (Look k c) = s.homes
homes_after s v (Recheck k) = s.homes
homes_after s v (Up x) = s.homes
homes_after s v (Down x) = s.homes
homes_after s v (SwapCell c word) = s.homes
homes_after s v ScanOne = s.homes
homes_after s v (Lock i true) = taken_out s.homes i
homes_after s v (Lock i false) = s.homes
homes_after s v (Unlock i) = put_home s.homes (hand_of v.hand) (hand_of v.hand).entries
homes_after s v (Claim x won) = s.homes
homes_after s v Unclaim = s.homes
homes_after s v (WriteNode variable low high) = s.homes
homes_after s v (ReadNode x) = s.homes
homes_after s v (Reclaim x) = s.homes
homes_after s v (SwapBox b word) = s.homes
homes_after s v (LookBox b) = s.homes

-- all views after it: a split and a join change two of them
abbrev pub views_after : State → ℕ → View → Step → List View
views_after s id v (Split to) = split s.views id v to
views_after s id v (Join from) = join s.views id v from
views_after s id v (Announce k x) = set s.views id (view_after s v (Announce k x))
views_after s id v (Look k c) = set s.views id (view_after s v (Look k c))
views_after s id v (Recheck k) = set s.views id (view_after s v (Recheck k))
views_after s id v (Up x) = set s.views id (view_after s v (Up x))
views_after s id v (Down x) = set s.views id (view_after s v (Down x))
views_after s id v (SwapCell c word) = set s.views id (view_after s v (SwapCell c word))
views_after s id v ScanOne = set s.views id (view_after s v ScanOne)
views_after s id v (Lock i won) = set s.views id (view_after s v (Lock i won))
views_after s id v (Unlock i) = set s.views id (view_after s v (Unlock i))
views_after s id v (Claim x won) = set s.views id (view_after s v (Claim x won))
views_after s id v Unclaim = set s.views id (view_after s v Unclaim)
views_after s id v (WriteNode variable low high) =
    set s.views id (view_after s v (WriteNode variable low high))
views_after s id v (ReadNode x) = set s.views id (view_after s v (ReadNode x))
views_after s id v (Reclaim x) = set s.views id (view_after s v (Reclaim x))
views_after s id v (SwapBox b word) = set s.views id (view_after s v (SwapBox b word))
views_after s id v (LookBox b) = set s.views id (view_after s v (LookBox b))

-- the worker is active, may take the step, and holds 2 ^ 40 names at most after it, so that no
-- count wraps
pub record IsAllowed (s : State) (e : Event) : Type 0 where
  pub active : (view_at s.views e.worker).active ≡ true
  pub may : May s (view_at s.views e.worker) e.step
  pub room : length (view_after s (view_at s.views e.worker) e.step).held ≤ 2 ^ 40

abbrev pub after : State → Event → State
after s e =
    let v = view_at s.views e.worker in record s {
      words = words_after s e.worker v e.step;
      homes =
          homes_after s v e.step;
      views = views_after s e.worker v e.step;
    }

-- the events lead from s to t, each allowed when it is taken
abbrev pub Runs : State → List Event → State → Type 0
Runs s [] t = s ≡ t
Runs s (e ∷ es) t = IsAllowed s e × Runs (after s e) es t

-- the events before the i-th are allowed, and that one is not
abbrev pub IsStoppedAt : State → List Event → ℕ → Type 0
IsStoppedAt s [] i = ⊥
IsStoppedAt s (e ∷ es) zero = IsAllowed s e → ⊥
IsStoppedAt s (e ∷ es) (suc i) = IsAllowed s e × IsStoppedAt (after s e) es i
