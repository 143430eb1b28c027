-- What is proved of the steps, as statements over the definitions alone.
use Rattle.std.specs.Prelude.{◌≡◌, ℕ, ◌+◌, ◌-◌, ◌^◌, ◌<◌, ◌≤◌, List, length, get_or, set, true}
use Rattle.std.specs.Prelude.{false}
use mathlib.Core.Option.{some}
use lib.ListN.{get_elem?}
use Rattle.eqc_tree.specs.Tree.{Tree}
use Rattle.eqc_core.specs.declared.sizes.Sizes.{Sizes}
use Rattle.eqc_core.specs.declared.event.Event.{Event}
use Rattle.eqc_core.specs.declared.event.Step.{Step}
use Rattle.eqc_core.specs.declared.event.Step.TheVariants.{Split, Join, Announce, Look, Recheck, Up}
use Rattle.eqc_core.specs.declared.event.Step.TheVariants.{Down, SwapCell, ScanOne, Lock, Unlock}
use Rattle.eqc_core.specs.declared.event.Step.TheVariants.{Claim, Unclaim, WriteNode, ReadNode}
use Rattle.eqc_core.specs.declared.event.Step.TheVariants.{Reclaim, SwapBox, LookBox}
use Rattle.eqc_core.specs.View.{View, Hand, phase_at, view_at}
use Rattle.eqc_core.specs.Words.{Words, word_at}
use Rattle.eqc_core.specs.Tables.{Entries, Homes, tabled}
use Rattle.eqc_core.specs.Trees.{IsTree}
use Rattle.eqc_core.specs.Lawful.{Lawful}
use Rattle.eqc_core.specs.State.{State, IsLawful, IsWithinLimits, opening}
use Rattle.eqc_core.specs.Facts.{ConfirmedCounted, IsFree, IsDead}
use Rattle.eqc_core.specs.Moves.{with_announced, with_count, with_cell}
use Rattle.eqc_core.specs.Announcing.{MayLook, looked, MayAnnounce, announced, announced_cell}
use Rattle.eqc_core.specs.Announcing.{MayRecheck, rechecked}
use Rattle.eqc_core.specs.Counting.{MayUp, upped, MayDown, downed}
use Rattle.eqc_core.specs.Caching.{MaySwapCell, swapped}
use Rattle.eqc_core.specs.Scanning.{MayScan, scanned}
use Rattle.eqc_core.specs.Sharing.{MayLookBox, MaySwapBox, boxed_words, boxed}
use Rattle.eqc_core.specs.Seating.{MaySplit, split, MayJoin, joined, join}
use Rattle.eqc_core.specs.Locking.{MayTryLock, locked_words, taken_out, locked, MayUnlock}
use Rattle.eqc_core.specs.Locking.{unlocked_words, put_home, unlocked}
use Rattle.eqc_core.specs.Making.{MayTryClaim, claimed_words, claimed, found_taken, MayUnclaim}
use Rattle.eqc_core.specs.Making.{unclaimed_words, unclaimed, MayWrite, written_words, wrote}
use Rattle.eqc_core.specs.Making.{MayRead, read_node, MayReclaim, reclaimed_words, reclaimed}
use Rattle.eqc_core.specs.Run.{May, held_before, view_after, IsAllowed, after, Runs}

-- in each lawful state, a step that an active worker may take, after which it holds 2 ^ 40 names at
-- most, leads to a lawful state
abbrev pub KeepsLawful : (Words → Homes → View → Type 0) → (Sizes → ℕ → Words → View → Words)
    → (Homes → Homes) → (Words → View → View) → Type 0
KeepsLawful may words homes view =
    (z : Sizes) (w : Words) (hs : Homes) (vs : List View) (id : ℕ) (v : View) → Lawful z w hs vs
    → get_elem? vs id ≡ some v → v.active ≡ true
    → may w hs v → length (view w v).held ≤ 2 ^ 40
    → Lawful z (words z id w v) (homes hs) (set vs id (view w v))

-- such a step that leaves the tables at home
abbrev pub StaysLawful : (Words → View → Type 0) → (Sizes → ℕ → Words → View → Words)
    → (Words → View → View) → Type 0
StaysLawful may words view = KeepsLawful (λ w hs v. may w v) words (λ hs. hs) view

-- a look at the cell c for the k-th announcement word
abbrev pub LookKeeps : Type 0
LookKeeps = (k c : ℕ) → StaysLawful (λ w v. MayLook v k c) (λ z id w v. w)
    (λ w v. looked v k c (get_or w.cells c 0))

abbrev pub AnnounceKeeps : Type 0
AnnounceKeeps = (k x : ℕ) → StaysLawful (λ w v. MayAnnounce v k x) (λ z id w v. with_announced w
    (word_at z id k) x) (λ w v. announced v k)

abbrev pub RecheckKeeps : Type 0
RecheckKeeps = (k : ℕ) → StaysLawful (λ w v. MayRecheck v k) (λ z id w v. w)
    (λ w v. rechecked v k (get_or w.cells (announced_cell (phase_at v k)) 0))

abbrev pub UpKeeps : Type 0
UpKeeps = (x : ℕ) → StaysLawful (λ w v. MayUp v x) (λ z id w v. with_count w x (get_or w.counts x 0
    + 1)) (λ w v. upped v x)

abbrev pub DownKeeps : Type 0
DownKeeps = (x : ℕ) → StaysLawful (λ w v. MayDown v x) (λ z id w v. with_count w x
    (get_or w.counts x 0 - 1)) (λ w v. downed v x)

abbrev pub SwapCellKeeps : Type 0
SwapCellKeeps = (c word : ℕ) → StaysLawful (λ w v. MaySwapCell w.nodes v c word)
    (λ z id w v. with_cell w c word) (λ w v. swapped v (get_or w.cells c 0) word)

abbrev pub ScanOneKeeps : Type 0
ScanOneKeeps = StaysLawful (λ w v. MayScan v) (λ z id w v. w)
    (λ w v. scanned v (get_or w.announced v.position 0))

abbrev pub SplitKeeps : Type 0
SplitKeeps =
    (z : Sizes) (w : Words) (hs : Homes) (vs : List View) (id to : ℕ) (v : View) → Lawful z w hs vs
    → get_elem? vs id ≡ some v → v.active ≡ true
    → MaySplit vs v to → Lawful z w hs (split vs id v to)

abbrev pub JoinKeeps : Type 0
JoinKeeps =
    (z : Sizes) (w : Words) (hs : Homes) (vs : List View) (id from : ℕ) (v o : View)
    → Lawful z w hs vs → get_elem? vs id ≡ some v → v.active ≡ true → get_elem? vs from ≡ some o
    → MayJoin v from o → length (joined v from o).held ≤ 2 ^ 40 → Lawful z w hs (join vs id v from)

-- a try for the lock of the stripe i that is won, with the table t that is at home then
abbrev pub LockKeeps : Type 0
LockKeeps =
    (i : ℕ) (t : Entries)
    → KeepsLawful (λ w hs v. MayTryLock w v i true × (get_elem? hs i ≡ some (some t)))
    (λ z id w v. locked_words w i) (λ hs. taken_out hs i) (λ w v. locked v i t)

-- a try that is not won
abbrev pub LockLostKeeps : Type 0
LockLostKeeps = (i : ℕ) → StaysLawful (λ w v. MayTryLock w v i false) (λ z id w v. w) (λ w v. v)

-- the stripe in hand is put home, with its entries in any order
abbrev pub UnlockKeeps : Type 0
UnlockKeeps = (h : Hand) (t : Entries) → KeepsLawful (λ w hs v. MayUnlock v h t)
    (λ z id w v. unlocked_words w h) (λ hs. put_home hs h t) (λ w v. unlocked v)

abbrev pub ClaimKeeps : Type 0
ClaimKeeps = (x : ℕ) → StaysLawful (λ w v. MayTryClaim w v x true) (λ z id w v. claimed_words w x)
    (λ w v. claimed v x)

abbrev pub ClaimLostKeeps : Type 0
ClaimLostKeeps = (x : ℕ) → StaysLawful (λ w v. MayTryClaim w v x false) (λ z id w v. w)
    (λ w v. found_taken v x)

abbrev pub UnclaimKeeps : Type 0
UnclaimKeeps = (d : ℕ) → StaysLawful (λ w v. MayUnclaim v d) (λ z id w v. unclaimed_words w d)
    (λ w v. unclaimed v)

abbrev pub WriteNodeKeeps : Type 0
WriteNodeKeeps = (d word : ℕ) (h : Hand) → StaysLawful (λ w v. MayWrite w.nodes v d h word)
    (λ z id w v. written_words w d word) (λ w v. wrote v d h word)

abbrev pub ReadNodeKeeps : Type 0
ReadNodeKeeps = (x : ℕ) → StaysLawful (λ w v. MayRead v x) (λ z id w v. w)
    (λ w v. read_node v x (get_or w.nodes x 0))

abbrev pub ReclaimKeeps : Type 0
ReclaimKeeps = (x : ℕ) (h : Hand) → StaysLawful (λ w v. MayReclaim w v h x)
    (λ z id w v. reclaimed_words w x) (λ w v. reclaimed v h x (get_or w.nodes x 0))

abbrev pub SwapBoxKeeps : Type 0
SwapBoxKeeps = (b word : ℕ) → StaysLawful (λ w v. MaySwapBox w.nodes v b word)
    (λ z id w v. boxed_words w b word) (λ w v. boxed v (get_or w.boxes b 0) word)

abbrev pub LookBoxKeeps : Type 0
LookBoxKeeps = (b : ℕ) → StaysLawful (λ w v. MayLookBox v b) (λ z id w v. w) (λ w v. v)

-- from the empty forest, or from one with the literals of n variables, each run's last state is
-- lawful
abbrev pub RunIsLawful : Type 0
RunIsLawful =
    (z : Sizes) (n : ℕ) (events : List Event) (last : State) → IsWithinLimits z → n + 2 ≤ z.names
    → n ≤ z.variables → Runs (opening z n) events last
    → IsLawful last × ConfirmedCounted last

-- a step leaves the tree of each slot that is in a table before and after it
abbrev pub StepsKeepTrees : Type 0
StepsKeepTrees =
    (s : State) (e : Event) (x : ℕ) (t : Tree) → IsLawful s → IsAllowed s e
    → 0 < tabled s.homes s.views x → 0 < tabled (after s e).homes (after s e).views x
    → IsTree s.words.nodes t x → IsTree (after s e).words.nodes t x

-- where the workers of a step hold 2 ^ 39 names at most, the step leaves no more than 2 ^ 40 held
abbrev pub StepsHaveRoom : Type 0
StepsHaveRoom =
    (s : State) (e : Event) → IsLawful s → (view_at s.views e.worker).active ≡ true
    → May s (view_at s.views e.worker) e.step
    → held_before s (view_at s.views e.worker) e.step ≤ 2 ^ 39
    → length (view_after s (view_at s.views e.worker) e.step).held ≤ 2 ^ 40

-- what a step says of the slot that it claims, or takes back: the one is free, and the other's one
-- owner is its table
abbrev pub IsGivenOnce : State → Step → Type 0
IsGivenOnce s (Split to) = Unit {0}
IsGivenOnce s (Join from) = Unit {0}
IsGivenOnce s (Announce k x) = Unit {0}
IsGivenOnce s (Look k c) = Unit {0}
IsGivenOnce s (Recheck k) = Unit {0}
IsGivenOnce s (Up x) = Unit {0}
IsGivenOnce s (Down x) = Unit {0}
IsGivenOnce s (SwapCell c word) = Unit {0}
IsGivenOnce s ScanOne = Unit {0}
IsGivenOnce s (Lock i won) = Unit {0}
IsGivenOnce s (Unlock i) = Unit {0}
IsGivenOnce s (Claim x true) = IsFree s.words s.homes s.views x
IsGivenOnce s (Claim x false) = Unit {0}
IsGivenOnce s Unclaim = Unit {0}
IsGivenOnce s (WriteNode variable low high) = Unit {0}
IsGivenOnce s (ReadNode x) = Unit {0}
IsGivenOnce s (Reclaim x) = IsDead s.words s.homes s.views x
IsGivenOnce s (SwapBox b word) = Unit {0}
IsGivenOnce s (LookBox b) = Unit {0}

-- at each event of each run: a slot that is claimed has no owner, one that is taken back only its
-- table, and no confirmed announcement names either
abbrev pub NoSlotGivenAgain : Type 0
NoSlotGivenAgain =
    (z : Sizes) (n : ℕ) (events : List Event) (last : State) (next : Event) → IsWithinLimits z
    → n + 2 ≤ z.names → n ≤ z.variables → Runs (opening z n) events last
    → IsAllowed last next → IsGivenOnce last next.step
