-- What a lawful state says of its words, trees and views: the facts that a layer above needs beside
-- the steps.
use Rattle.std.specs.Prelude.{◌≡◌, ◌≢◌, ℕ, ◌+◌, ◌^◌, ◌<◌, ◌≤◌, List, [], ◌∷◌, ◌++◌, length, get_or}
use Rattle.std.specs.Prelude.{set, true, false, Some}
use mathlib.Core.Option.{some}
use lib.ListN.{get_elem?}
use Rattle.eqc_tree.specs.Tree.{Tree, IsCanonical}
use Rattle.eqc_tree.specs.Word.{node_word}
use Rattle.eqc_core.specs.declared.sizes.Sizes.{Sizes}
use Rattle.eqc_core.specs.declared.phase.Phase.TheVariants.{Confirmed}
use Rattle.eqc_core.specs.View.{View, Hand, Read, fresh}
use Rattle.eqc_core.specs.Words.{Words, announced_words, times, cell_names, variable_of, low_of}
use Rattle.eqc_core.specs.Words.{high_of, children as slot_children}
use Rattle.eqc_core.specs.Tables.{Entries, Homes, IsTable, IsName, tabled}
use Rattle.eqc_core.specs.Trees.{IsTree}
use Rattle.eqc_core.specs.Support.{Supported}
use Rattle.eqc_core.specs.Lawful.{Lawful}
use Rattle.eqc_core.specs.State.{State, IsLawful}
use Rattle.eqc_core.specs.Moves.{IsReady}
use Rattle.eqc_core.specs.Counting.{Knows}
use Rattle.eqc_core.specs.Scanning.{scanned}
use Rattle.eqc_core.specs.Seating.{MaySplit, splitter, split}
use Rattle.eqc_core.specs.Making.{MayWriteNode, wins_claim, MayReclaim, reclaimed}
use Rattle.eqc_core.specs.Locking.{wins_lock}
use Rattle.eqc_core.specs.Owners.{owners, drafts}

-- in a lawful state no count is so high that one more would not fit its word
abbrev pub NoCountWraps : Type 0
NoCountWraps = (z : Sizes) (w : Words) (hs : Homes) (vs : List View) (x : ℕ) → Lawful z w hs vs
    → 2 ≤ x → x < z.names → get_or w.counts x 0 + 1 < 2 ^ 64

-- in a lawful state the count of a held name is above 0
abbrev pub HeldIsCounted : Type 0
HeldIsCounted = (z : Sizes) (w : Words) (hs : Homes) (vs : List View) (id x : ℕ) (v : View)
    → Lawful z w hs vs → get_elem? vs id ≡ some v → 0 < times x v.held → 0 < get_or w.counts x 0

-- a confirmed name has at least two counts: its table's, and that of what supports it
abbrev pub ConfirmedCounted : State → Type 0
ConfirmedCounted s = (id k x : ℕ) (v : View) → get_elem? s.views id ≡ some v → v.active ≡ true
    → get_elem? v.phases k ≡ some (Confirmed x) → 2 ≤ get_or s.words.counts x 0

-- in a lawful state the count of a confirmed name is at least 2
abbrev pub ConfirmedIsCounted : Type 0
ConfirmedIsCounted = (s : State) → IsLawful s → ConfirmedCounted s

-- the names that a view, a cell, a box or a table has are in a table, and so are the children of
-- such a name, what is supported, and what an active view knows to stay
pub record AreTabled (w : Words) (hs : Homes) (vs : List View) : Type 0 where
  pub held : (id x : ℕ) (v : View) → get_elem? vs id ≡ some v → 0 < times x v.held
      → 0 < tabled hs vs x
  pub retired : (id x : ℕ) (v : View) → get_elem? vs id ≡ some v → 0 < times x v.retired
      → 0 < tabled hs vs x
  pub confirmed : (id k x : ℕ) (v : View) → get_elem? vs id ≡ some v → v.active ≡ true
      → get_elem? v.phases k ≡ some (Confirmed x) → 0 < tabled hs vs x
  pub supported : (i x : ℕ) → 2 ≤ x → Supported w.cells vs i x → 0 < tabled hs vs x
  pub read : (id : ℕ) (v : View) (r : Read) → get_elem? vs id ≡ some v → v.active ≡ true
      → v.read ≡ Some r → 0 < tabled hs vs r.name
  pub known : (id x : ℕ) (v : View) → get_elem? vs id ≡ some v → v.active ≡ true → 2 ≤ x → Knows v x
      → 0 < tabled hs vs x
  pub cells : (c x word : ℕ) → get_elem? w.cells c ≡ some word → 2 ≤ x
      → 0 < times x (cell_names word) → 0 < tabled hs vs x
  pub boxes : (b x word : ℕ) → get_elem? w.boxes b ≡ some word → 2 ≤ x
      → 0 < times x (cell_names word) → 0 < tabled hs vs x
  pub entries : (s : ℕ) (t : Entries) (i : ℕ) (e : ℕ × ℕ) → IsTable hs vs s t
      → get_elem? t i ≡ some e → 0 < tabled hs vs e.1
  pub children : (x y : ℕ) → 0 < tabled hs vs x → 2 ≤ y
      → 0 < times y (slot_children (get_or w.nodes x 0)) → 0 < tabled hs vs y

-- so it is in a lawful state
abbrev pub NamesAreTabled : Type 0
NamesAreTabled = (z : Sizes) (w : Words) (hs : Homes) (vs : List View) → Lawful z w hs vs
    → AreTabled w hs vs

-- each name, a constant or a tabled slot, has one tree, which is ordered and reduced, and two names
-- with one tree are one
pub record HaveTrees (w : Words) (hs : Homes) (vs : List View) : Type 0 where
  pub tree : (x : ℕ) → IsName hs vs x → (t : Tree) × IsTree w.nodes t x × IsCanonical t
  pub one_tree : (x : ℕ) (s t : Tree) → IsTree w.nodes s x → IsTree w.nodes t x → s ≡ t
  pub one_name : (x y : ℕ) (t : Tree) → IsName hs vs x → IsName hs vs y → IsTree w.nodes t x
      → IsTree w.nodes t y → x ≡ y

-- so it is in a lawful state
abbrev pub TreesAreOne : Type 0
TreesAreOne = (z : Sizes) (w : Words) (hs : Homes) (vs : List View) → Lawful z w hs vs
    → HaveTrees w hs vs

-- what a lawful state says of an active view beside its count words
pub record IsBounded (v : View) : Type 0 where
  pub noted : length v.noted ≤ v.position
  pub hand : (h : Hand) → v.hand ≡ Some h → h.stripe < 16

-- in a lawful state a scan has noted no more names than it has read words, and a stripe in hand is
-- one of the 16
abbrev pub ViewsAreBounded : Type 0
ViewsAreBounded = (z : Sizes) (w : Words) (hs : Homes) (vs : List View) (id : ℕ) (v : View)
    → Lawful z w hs vs → get_elem? vs id ≡ some v → v.active ≡ true → IsBounded v

-- a name is held or retired as often as before, and what was held is held still
pub record KeepsNames (v u : View) : Type 0 where
  pub names : (x : ℕ) → times x u.held + times x u.retired ≡ times x v.held + times x v.retired
  pub held : (x : ℕ) → times x v.held ≤ times x u.held
  pub lengths : length u.held + length u.retired ≡ length v.held + length v.retired

-- a step of a scan makes retired names held, and no other; whatever word it reads
abbrev pub ScansKeepNames : Type 0
ScansKeepNames = (v : View) (name : ℕ) → KeepsNames v (scanned v name)

-- in a lawful state the last step of a scan leaves at most as many names retired as there are
-- announcement words
abbrev pub ScansLeaveFew : Type 0
ScansLeaveFew =
    (z : Sizes) (w : Words) (hs : Homes) (vs : List View) (id name : ℕ) (v : View)
    → Lawful z w hs vs → get_elem? vs id ≡ some v → v.active ≡ true
    → v.position + 1 ≡ announced_words z → length (scanned v name).retired ≤ announced_words z

-- in a lawful state worker 0 may split off the next number that was never given, and that number's
-- view comes behind the others
abbrev pub SplitsComeLast : Type 0
SplitsComeLast =
    (z : Sizes) (w : Words) (hs : Homes) (vs : List View) (id : ℕ) (v : View) → Lawful z w hs vs
    → get_elem? vs id ≡ some v → v.active ≡ true
    → IsReady v → v.number ≡ 0 → v.given < v.sizes.workers
    → MaySplit vs v v.given × (split vs id v v.given ≡ set vs id (splitter v v.given)
    ++ fresh v.sizes v.given ∷ [])

-- in a lawful state in which no number is out of worker 0's view, no other worker is active
abbrev pub NothingOutIsAlone : Type 0
NothingOutIsAlone =
    (z : Sizes) (w : Words) (hs : Homes) (vs : List View) (id j : ℕ) (v u : View) → Lawful z w hs vs
    → get_elem? vs id ≡ some v → v.active ≡ true → v.number ≡ 0 → v.out ≡ []
    → get_elem? vs j ≡ some u → (j ≡ id → ⊥) → u.active ≡ false

-- the fields of a node's word are those of the event that writes it
pub record HasFields (variable low high : ℕ) : Type 0 where
  pub variable_is : variable_of (node_word variable low high) ≡ variable
  pub low_is : low_of (node_word variable low high) ≡ low
  pub high_is : high_of (node_word variable low high) ≡ high

-- so it is in a lawful state
abbrev pub WrittenFieldsAreRead : Type 0
WrittenFieldsAreRead =
    (z : Sizes) (w : Words) (hs : Homes) (vs : List View) (id d variable low high : ℕ) (v : View)
    (h : Hand) → Lawful z w hs vs → get_elem? vs id ≡ some v → v.active ≡ true
    → MayWriteNode w.nodes v d h variable low high → HasFields variable low high

-- no confirmed announcement names the slot
abbrev pub IsUnconfirmed : List View → ℕ → Type 0
IsUnconfirmed vs x = (id k : ℕ) (v : View) → get_elem? vs id ≡ some v → v.active ≡ true
    → get_elem? v.phases k ≡ some (Confirmed x) → ⊥

-- a slot that nobody owns: no name, no draft, no table, and no confirmed announcement
pub record IsFree (w : Words) (hs : Homes) (vs : List View) (x : ℕ) : Type 0 where
  pub owners : owners w hs vs x ≡ 0
  pub drafts : drafts vs x ≡ 0
  pub tabled : tabled hs vs x ≡ 0
  pub unconfirmed : IsUnconfirmed vs x

-- in a lawful state a slot that a claim wins is free
abbrev pub ClaimedIsFree : Type 0
ClaimedIsFree =
    (z : Sizes) (w : Words) (hs : Homes) (vs : List View) (x : ℕ) → Lawful z w hs vs → 2 ≤ x
    → x < z.names → wins_claim w x ≡ true → IsFree w hs vs x

-- a slot whose one owner is its table
pub record IsDead (w : Words) (hs : Homes) (vs : List View) (x : ℕ) : Type 0 where
  pub owners : owners w hs vs x ≡ 1
  pub drafts : drafts vs x ≡ 0
  pub tabled : tabled hs vs x ≡ 1
  pub unconfirmed : IsUnconfirmed vs x

-- in a lawful state a slot that is taken back is owned by its table alone; afterwards it is in
-- none, and every other slot is as before
abbrev pub ReclaimedIsFree : Type 0
ReclaimedIsFree =
    (z : Sizes) (w : Words) (hs : Homes) (vs : List View) (id x : ℕ) (v : View) (h : Hand)
    → Lawful z w hs vs → get_elem? vs id ≡ some v → v.active ≡ true → MayReclaim w v h x
    → IsDead w hs vs x
    × (tabled hs (set vs id (reclaimed v h x (get_or w.nodes x 0))) x ≡ 0)
    × ((y : ℕ) → y ≢ x → tabled hs (set vs id (reclaimed v h x (get_or w.nodes x 0))) y
    ≡ tabled hs vs y)

-- in a lawful state the table of a stripe whose lock is 0 is at home
abbrev pub TableIsThere : Type 0
TableIsThere = (z : Sizes) (w : Words) (hs : Homes) (vs : List View) (i : ℕ) → Lawful z w hs vs
    → i < 16 → wins_lock w i ≡ true → (t : Entries) × (get_elem? hs i ≡ some (some t))
