-- When a state is lawful (Anderson, Blelloch and Wei 2021: a count is the number of owners, and
-- what is announced in time is not given again). Every state of every run is, and each step keeps
-- it so.
use Rattle.std.specs.Prelude.{◌≡◌, ℕ, ◌+◌, ◌*◌, ◌^◌, ◌<◌, ◌≤◌, ◌⊎◌, List, length, get_or, sum_by}
use Rattle.std.specs.Prelude.{eqb, cond, true, false, Some, ◌&&◌}
use mathlib.Core.Option.{some}
use lib.ListN.{get_elem?}
use Rattle.eqc_core.specs.declared.sizes.Sizes.{Sizes}
use Rattle.eqc_core.specs.declared.phase.Phase.{Phase}
use Rattle.eqc_core.specs.declared.phase.Phase.TheVariants.{Idle, Seen, Announced, Confirmed}
use Rattle.eqc_core.specs.declared.phase.Phase.TheVariants.{Missed}
use Rattle.eqc_core.specs.View.{View, Hand, Read, spent, unused, view_at}
use Rattle.eqc_core.specs.Words.{Words, announced_words, word_at, times, stripe_of, result_of}
use Rattle.eqc_core.specs.Tables.{Entries, Homes, IsTable, tabled, has_stripe, home_there}
use Rattle.eqc_core.specs.Owners.{owners, drafts}
use Rattle.eqc_core.specs.Trees.{IsRight, IsBoxWord, IsShaped}
use Rattle.eqc_core.specs.Support.{announces, Supported}

-- the sizes are within the limits, and there are as many words of each kind as they say
pub record IsSized (z : Sizes) (w : Words) (hs : Homes) (vs : List View) : Type 0 where
  pub few_workers : z.workers ≤ 2 ^ 20
  pub some_announcements : 0 < z.announcements
  pub few_announced : announced_words z ≤ 2 ^ 22
  pub some_names : 2 ≤ z.names
  pub few_names : z.names ≤ 2 ^ 20
  pub few_cells : z.cells ≤ 2 ^ 20
  pub few_variables : z.variables ≤ 2 ^ 16
  pub announced : length w.announced ≡ announced_words z
  pub counts : length w.counts ≡ z.names
  pub nodes : length w.nodes ≡ z.names
  pub cells : length w.cells ≡ z.cells
  pub boxes : length w.boxes ≡ 16 * z.workers
  pub locks : length w.locks ≡ 16
  pub homes : length hs ≡ 16
  pub views : length vs ≤ z.workers

-- each count word is the number of its slot's owners, of which a draft counts twice, and an owner
-- that is no draft is tabled
pub record IsCounted (z : Sizes) (w : Words) (hs : Homes) (vs : List View) : Type 0 where
  pub counts : (x : ℕ) → 2 ≤ x → x < z.names → get_or w.counts x 0 ≡ 2 * drafts vs x
      + owners w hs vs x
  pub owners_tabled : (x : ℕ) → 2 ≤ x → 0 < owners w hs vs x → 0 < tabled hs vs x

-- a slot is tabled once; a word stands once, in its own stripe, and is its slot's node word, in
-- order over the children
pub record IsTabled (z : Sizes) (w : Words) (hs : Homes) (vs : List View) : Type 0 where
  -- a draft is not tabled, and no two views have one draft: else a written node would stand twice
  pub once : (x : ℕ) → tabled hs vs x + drafts vs x ≤ 1
  pub named : (x : ℕ) → 0 < tabled hs vs x → (2 ≤ x) × (x < z.names)
  pub drafts_named : (x : ℕ) → 0 < drafts vs x → (2 ≤ x) × (x < z.names)
  pub entries : (s : ℕ) (t : Entries) → IsTable hs vs s t → (i : ℕ) (e : ℕ × ℕ)
      → get_elem? t i ≡ some e → (get_or w.nodes e.1 0 ≡ e.0) × (stripe_of e.0 ≡ s)
  pub shaped : (x : ℕ) → 0 < tabled hs vs x → IsShaped z.variables w.nodes (get_or w.nodes x 0)
  pub unique : (x y : ℕ) → 0 < tabled hs vs x → 0 < tabled hs vs y → get_or w.nodes x 0
      ≡ get_or w.nodes y 0 → x ≡ y
  -- a stripe's table is at home or in one hand, and its lock is 1 exactly where it is in a hand
  pub stripes : (s : ℕ) → s < 16 → home_there hs s + sum_by (λ v. has_stripe s v.hand) vs ≡ 1
  pub locks : (s : ℕ) → s < 16 → get_or w.locks s 0 + home_there hs s ≡ 1

-- each cell is empty or right, and each box has a box word
pub record AreRight (w : Words) : Type 0 where
  pub cells : (c word : ℕ) → get_elem? w.cells c ≡ some word → IsRight w.nodes word
  pub boxes : (b word : ℕ) → get_elem? w.boxes b ≡ some word → IsBoxWord w.nodes word

-- what a phase says of itself: its cell is there, and what it names is
abbrev pub IsNamed : Sizes → Phase → Type 0
IsNamed z Idle = Unit {0}
IsNamed z (Seen c word) = (c < z.cells) × (result_of word < z.names)
IsNamed z (Announced c word) = (c < z.cells) × (result_of word < z.names) × (2 ≤ result_of word)
IsNamed z (Confirmed x) = (2 ≤ x) × (x < z.names)
IsNamed z (Missed x) = (2 ≤ x) × (x < z.names)

-- the node last read is held, and its word is the slot's: so its children may be counted up
pub record IsRead (nodes held : List ℕ) (r : Read) : Type 0 where
  pub held_still : 0 < times r.name held
  pub word_is : get_or nodes r.name 0 ≡ r.word

-- what the words say of the view of an active worker
pub record Fits (z : Sizes) (w : Words) (vs : List View) (id : ℕ) (v : View) : Type 0 where
  pub sizes : v.sizes ≡ z
  pub number : v.number ≡ id
  pub phases : length v.phases ≡ z.announcements
  -- each announcement word has the name that its phase announces
  pub announced : (k : ℕ) (p : Phase) → get_elem? v.phases k ≡ some p
      → get_or w.announced (word_at z id k) 0 ≡ announces p
  pub named : (k : ℕ) (p : Phase) → get_elem? v.phases k ≡ some p → IsNamed z p
  pub support : (k x : ℕ) → get_elem? v.phases k ≡ some (Confirmed x)
      → Supported w.cells vs (word_at z id k) x
  pub few : length v.retired ≤ 2 * announced_words z
  pub room : length v.held ≤ 2 ^ 40
  -- constants are not counted, so they are neither held nor retired
  pub slots : (x : ℕ) → 0 < times x v.held + times x v.retired → 2 ≤ x
  -- the scan reads an announcement word next
  pub place : v.position < announced_words z
  -- each word that the scan has read has put one name at most among those noted
  pub noted : length v.noted ≤ v.position
  -- a stripe in hand is one of the 16
  pub hand : (h : Hand) → v.hand ≡ Some h → h.stripe < 16
  -- worker 0 is neither split off nor taken in
  pub others : times 0 v.out ≡ 0
  pub read : (r : Read) → v.read ≡ Some r → IsRead w.nodes v.held r

-- 1 where the view is that of the active worker n
abbrev pub is_active : ℕ → View → ℕ
is_active n v = cond (v.active && eqb v.number n) 1 0

-- the numbers that are out, in the view of worker 0
abbrev pub numbers_out : List View → List ℕ
numbers_out vs = (view_at vs 0).out

-- how often the number n is taken in, in the view of another worker
abbrev pub is_taken : ℕ → View → ℕ
is_taken n v = cond (eqb v.number 0) 0 (times n v.out)

-- who is there: worker 0 always, the others from their split to their join
pub record AreSeated (z : Sizes) (w : Words) (vs : List View) : Type 0 where
  pub first : (v : View) × (get_elem? vs 0 ≡ some v) × (v.active ≡ true) × (v.given ≡ length vs)
  -- a view that is not active owns nothing, and announces nothing
  pub inactive : (id : ℕ) (v : View) → get_elem? vs id ≡ some v → v.active ≡ false → (v ≡ unused)
      ⊎ (v ≡ spent)
  pub silent : (id : ℕ) (v : View) → get_elem? vs id ≡ some v → v.active ≡ false → (k : ℕ)
      → k < z.announcements → get_or w.announced (word_at z id k) 0 ≡ 0
  pub beyond : (id k : ℕ) → length vs ≤ id → k < z.announcements
      → get_or w.announced (word_at z id k) 0 ≡ 0
  -- a number that is out is active, or was taken in by one other worker
  pub out : (n : ℕ) → 0 < n → times n (numbers_out vs) ≡ sum_by (is_active n) vs
      + sum_by (is_taken n) vs
  pub out_once : (n : ℕ) → times n (numbers_out vs) ≤ 1
  pub out_given : (n : ℕ) → 0 < times n (numbers_out vs) → (n < length vs)
      × (get_elem? vs n ≡ some unused → ⊥)

-- a lawful state: counts are owners, owners are tabled, cells are right, and what is confirmed has
-- support
pub record Lawful (z : Sizes) (w : Words) (hs : Homes) (vs : List View) : Type 0 where
  pub sized : IsSized z w hs vs
  pub counted : IsCounted z w hs vs
  pub tables : IsTabled z w hs vs
  pub right : AreRight w
  pub seated : AreSeated z w vs
  pub views : (id : ℕ) (v : View) → get_elem? vs id ≡ some v → v.active ≡ true → Fits z w vs id v
