-- When a worker is alone and holds nothing, and what a whole turn over the tables does: each slot
-- that is tabled after it was seen with a count other than 1.
use Rattle.std.specs.Prelude.{◌≡◌, ℕ, ◌-◌, ◌<◌, ◌≤◌, List, [], ◌∷◌, suc, get_or, set, eqb}
use Rattle.std.specs.Prelude.{if◌then◌else◌, Some, None, true}
use mathlib.Core.Option.{some}
use lib.ListN.{get_elem?}
use Rattle.eqc_core.specs.View.{View, Hand, view_at}
use Rattle.eqc_core.specs.Words.{Words, variable_of, children, slots_of}
use Rattle.eqc_core.specs.Tables.{Entries, tabled, table_has}
use Rattle.eqc_core.specs.Moves.{IsReady, with_count}
use Rattle.eqc_core.specs.Counting.{downed}
use Rattle.eqc_core.specs.Locking.{MayTryLock, MayUnlock, locked_words, taken_out, locked}
use Rattle.eqc_core.specs.Locking.{unlocked_words, put_home, unlocked}
use Rattle.eqc_core.specs.Making.{reclaimed_words, reclaimed}
use Rattle.eqc_core.specs.State.{State, IsLawful}

-- only worker 0 is active; it holds these names, has retired nothing and has no draft; cells and
-- boxes are empty
pub record IsBare (held : List ℕ) (w : Words) (vs : List View) : Type 0 where
  pub alone : (id : ℕ) (v : View) → get_elem? vs id ≡ some v → v.active ≡ true → id ≡ 0
  pub holds : (view_at vs 0).held ≡ held
  pub retired : (view_at vs 0).retired ≡ []
  pub ready : IsReady (view_at vs 0)
  pub draft : (view_at vs 0).draft ≡ None
  pub cells : (c word : ℕ) → get_elem? w.cells c ≡ some word → word ≡ 0
  pub boxes : (b word : ℕ) → get_elem? w.boxes b ≡ some word → word ≡ 0

-- every tabled slot has a variable of at least k
abbrev pub AllFrom : ℕ → State → Type 0
AllFrom k s = (y : ℕ) → 0 < tabled s.homes s.views y → k ≤ variable_of (get_or s.words.nodes y 0)

-- no slot comes into the tables, and those that stay keep their words
pub record Shrinks (s t : State) : Type 0 where
  pub tabled_before : (y : ℕ) → 0 < tabled t.homes t.views y → 0 < tabled s.homes s.views y
  pub same_word : (y : ℕ) → 0 < tabled t.homes t.views y → get_or t.words.nodes y 0
      ≡ get_or s.words.nodes y 0

-- on the way from s to t the slot was tried in a state m in which worker 0 held nothing, and its
-- count was not 1
pub record WasTried (s t : State) (y : ℕ) : Type 0 where
  pub m : State
  pub lawful : IsLawful m
  pub bare : IsBare [] m.words m.views
  pub before : Shrinks s m
  pub after : Shrinks m t
  pub shared : get_or m.words.counts y 0 ≡ 1 → ⊥

-- a whole turn: each slot that is still tabled was tried
abbrev pub IsTurn : State → State → Type 0
IsTurn s t = (y : ℕ) → 0 < tabled t.homes t.views y → WasTried s t y

-- worker 0 takes one count of the slot down
abbrev pub down_one : ℕ → State → State
down_one x s = record s {
  words = with_count s.words x (get_or s.words.counts x 0 - 1);
  views =
      set s.views 0 (downed (view_at s.views 0) x);
}

abbrev pub down_all : List ℕ → State → State
down_all [] s = s
down_all (x ∷ xs) s = down_all xs (down_one x s)

-- worker 0, with the stripe h in hand, takes the slot back
abbrev pub taken_back : ℕ → Hand → State → State
taken_back x h s = record s {
  words = reclaimed_words s.words x;
  views =
      set s.views 0 (reclaimed (view_at s.views 0) h x (get_or s.words.nodes x 0));
}

-- it tries the slot: where the count is 1, it takes the slot back, and then the counts of the
-- children down
abbrev pub tried : ℕ → Hand → State → State
tried x h s = if eqb (get_or s.words.counts x 0) 1 then down_all
    (slots_of (children (get_or s.words.nodes x 0))) (taken_back x h s) else s

-- worker 0 takes the stripe, whose table is t, and puts home the stripe that it has in hand
abbrev pub with_stripe : ℕ → Entries → State → State
with_stripe i t s = record s {
  words = locked_words s.words i;
  homes = taken_out s.homes i;
  views =
      set s.views 0 (locked (view_at s.views 0) i t);
}

abbrev pub stripe_home : Hand → Entries → State → State
stripe_home h t s = record s {
  words = unlocked_words s.words h;
  homes = put_home s.homes h t;
  views = set s.views 0 (unlocked (view_at s.views 0));
}

-- where worker 0 is alone and holds nothing, a tabled slot of the least variable has the count 1:
-- its table is its only owner
abbrev pub LeastIsDead : Type 0
LeastIsDead =
    (s : State) (k x : ℕ) → IsLawful s → IsBare [] s.words s.views → AllFrom k s
    → 0 < tabled s.homes s.views x
    → variable_of (get_or s.words.nodes x 0) ≡ k → get_or s.words.counts x 0 ≡ 1

-- a whole turn raises the least variable
abbrev pub TurnRaises : Type 0
TurnRaises = (s t : State) (k : ℕ) → AllFrom k s → IsTurn s t → AllFrom (suc k) t

-- after as many turns as variables nothing is tabled
abbrev pub TurnsEmpty : Type 0
TurnsEmpty =
    (s : ℕ → State) → ((i : ℕ) → IsTurn (s i) (s (suc i))) → (n : ℕ) → IsLawful (s n)
    → (s n).sizes.variables ≤ n
    → (x : ℕ) → tabled (s n).homes (s n).views x ≡ 0

-- where worker 0 is alone and holds nothing, and no tabled slot has the count 1, nothing is tabled
abbrev pub NoDeadIsEmpty : Type 0
NoDeadIsEmpty =
    (s : State) → IsLawful s → IsBare [] s.words s.views → ((x : ℕ) → 0 < tabled s.homes s.views x
    → get_or s.words.counts x 0 ≡ 1 → ⊥)
    → (x : ℕ) → tabled s.homes s.views x ≡ 0

-- where nothing is tabled, and worker 0 is alone and holds nothing, every count is 0
abbrev pub EmptyIsFree : Type 0
EmptyIsFree =
    (s : State) → IsLawful s → IsBare [] s.words s.views → ((x : ℕ) → tabled s.homes s.views x ≡ 0)
    → (x : ℕ) → 2 ≤ x → x < s.sizes.names → get_or s.words.counts x 0 ≡ 0

-- a slot of the stripe in hand is tried by steps: the state stays lawful, worker 0 holds nothing
-- again, and from then on the slot counts as tried
abbrev pub TriesAreSteps : Type 0
TriesAreSteps =
    (s : State) (x : ℕ) (h : Hand) → IsLawful s → IsBare [] s.words s.views
    → (view_at s.views 0).hand ≡ Some h → 0 < table_has x h.entries
    → IsLawful (tried x h s) × IsBare [] (tried x h s).words (tried x h s).views
    × Shrinks s (tried x h s)
    × ((t : State) → Shrinks (tried x h s) t → 0 < tabled t.homes t.views x → WasTried s t x)

-- what taking a stripe and putting it home leave: a lawful state, worker 0 that holds nothing, and
-- the tables
abbrev pub StaysBare : State → State → Type 0
StaysBare s t = IsLawful t × IsBare [] t.words t.views × Shrinks s t

-- a stripe is taken, and put home, by steps; so a whole turn is a run of these and of tries
abbrev pub StripesAreSteps : Type 0
StripesAreSteps =
    ((s : State) (i : ℕ) (t : Entries) → IsLawful s → IsBare [] s.words s.views
    → MayTryLock s.words (view_at s.views 0) i true → get_elem? s.homes i ≡ some (some t)
    → StaysBare s (with_stripe i t s))
    × ((s : State) (h : Hand) (t : Entries) → IsLawful s → IsBare [] s.words s.views
    → MayUnlock (view_at s.views 0) h t → StaysBare s (stripe_home h t s))
