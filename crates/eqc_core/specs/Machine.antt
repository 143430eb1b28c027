-- The state that the stored words and workers stand for.
use Rattle.std.specs.Prelude.{◌≡◌, ℕ, ◌*◌, ◌<◌, List, [], ◌∷◌, ◌++◌, map, if◌then◌else◌, Bool, true}
use Rattle.std.specs.Prelude.{false, length, Option, Some, None}
use mathlib.Core.Option as May
use mathlib.Core.Option.{some, none}
use lib.ListN.{get_elem?}
use Rattle.eqc_core.specs.declared.event.Event.{Event}
use Rattle.eqc_core.specs.declared.playback.Ending.{Ending}
use Rattle.eqc_core.specs.declared.playback.Ending.TheVariants.{Done, Stopped}
use Rattle.eqc_core.specs.declared.sizes.Sizes.{Sizes}
use Rattle.eqc_core.specs.declared.worker.Worker.{Worker}
use Rattle.eqc_core.specs.declared.worker.Read.{Read as StoredRead}
use Rattle.eqc_core.specs.declared.table.Hand.{Hand as StoredHand}
use Rattle.eqc_core.specs.declared.table.Table.{Table}
use Rattle.eqc_core.specs.declared.machine.Machine.{Machine}
use Rattle.eqc_core.specs.View.{View, Hand, Read, draft_of, hand_of, fresh, unused, spent, phase_at}
use Rattle.eqc_core.specs.View.{view_at}
use Rattle.eqc_core.specs.Words.{Words, announced_words, cell_names, children, times}
use Rattle.eqc_core.specs.Tables.{Entries, table_has}
use Rattle.eqc_core.specs.Moves.{IsReady, IsQuiet, AreHeld}
use Rattle.eqc_core.specs.Stripes.{HasRoom}
use Rattle.eqc_core.specs.Scanning.{kept, ejected}
use Rattle.eqc_core.specs.Run.{IsAllowed, after, Runs, IsStoppedAt}
use Rattle.eqc_core.specs.State.{State, IsLawful}

-- the stripe in hand, the node last read, and a table at home, as they are stored
abbrev pub hand_view : Option StoredHand → Option Hand
hand_view None = None
hand_view (Some h) = Some (record { stripe = h.stripe; entries = h.table.entries.items })

abbrev pub read_view : Option StoredRead → Option Read
read_view None = None
read_view (Some r) = Some (record { name = r.name; word = r.word })

abbrev pub home_of : Option Table → May.Option Entries
home_of None = none
home_of (Some t) = some t.entries.items

-- the view of an active worker
abbrev pub active_view : Sizes → Worker → View
active_view z w =
    record (fresh z w.number) {
      held = w.held.items;
      phases = w.phases.items;
      retired = w.retired.items;
      position = w.position;
      noted = w.noted.items;
      draft = w.draft;
      hand = hand_view w.hand;
      read = read_view w.read;
      turn = w.turn.items;
      stops = w.stops.items;
      given = w.given;
      out = w.out.items;
    }

abbrev pub view_of : Sizes → Worker → View
view_of z w = if w.active then active_view z w else (if w.over then spent else unused)

abbrev pub words_of : Machine → Words
words_of m = record {
  announced = m.announced.items;
  counts = m.counts.items;
  nodes = m.nodes.items;
  cells = m.cells.items;
  boxes = m.boxes.items;
  locks = m.locks.items;
}

abbrev pub state_of : Machine → State
state_of m = record {
  sizes = m.sizes;
  words = words_of m;
  homes = map home_of m.homes.items;
  views = map (view_of m.sizes) m.workers.items;
}

pub record IsKept (m : Machine) : Type 0 where
  pub lawful : IsLawful (state_of m)

-- From here on: what the steps on the stored machine say to one another. No public promise cites
-- it.

-- the worker's view has changed in this way
pub record Turns (old new : Worker) (change : View → View) : Type 0 where
  pub active : new.active ≡ old.active
  pub view : (z : Sizes) → active_view z new ≡ change (active_view z old)

-- the stripe in hand has the slot, and the slot is a child of the node last read
abbrev pub HasInHand : Option Hand → ℕ → Type 0
HasInHand None x = ⊥
HasInHand (Some h) x = 0 < table_has x h.entries

abbrev pub HasRead : Option Read → ℕ → Type 0
HasRead None x = ⊥
HasRead (Some r) x = 0 < times x (children r.word)

-- a step before the node last read is forgotten
abbrev pub reads_on : (View → View) → View → View
reads_on step v = record (step v) { read = v.read }

-- the end of a scan, before that
abbrev pub sorted_out : View → View
sorted_out v = record v {
  held = v.held ++ ejected v.noted v.retired;
  position = 0;
  noted = [];
  retired = kept v.noted v.retired;
}

-- the stripe in hand has this table now
abbrev pub with_table : View → Entries → View
with_table v t = record v { hand = Some (record (hand_of v.hand) { entries = t }) }

-- a worker may write this node word, where it is in order
abbrev pub MayPlace : View → ℕ → Type 0
MayPlace v word = IsReady v × (v.draft ≡ Some (draft_of v.draft)) × (v.hand ≡ Some (hand_of v.hand))
    × HasRoom (hand_of v.hand).stripe (hand_of v.hand).entries word × AreHeld (children word) v.held

-- a worker may take the slot back, where its count is 1
abbrev pub MayTake : View → ℕ → Type 0
MayTake v x = IsReady v × (v.hand ≡ Some (hand_of v.hand))
    × (0 < table_has x (hand_of v.hand).entries)

-- the worker is active in this machine
pub record IsTurn (m : Machine) (id : ℕ) : Type 0 where
  pub kept : IsKept m
  pub there : id < length m.workers.items
  pub active : (view_at (state_of m).views id).active ≡ true

-- the view is one of the machine's
abbrev pub Stands : Machine → View → Type 0
Stands m v = (id : ℕ) × (get_elem? (state_of m).views id ≡ some v)

-- the event was allowed and taken, or it is not allowed
abbrev pub Takes : State → Event → State → Bool → Type 0
Takes s e t true = IsAllowed s e × (t ≡ after s e)
Takes s e t false = IsAllowed s e → ⊥

-- how a run ends: with a machine in the state after all events, or at the first event that is not
-- allowed
abbrev pub EndsAs : State → List Event → Ending → Type 0
EndsAs s es (Done m) = Runs s es (state_of m) × IsKept m × (m.sizes ≡ s.sizes)
EndsAs s es (Stopped i) = IsStoppedAt s es i

-- a worker may store this word into the cell, where the word is right
abbrev pub MayStore : View → ℕ → ℕ → Type 0
MayStore v c word = IsReady v × (c < v.sizes.cells) × IsQuiet (phase_at v 0)
    × AreHeld (cell_names word) v.held × (length v.retired < 2 * announced_words v.sizes)

-- a worker may put this word into the box, where it is a box's
abbrev pub MayPut : View → ℕ → ℕ → Type 0
MayPut v b word = IsReady v × (b < 16 * v.sizes.workers) × AreHeld (cell_names word) v.held
