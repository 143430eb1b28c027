-- The views that stored workers stand for.
use Rattle.std.proofs.Common.{◌≡◌, ℕ, zero, suc, ◌*◌, ◌<◌, ◌^◌, ◌≤◌, List, [], ◌∷◌, length, set}
use Rattle.std.proofs.Common.{get_or, map, Bool, true, false, Option, Some, None, if◌then◌else◌}
use Rattle.std.proofs.Common.{refl, sym, ap, subst, ◌∙◌, arith, inr}
use Rattle.std.proofs.lemmas.List.{map-set}
use mathlib.Core.Option.{some, some-injective, some-ne-none}
use lib.ListN.{get_elem?}
use Rattle.eqc_core.specs.declared.sizes.Sizes.{Sizes}
use Rattle.eqc_core.specs.declared.phase.Phase.{Phase}
use Rattle.eqc_core.specs.declared.worker.Worker.{Worker}
use Rattle.eqc_core.specs.declared.machine.Machine.{Machine}
use Rattle.eqc_core.specs.View.{View, Hand, Read, draft_of, hand_of, unused, spent, view_at}
use Rattle.eqc_core.specs.Words.{Words, announced_words, word_at, times, children}
use Rattle.std.specs.Option.{is_some}
use Rattle.eqc_core.specs.Tables.{Homes, table_has}
use Rattle.eqc_core.specs.Stripes.{HasRoom}
use Rattle.eqc_core.specs.declared.table.Hand.{Hand as StoredHand}
use Rattle.eqc_core.specs.Owners.{owned}
use Rattle.eqc_core.specs.State.{State}
use Rattle.eqc_core.specs.Lawful.{Fits}
use Rattle.eqc_core.specs.Machine.{active_view, view_of, hand_view, HasInHand, HasRead, MayPlace}
use Rattle.eqc_core.specs.Machine.{words_of, state_of, Turns, IsKept, IsTurn}
use Rattle.eqc_core.specs.Moves.{IsQuiet, AreHeld}
use Rattle.eqc_core.specs.Seating.{IsAtRest}
use Rattle.eqc_core.proofs.Lists.{get_at, at_get, at_below}
use Rattle.eqc_core.proofs.Places.{below}
use Rattle.eqc_core.proofs.Sums.{at_le_sum}
use Rattle.eqc_core.specs.Making.{MayReclaim}
use Rattle.eqc_core.proofs.Tables.{owned_is, held_tabled, table_tabled}
use Rattle.eqc_core.proofs.Runs.{active_there}

-- an option that is no Some
pub is_none : {A : Type 0} (o : Option A) → is_some o ≡ false → o ≡ None
is_none None e = refl
is_none (Some a) e = absurd (cc)

-- what a view has in hand, or read last
pub hand_known : (o : Option Hand) (x : ℕ) → HasInHand o x → (h : Hand) × (o ≡ Some h)
    × (0 < table_has x h.entries)
hand_known None x p = absurd p
hand_known (Some h) x p = (h, refl, p)

pub known_hand : (o : Option Hand) (x : ℕ) (h : Hand) → o ≡ Some h → 0 < table_has x h.entries
    → HasInHand o x
known_hand o x h e p = subst (λ (q : Option Hand). HasInHand q x) (sym e) p

pub read_known : (o : Option Read) (x : ℕ) → HasRead o x → (r : Read) × (o ≡ Some r)
    × (0 < times x (children r.word))
read_known None x p = absurd p
read_known (Some r) x p = (r, refl, p)

pub known_read : (o : Option Read) (x : ℕ) (r : Read) → o ≡ Some r → 0 < times x (children r.word)
    → HasRead o x
known_read o x r e p = subst (λ (q : Option Read). HasRead q x) (sym e) p

pub are_held_as : (a b held held' : List ℕ) → a ≡ b → held ≡ held' → AreHeld a held
    → AreHeld b held'
are_held_as a b held held' e f h = subst (λ (p : List ℕ × List ℕ). AreHeld p.0 p.1)
    (λ i. (e i, f i)) h

-- a draft or a stripe that is there
pub draft_is_some : (o : Option ℕ) → is_some o ≡ true → o ≡ Some (draft_of o)
draft_is_some None e = absurd (cc)
draft_is_some (Some d) e = refl

pub hand_is : (o : Option Hand) (h : Hand) → o ≡ Some h → o ≡ Some (hand_of o)
hand_is o h e = e ∙ ap {B = Option Hand} (λ (k : Hand). Some k) (sym (ap hand_of e))

-- a node word may be written where its stripe's table has room for it
pub may_place : (z : Sizes) (w : Worker) (h : StoredHand) (word : ℕ) → w.position ≡ 0
    → is_some w.draft ≡ true → w.hand ≡ Some h → AreHeld (children word) w.held.items
    → (HasRoom h.stripe h.table.entries.items word → MayPlace (active_view z w) word)
    × (MayPlace (active_view z w) word → HasRoom h.stripe h.table.entries.items word)
may_place z w h word ready draft hand held =
    let k : Hand = record { stripe = h.stripe; entries = h.table.entries.items } in
    let e : hand_view w.hand ≡ Some k = ap hand_view hand in
    let same : hand_of (hand_view w.hand) ≡ k = ap hand_of e in (
      (λ room. (
        ready,
        draft_is_some w.draft draft,
        hand_is (hand_view w.hand) k e,
        subst (λ (q : Hand). HasRoom q.stripe q.entries word) (sym same) room,
        held,
      )),
      (λ may. subst (λ (q : Hand). HasRoom q.stripe q.entries word) same may.3),
    )

-- a step that takes a table out, or puts one home
pub stepped_home : (s : State) (w w' : Words) (hs hs' : Homes) (vs vs' : List View) → w ≡ w'
    → hs ≡ hs' → vs ≡ vs' →
    record s { words = w; homes = hs; views = vs } ≡ record s {
      words = w';
      homes = hs';
      views =
          vs';
    }
stepped_home s w w' hs hs' vs vs' p h q = λ i. record s { words = p i; homes = h i; views = q i }

pub at_rest : (z : Sizes) (w : Worker) → w.position ≡ 0 → ((k : ℕ) (p : Phase)
    → get_elem? w.phases.items k ≡ some p → IsQuiet p) → w.draft ≡ None → w.hand ≡ None →
    IsAtRest (active_view z w)
at_rest z w ready quiet draft hand = record {
  ready = ready;
  quiet = quiet;
  no_draft = draft;
  no_hand = ap hand_view hand;
}

pub active_is : (z : Sizes) (w : Worker) → w.active ≡ true → view_of z w ≡ active_view z w
active_is z w on = rw on refl

-- only an active worker has an active view
pub is_active_worker : (z : Sizes) (w : Worker) → (view_of z w).active ≡ true → w.active ≡ true
is_active_worker z w on = go w.active w.over refl (on)
  where
    go : (a o : Bool) → w.active ≡ a
        → (if a then active_view z w else (if o then spent else unused)).active ≡ true
        → w.active ≡ true
    go true o is e = is
    go false true is e = absurd (cc)
    go false false is e = absurd (cc)

at_read : {A : Type 0} (l : List A) (i : ℕ) (a : A) → i < length l → a ≡ get_or l i a
    → get_elem? l i ≡ some a
at_read l i a lt e = get_at l i a lt ∙ ap some (sym e)

at_map : {A B : Type 0} (f : A → B) (l : List A) (i : ℕ) (a : A) → get_elem? l i ≡ some a
    → get_elem? (map f l) i ≡ some (f a)
at_map f [] i a e = absurd (some-ne-none a (sym e))
at_map f (x ∷ xs) zero a e = ap (λ (y : _). some (f y)) (some-injective x a e)
at_map f (x ∷ xs) (suc i) a e = at_map f xs i a e

-- what stands in the views for a stored worker
pub view_is : (z : Sizes) (ws : List Worker) (id : ℕ) (w : Worker) → id < length ws
    → w ≡ get_or ws id w → view_at (map (view_of z) ws) id ≡ view_of z w
view_is z ws id w lt e = at_get (map (view_of z) ws) id (view_of z w) unused (at_map (view_of z) ws
    id w (at_read ws id w lt e))

-- a worker's change is its view's
pub turned_at : (z : Sizes) (ws : List Worker) (id : ℕ) (w w' : Worker) (f : View → View)
    → id < length ws → w ≡ get_or ws id w →
    (view_at (map (view_of z) ws) id).active ≡ true → w'.active ≡ w.active → active_view z w'
    ≡ f (active_view z w)
    → map (view_of z) (set ws id w') ≡ set (map (view_of z) ws) id
    (f (view_at (map (view_of z) ws) id))
turned_at z ws id w w' f lt e on same change =
    let is = view_is z ws id w lt e in
    let live : w.active ≡ true = is_active_worker z w (ap (λ (v : View). v.active) (sym is) ∙ on) in
    let new : view_of z w' ≡ f (view_at (map (view_of z) ws) id) =
    active_is z w' (same ∙ live) ∙ (change ∙ ap f (sym (is ∙ active_is z w live))) in
    map-set (view_of z) ws id w' ∙ ap (set (map (view_of z) ws) id) new

pub turned : (z : Sizes) (ws : List Worker) (id : ℕ) (w w' : Worker) (f : View → View)
    → id < length ws → w ≡ get_or ws id w → (view_at (map (view_of z) ws) id).active ≡ true
    → Turns w w' f
    → map (view_of z) (set ws id w') ≡ set (map (view_of z) ws) id
    (f (view_at (map (view_of z) ws) id))
turned z ws id w w' f lt e on change = turned_at z ws id w w' f lt e on change.active
    (change.view z)

-- the view of the worker whose turn it is fits the words
pub turn_there : (m : Machine) (id : ℕ) → IsTurn m id → get_elem? (state_of m).views id
    ≡ some (view_at (state_of m).views id)
turn_there m id turn = active_there (state_of m).views id turn.active

pub turn_fits : (m : Machine) (id : ℕ) → IsTurn m id → Fits m.sizes (words_of m) (state_of m).views
    id (view_at (state_of m).views id)
turn_fits m id turn = turn.kept.lawful.views id (view_at (state_of m).views id)
    (turn_there m id turn) turn.active

pub turn_sizes : (m : Machine) (id : ℕ) → IsTurn m id → (view_at (state_of m).views id).sizes
    ≡ m.sizes
turn_sizes m id turn = (turn_fits m id turn).sizes

-- a state after a step: its words and its views
abbrev pub changed : State → Words → List View → State
changed s w vs = record s { words = w; views = vs }

pub stepped : (s : State) (w w' : Words) (vs vs' : List View) → w ≡ w' → vs ≡ vs'
    → changed s w vs ≡ changed s w' vs'
stepped s w w' vs vs' p q = λ i. changed s (p i) (q i)

-- the words that the worker reads are there
pub cell_there : (m : Machine) (id c : ℕ) → IsTurn m id
    → c < (view_at (state_of m).views id).sizes.cells → c < length m.cells.items
cell_there m id c turn lt = let z = ap (λ (z : Sizes). z.cells) (turn_sizes m id turn) in let n =
    turn.kept.lawful.sized.cells in omega arith

pub box_there : (m : Machine) (id b : ℕ) → IsTurn m id
    → b < 16 * (view_at (state_of m).views id).sizes.workers → b < length m.boxes.items
box_there m id b turn lt = let z = ap (λ (z : Sizes). z.workers) (turn_sizes m id turn) in let n =
    turn.kept.lawful.sized.boxes in omega arith

pub count_there : (m : Machine) (id x : ℕ) → IsTurn m id
    → x < (view_at (state_of m).views id).sizes.names → (x < m.sizes.names)
    × (x < length m.counts.items)
count_there m id x turn lt = let z = ap (λ (z : Sizes). z.names) (turn_sizes m id turn) in let n =
    turn.kept.lawful.sized.counts in (omega arith, omega arith)

-- an announcement word of the worker whose turn it is
pub word_below : (m : Machine) (id k : ℕ) → IsTurn m id
    → k < (view_at (state_of m).views id).sizes.announcements → k < m.sizes.announcements
word_below m id k turn lt = let z = ap (λ (z : Sizes). z.announcements) (turn_sizes m id turn) in
    omega arith

pub announced_there : (m : Machine) (id k : ℕ) → IsTurn m id → k < m.sizes.announcements
    → word_at m.sizes id k < length m.announced.items
announced_there m id k turn lt =
    let law = turn.kept.lawful.sized in
    let b = below m.sizes id k (let v = law.views in let l =
    at_below (state_of m).views id (view_at (state_of m).views id) (turn_there m id turn) in
    omega arith) lt in
    omega (arith, law.announced)

-- the number of the worker whose turn it is is small
pub turn_small : (m : Machine) (id : ℕ) → IsTurn m id → id < 2 ^ 20
turn_small m id turn =
    let law = turn.kept.lawful.sized in
    let v = law.views in
    let n = law.few_workers in
    let l = at_below (state_of m).views id (view_at (state_of m).views id) (turn_there m id turn) in
    omega arith

-- a held name is counted
pub held_counted : (m : Machine) (id x : ℕ) → IsTurn m id → 2 ≤ x → x < m.sizes.names
    → 0 < times x (view_at (state_of m).views id).held → 0 < get_or m.counts.items x 0
held_counted m id x turn two lt holds =
    let v = view_at (state_of m).views id in
    omega (
      arith,
      turn.kept.lawful.counted.counts x two lt,
      at_le_sum (owned x) (state_of m).views
          id v (turn_there m id turn),
      owned_is x v,
    )

-- the worker's own fields, as its view has them
pub turn_view : (m : Machine) (id : ℕ) (w : Worker) → IsTurn m id → w ≡ get_or m.workers.items id w
    → view_at (state_of m).views id ≡ active_view m.sizes w
turn_view m id w turn e =
    let is = view_is m.sizes m.workers.items id w turn.there e in
    is ∙ active_is m.sizes w (is_active_worker m.sizes w (ap (λ (v : View). v.active) (sym is)
    ∙ turn.active))

-- the scan reads a word that is there
pub place_there : (m : Machine) (id : ℕ) (w : Worker) → IsTurn m id
    → w ≡ get_or m.workers.items id w → w.position < announced_words m.sizes
place_there m id w turn e = subst (λ (v : View). v.position < announced_words m.sizes)
    (turn_view m id w turn e) (turn_fits m id turn).place

-- each announcement word of each worker is there
pub silence_there : (m : Machine) (id k : ℕ) → IsKept m → id < m.sizes.workers
    → k < m.sizes.announcements → word_at m.sizes id k < length m.announced.items
silence_there m id k kept lt word =
    let law = kept.lawful.sized in
    let b = below m.sizes id k lt word in
    omega (arith, law.announced)

-- the worker whose turn it is has a phase for each announcement word
pub phases_there : (m : Machine) (id : ℕ) (w : Worker) → IsTurn m id
    → w ≡ get_or m.workers.items id w → length w.phases.items ≡ m.sizes.announcements
phases_there m id w turn e = subst (λ (v : View). length v.phases ≡ m.sizes.announcements)
    (turn_view m id w turn e) (turn_fits m id turn).phases

-- a held name, and a slot of the stripe in hand, have their words
pub held_there : (m : Machine) (id x : ℕ) → IsTurn m id
    → 0 < times x (view_at (state_of m).views id).held → x < length m.nodes.items
held_there m id x turn holds =
    let s = state_of m in
    let law = turn.kept.lawful in
    let v = view_at s.views id in
    let two : 2 ≤ x = (turn_fits m id turn).slots x (omega arith) in
    let lt = (law.tables.named x (held_tabled s.sizes s.words s.homes s.views law id x v
    (turn_there m id turn) two holds)).1 in
    let n = law.sized.nodes in
    omega arith

pub taken_there : (m : Machine) (id x : ℕ) → IsTurn m id →
    MayReclaim (words_of m) (view_at (state_of m).views id)
    (hand_of (view_at (state_of m).views id).hand) x →
    (x < length m.nodes.items) × (x < length m.counts.items)
taken_there m id x turn may =
    let s = state_of m in
    let law = turn.kept.lawful in
    let v = view_at s.views id in
    let h = hand_of v.hand in
    let has = may.2 in
    let lt = (law.tables.named x (omega (
      arith,
      table_tabled s.homes s.views h.stripe h.entries x
          (inr (id, v, h, turn_there m id turn, may.1, refl, refl)),
    ))).1 in
    let n = law.sized.nodes in
    let k = law.sized.counts in
    (omega arith, omega arith)

-- the worker of a step that needs a stripe in hand has one
pub hand_there : (m : Machine) (id : ℕ) (w : Worker) (h : Hand) → IsTurn m id
    → w ≡ get_or m.workers.items id w → (view_at (state_of m).views id).hand ≡ Some h
    → hand_view w.hand ≡ None → ⊥
hand_there m id w h turn e is none = let q : Some h ≡ None = sym is
    ∙ (ap (λ (v : View). v.hand) (turn_view m id w turn e) ∙ none) in cc
