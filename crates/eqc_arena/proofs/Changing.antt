-- What the steps of a worker change, and what several changes make together.
use Rattle.std.proofs.Common.{◌≡◌, ℕ, ◌+◌, ◌<◌, ◌≤◌, List, [], ◌∷◌, ◌++◌, set, get_or, length}
use Rattle.std.proofs.Common.{if◌then◌else◌, Option, Some, None, length-append, refl, sym, ap}
use Rattle.std.proofs.Common.{subst, ◌∙◌, arith, inl, inr}
use Rattle.std.proofs.lemmas.List.{set-get_or}
use native.Mathlib.Decide.{ℕ_discrete, dec_le}
use Rattle.eqc_core.specs.declared.phase.Phase.{Phase}
use Rattle.eqc_core.specs.declared.phase.Phase.TheVariants.{Idle}
use Rattle.eqc_core.specs.View.{View, Hand, Read, phase_at}
use Rattle.eqc_core.specs.Words.{times, slots_of, children}
use Rattle.eqc_core.specs.Tables.{Entries}
use Rattle.eqc_core.specs.Moves.{IsReady, IsQuiet, AreHeld, without, without_each}
use Rattle.eqc_core.specs.Counting.{upped, downed}
use Rattle.eqc_core.specs.Locking.{locked, unlocked}
use Rattle.eqc_core.specs.Making.{unclaimed, wrote, read_node, reclaimed, without_slot}
use Rattle.eqc_core.proofs.Names.{times-append, times-nil, times-same, times-other, times-without}
use Rattle.eqc_core.proofs.Names.{times-without_other, length-without_one, times-without_each}
use Rattle.eqc_core.proofs.Names.{two_cases}
use Rattle.eqc_guard.specs.Known.{IsHeld, IsKnown, tree_of}
use Rattle.eqc_guard.specs.Standing.{Standing, Steps}
use Rattle.eqc_guard.specs.Searching.{IsDrafted, HasSeen}
use Rattle.eqc_guard.specs.Sweeping.{IsScanned}
use Rattle.eqc_guard.proofs.Acquiring.{constant_trees, set_twice}
use Rattle.eqc_guard.proofs.Counts.{slots_held, length-without_all}
use Rattle.eqc_guard.proofs.Learning.{held_named, keeps_on}
use Rattle.eqc_guard.proofs.Copying.{keeps_copy}
use Rattle.eqc_guard.proofs.Snapshots.{all_stay, named_keep, snapshots_on, steps_keep}
use Rattle.eqc_cache.specs.Storing.{IsAsBefore}
use Rattle.eqc_cache.proofs.Trading.{slots_times, slots_length}
use Rattle.eqc_arena.specs.Changing.{MayBegin, Changes, Exchanges}

-- a view with the phases that it has
same_phases : (v : View) → v ≡ record v { phases = set v.phases 0 (phase_at v 0) }
same_phases v = ap (λ (ps : List Phase). record v { phases = ps })
    (sym (set-get_or v.phases 0 Idle))

-- the same with other names, and another stripe in hand and draft
still_phases : (v : View) (held retired : List ℕ) (read : Option Read) (turn stops : List ℕ)
    (hand : Option Hand) (draft : Option ℕ)
    → record v {
      held = held;
      retired = retired;
      read = read;
      turn = turn;
      stops = stops;
      hand =
          hand;
      draft = draft;
    }
    ≡ record v {
      held = held;
      phases = set v.phases 0 (phase_at v 0);
      retired = retired;
      read =
          read;
      turn = turn;
      stops = stops;
      hand = hand;
      draft = draft;
    }
still_phases v held retired read turn stops hand draft =
    ap (λ (w : View). record w {
      held = held;
      retired = retired;
      read = read;
      turn = turn;
      stops =
          stops;
      hand = hand;
      draft = draft;
    }) (same_phases v)

-- a view that was changed twice has what the second change left
pub changed_twice : (v w u : View) {held more retired less : List ℕ} {read late : Option Read}
    {turn next stops ends : List ℕ} {hand other : Option Hand} {draft second : Option ℕ}
    (p q : Phase)
    → w ≡ record v {
      held = held;
      phases = set v.phases 0 p;
      retired = retired;
      read = read;
      turn =
          turn;
      stops = stops;
      hand = hand;
      draft = draft;
    }
    → u ≡ record w {
      held = more;
      phases = set w.phases 0 q;
      retired = less;
      read = late;
      turn =
          next;
      stops = ends;
      hand = other;
      draft = second;
    }
    → u ≡ record v {
      held = more;
      phases = set v.phases 0 q;
      retired = less;
      read = late;
      turn =
          next;
      stops = ends;
      hand = other;
      draft = second;
    }
changed_twice v w u {held} {more} {retired} {less} {read} {late} {turn} {next} {stops} {ends} {hand}
    {other} {draft} {second} p q first later =
    later
    ∙ (ap (λ (t : View). record t {
      held = more;
      phases = set t.phases 0 q;
      retired = less;
      read =
          late;
      turn = next;
      stops = ends;
      hand = other;
      draft = second;
    }) first
    ∙ ap (λ (ps : List Phase). record v {
      held = more;
      phases = ps;
      retired = less;
      read = late;
      turn = next;
      stops = ends;
      hand = other;
      draft = second;
    }) (set_twice v.phases p q))

-- a list of phases whose first one is set to a quiet one begins with a quiet one
pub quiet_first : (ps : List Phase) (p : Phase) → IsQuiet p → IsQuiet (get_or (set ps 0 p) 0 Idle)
quiet_first [] p q = tt
quiet_first (o ∷ ps) p q = q

-- a step changes what its view says
module _ (gone came : List ℕ) (v : View) (old new : Standing) (s : Steps old v new)
    (is : v ≡ record old.known.core {
      held = v.held;
      retired = v.retired;
      read = v.read;
      turn =
          v.turn;
      stops = v.stops;
      hand = v.hand;
      draft = v.draft;
    })
    (enough : (x : ℕ) → times x gone ≤ times x old.known.core.held)
    (names : (x : ℕ) → times x v.held + times x gone ≡ times x old.known.core.held + times x came)
    (lengths : length v.held + length gone ≡ length old.known.core.held + length came) where
  pub changed : Changes gone came v.hand v.draft old new
  changed = record {
    forest = s.forest;
    held = v.held;
    phase = phase_at old.known.core 0;
    retired = v.retired;
    read = v.read;
    turn = v.turn;
    stops = v.stops;
    core = s.known.core ∙ (is ∙ still_phases old.known.core v.held v.retired v.read v.turn v.stops
        v.hand v.draft);
    quiet = λ q. q;
    enough = enough;
    names = names;
    lengths = lengths;
    trees = λ x two h. s.known.agrees x two (held_named old.known.core x (omega arith))
        (held_named v x (omega (arith, names x)));
    snapshots = steps_keep old new v s (ap (λ (w : View). w.phases) is);
    copy = s.known.copy;
    known = s.known.known;
  }

no_names : (x : ℕ) → times x [] ≤ 0
no_names x = omega (arith, times-nil x)

-- nothing changes
pub stays : (s : Standing) → IsKnown s.known → Changes [] [] s.known.core.hand s.known.core.draft s
    s
stays s known = record {
  forest = refl;
  held = s.known.core.held;
  phase = phase_at s.known.core 0;
  retired = s.known.core.retired;
  read = s.known.core.read;
  turn = s.known.core.turn;
  stops = s.known.core.stops;
  core = same_phases s.known.core;
  quiet = λ q. q;
  enough = λ x. omega (arith, no_names x);
  names = λ x. refl;
  lengths = refl;
  trees = λ x two h. refl;
  snapshots = all_stay s.known;
  copy = λ ws e. (ws, e);
  known = known;
}

-- a step that leaves the names held
module _ (v : View) (old new : Standing) (s : Steps old v new) (held : v.held ≡ old.known.core.held)
    (is : v ≡ record old.known.core {
      held = v.held;
      retired = v.retired;
      read = v.read;
      turn =
          v.turn;
      stops = v.stops;
      hand = v.hand;
      draft = v.draft;
    }) where
  moved : Changes [] [] v.hand v.draft old new
  moved = changed [] [] v old new s is (λ x. omega (arith, no_names x))
      (λ x. ap (λ (l : List ℕ). times x l + times x []) held) (ap (λ (l : List ℕ). length l
      + length {A = ℕ} []) held)

pub still_there : (old new : Standing) → Steps old old.known.core new
    → Changes [] [] old.known.core.hand old.known.core.draft old new
still_there old new s = moved old.known.core old new s refl refl

pub locks : (i : ℕ) (t : Entries) (old new : Standing) → Steps old (locked old.known.core i t) new
    → Changes [] [] (Some (record { stripe = i; entries = t })) old.known.core.draft old new
locks i t old new s = moved (locked old.known.core i t) old new s refl refl

pub unlocks : (old new : Standing) → Steps old (unlocked old.known.core) new
    → Changes [] [] None old.known.core.draft old new
unlocks old new s = moved (unlocked old.known.core) old new s refl refl

pub unclaims : (old new : Standing) → Steps old (unclaimed old.known.core) new
    → Changes [] [] old.known.core.hand None old new
unclaims old new s = moved (unclaimed old.known.core) old new s refl refl

pub reads : (x word : ℕ) (old new : Standing) → Steps old (read_node old.known.core x word) new
    → Changes [] [] old.known.core.hand old.known.core.draft old new
reads x word old new s = moved (read_node old.known.core x word) old new s refl refl

pub ups : (x : ℕ) (old new : Standing) → Steps old (upped old.known.core x) new
    → Changes [] (x ∷ []) old.known.core.hand old.known.core.draft old new
ups x old new s = changed [] (x ∷ []) (upped old.known.core x) old new s refl
    (λ y. omega (arith, no_names y))
    (λ y. omega (arith, times-append y old.known.core.held (x ∷ []), times-nil y))
    (omega (arith, length-append old.known.core.held (x ∷ [])))

pub downs : (x : ℕ) (old new : Standing) → 0 < times x old.known.core.held
    → Steps old (downed old.known.core x) new → Changes (x ∷ []) [] old.known.core.hand
    old.known.core.draft old new
downs x old new held s = changed (x ∷ []) [] (downed old.known.core x) old new s refl enough names
    (omega (arith, length-without_one x old.known.core.held held))
  where
    enough : (y : ℕ) → times y (x ∷ []) ≤ times y old.known.core.held
    enough y = elim (ℕ_discrete x y) [
      | yes e ↦ let h : 0 < times y old.known.core.held =
          subst (λ (z : ℕ). 0 < times z old.known.core.held) e held in
          omega (arith, times-same y x [] e, times-nil y)
      | no n ↦ omega (arith, times-other y x [] n, times-nil y)
    ]

    names : (y : ℕ) → times y (without x old.known.core.held) + times y (x ∷ [])
        ≡ times y old.known.core.held + times y []
    names y = elim (ℕ_discrete x y) [
      | yes e ↦
          let w : 1 + times y (without x old.known.core.held) ≡ times y old.known.core.held =
          subst (λ (z : ℕ). 1 + times z (without x old.known.core.held)
          ≡ times z old.known.core.held) e (times-without x old.known.core.held held) in
          omega (arith, times-same y x [] e, times-nil y)
      | no n ↦ omega (
        arith,
        times-other y x [] n,
        times-nil y,
        times-without_other y x
            old.known.core.held n,
      )
    ]

-- a slot was claimed, or seen taken
pub claims : (slot : ℕ) (old new : Standing) → IsDrafted slot old new
    → Changes [] [] old.known.core.hand (Some slot) old new
claims slot old new d = record {
  forest = d.forest;
  held = old.known.core.held;
  phase = phase_at old.known.core 0;
  retired = old.known.core.retired;
  read = old.known.core.read;
  turn = [];
  stops = old.known.core.stops;
  core = d.core ∙ still_phases old.known.core old.known.core.held old.known.core.retired
      old.known.core.read [] old.known.core.stops old.known.core.hand (Some slot);
  quiet = λ q. q;
  enough = λ x. omega (arith, no_names x);
  names = λ x. refl;
  lengths = refl;
  trees = λ x two h. d.trees x two (held_named old.known.core x (omega arith));
  snapshots = named_keep old.known new.known (ap (λ (v : View). v.phases) d.core) d.trees;
  copy = d.copy;
  known = d.known;
}

pub sees : (first last : ℕ) (old new : Standing) → HasSeen first last old new
    → Changes [] [] old.known.core.hand old.known.core.draft old new
sees first last old new n = record {
  forest = n.forest;
  held = old.known.core.held;
  phase = phase_at old.known.core 0;
  retired = old.known.core.retired;
  read = old.known.core.read;
  turn = n.turn;
  stops = old.known.core.stops;
  core = n.core ∙ still_phases old.known.core old.known.core.held old.known.core.retired
      old.known.core.read n.turn old.known.core.stops old.known.core.hand old.known.core.draft;
  quiet = λ q. q;
  enough = λ x. omega (arith, no_names x);
  names = λ x. refl;
  lengths = refl;
  trees = λ x two h. n.trees x two (held_named old.known.core x (omega arith));
  snapshots = named_keep old.known new.known (ap (λ (v : View). v.phases) n.core) n.trees;
  copy = n.copy;
  known = n.known;
}

-- a node was written: its table owns the children then
pub writes : (d low high word : ℕ) (h : Hand) (old new : Standing)
    → AreHeld (low ∷ high ∷ []) old.known.core.held → children word ≡ low ∷ high ∷ []
    → Steps old (wrote old.known.core d h word) new
    → Changes (slots_of (low ∷ high ∷ [])) (d ∷ [])
    (Some (record h { entries = h.entries ++ (word, d) ∷ [] })) None old new
writes d low high word h old new held is s =
    changed (slots_of (low ∷ high ∷ [])) (d ∷ []) (wrote old.known.core d h word) old new s refl
    enough
    (λ x. let w = whole x in
    omega (
      arith,
      times-append x (without_each (slots_of (low ∷ high ∷ [])) old.known.core.held)
          (d ∷ []),
      same x,
    ))
    (let w = length-without_all (slots_of (low ∷ high ∷ [])) old.known.core.held enough in
    omega (
      arith,
      length-append (without_each (slots_of (low ∷ high ∷ [])) old.known.core.held) (d
          ∷ []),
      longer,
    ))
  where
    enough : (x : ℕ) → times x (slots_of (low ∷ high ∷ [])) ≤ times x old.known.core.held
    enough = slots_held (low ∷ high ∷ []) old.known.core.held held

    whole : (x : ℕ) → times x (without_each (slots_of (low ∷ high ∷ [])) old.known.core.held)
        + times x (slots_of (low ∷ high ∷ [])) ≡ times x old.known.core.held
    whole x = times-without_each x (slots_of (low ∷ high ∷ [])) old.known.core.held (enough x)

    left : without_each (slots_of (children word)) old.known.core.held ++ d ∷ []
        ≡ without_each (slots_of (low ∷ high ∷ [])) old.known.core.held ++ d ∷ []
    left = ap (λ (l : List ℕ). without_each (slots_of l) old.known.core.held ++ d ∷ []) is

    same : (x : ℕ) → times x (without_each (slots_of (children word)) old.known.core.held ++ d ∷ [])
        ≡ times x (without_each (slots_of (low ∷ high ∷ [])) old.known.core.held ++ d ∷ [])
    same x = ap (times x) left

    longer : length (without_each (slots_of (children word)) old.known.core.held ++ d ∷ [])
        ≡ length (without_each (slots_of (low ∷ high ∷ [])) old.known.core.held ++ d ∷ [])
    longer = ap (λ (l : List ℕ). length l) left

-- a node was taken back: its children are the worker's then
pub reclaims : (x word : ℕ) (h : Hand) (old new : Standing)
    → Steps old (reclaimed old.known.core h x word) new
    → Changes [] (slots_of (children word)) (Some (record h { entries = without_slot x h.entries }))
    old.known.core.draft old new
reclaims x word h old new s =
    changed [] (slots_of (children word)) (reclaimed old.known.core h x word) old new s refl
    (λ y. omega (arith, no_names y))
    (λ y. omega (arith, times-append y old.known.core.held (slots_of (children word)), times-nil y))
    (omega (arith, length-append old.known.core.held (slots_of (children word))))

-- the cells were emptied
pub empties : (old new : Standing) → IsAsBefore old new
    → Changes [] [] old.known.core.hand old.known.core.draft old new
empties old new s = record {
  forest = s.forest;
  held = s.held;
  phase = s.phase;
  retired = s.retired;
  read = old.known.core.read;
  turn = old.known.core.turn;
  stops = old.known.core.stops;
  core = s.core;
  quiet = λ q. s.quiet;
  enough = λ x. omega (arith, no_names x);
  names = λ x. omega (arith, s.names x);
  lengths = omega (arith, s.lengths);
  trees = λ x two h. s.trees x two (omega arith);
  snapshots = s.snapshots;
  copy = s.copy;
  known = s.known;
}

none_left : (xs : List ℕ) → length xs ≤ 0 → xs ≡ []
none_left [] few = refl
none_left (x ∷ xs) few = absurd (omega arith)

-- a scan
pub scans : (old new : Standing) → IsKnown old.known → IsReady old.known.core → IsScanned old new
    → Changes [] [] old.known.core.hand old.known.core.draft old new
scans old new known ready s = record {
  forest = s.forest;
  held = s.held;
  phase = phase_at old.known.core 0;
  retired = s.retired;
  read = old.known.core.read;
  turn = old.known.core.turn;
  stops = old.known.core.stops;
  core =
      s.core
      ∙ ((λ i. record old.known.core {
        held = s.held;
        retired = s.retired;
        position = sym ready i;
        noted = sym noted i;
      })
      ∙ still_phases old.known.core s.held s.retired old.known.core.read old.known.core.turn
      old.known.core.stops old.known.core.hand old.known.core.draft);
  quiet = λ q. q;
  enough = λ x. omega (arith, no_names x);
  names = λ x. omega (arith, s.same x);
  lengths = omega (arith, s.lengths);
  trees = λ x two h. s.trees x two (omega arith);
  snapshots = s.snapshots;
  copy = keeps_copy old.known new.known s.copy;
  known = s.known;
}
  where
    noted : old.known.core.noted ≡ []
    noted = none_left old.known.core.noted (let n = known.noted in omega arith)

-- what holds after a change
module _ {gone came : List ℕ} {hand : Option Hand} {draft : Option ℕ} {old mid : Standing}
    (t : Changes gone came hand draft old mid) where
  pub hand_now : mid.known.core.hand ≡ hand
  hand_now = ap (λ (v : View). v.hand) t.core

  pub draft_now : mid.known.core.draft ≡ draft
  draft_now = ap (λ (v : View). v.draft) t.core

  pub ready_now : IsReady old.known.core → IsReady mid.known.core
  ready_now ready = ap (λ (v : View). v.position) t.core ∙ ready

  pub quiet_now : IsQuiet (phase_at old.known.core 0) → IsQuiet (phase_at mid.known.core 0)
  quiet_now q = subst (λ (v : View). IsQuiet (phase_at v 0)) (sym t.core)
      (quiet_first old.known.core.phases t.phase (t.quiet q))

  pub names_now : (x : ℕ) → times x mid.known.core.held + times x gone ≡ times x old.known.core.held
      + times x came
  names_now x = subst (λ (v : View). times x v.held + times x gone ≡ times x old.known.core.held
      + times x came) (sym t.core) (t.names x)

  pub lengths_now : length mid.known.core.held + length gone ≡ length old.known.core.held
      + length came
  lengths_now = subst (λ (v : View). length v.held + length gone ≡ length old.known.core.held
      + length came) (sym t.core) (t.lengths)

  -- a change of the later state, told with what is in hand
  pub here : {went more : List ℕ} {new : Standing} → Exchanges went more mid new
      → Changes went more hand draft mid new
  here {went} {more} {new} u = subst (λ (h : Option Hand). Changes went more h draft mid new)
      hand_now (subst (λ (d : Option ℕ). Changes went more mid.known.core.hand d mid new) draft_now
      u)

  -- another change follows, in which nothing goes but what had come
  pub on : {went more : List ℕ} {hand' : Option Hand} {draft' : Option ℕ} {new : Standing}
      (all : List ℕ) → Changes went more hand' draft' mid new
      → ((x : ℕ) → times x went ≤ times x came)
      → ((x : ℕ) → times x all + times x went ≡ times x came + times x more)
      → length all + length went ≡ length came + length more
      → Changes gone all hand' draft' old new
  on {went} {more} {hand'} {draft'} {new} all u covered balance weights = record {
    forest = u.forest ∙ t.forest;
    held = u.held;
    phase = u.phase;
    retired = u.retired;
    read = u.read;
    turn = u.turn;
    stops = u.stops;
    core = changed_twice old.known.core mid.known.core new.known.core t.phase u.phase t.core u.core;
    quiet = λ q. u.quiet (quiet_now q);
    enough = t.enough;
    names = λ x. omega (arith, u.names x, names_now x, balance x);
    lengths = omega (arith, u.lengths, lengths_now, weights);
    trees = λ x two h. u.trees x two (omega (arith, names_now x, covered x)) ∙ t.trees x two h;
    snapshots = snapshots_on old.known mid.known new.known t.snapshots u.snapshots;
    copy = keeps_on old.known mid.known new.known t.copy u.copy;
    known = u.known;
  }

  -- another change in which nothing goes
  pub and : {more : List ℕ} {hand' : Option Hand} {draft' : Option ℕ} {new : Standing}
      (all : List ℕ) → Changes [] more hand' draft' mid new
      → ((x : ℕ) → times x all ≡ times x came + times x more) → length all ≡ length came
      + length more → Changes gone all hand' draft' old new
  and {more} all u balance weights = on all u (λ x. omega (arith, no_names x))
      (λ x. omega (arith, balance x, times-nil x)) (omega (arith, weights))

  -- another change in which nothing goes or comes
  pub still : {hand' : Option Hand} {draft' : Option ℕ} {new : Standing}
      → Changes [] [] hand' draft' mid new → Changes gone came hand' draft' old new
  still u = and came u (λ x. omega (arith, times-nil x)) (omega arith)

-- a change follows one in which nothing went or came
pub after_still : {went more : List ℕ} {hand : Option Hand} {draft : Option ℕ}
    {old mid new : Standing} → Changes [] [] hand draft old mid →
    Exchanges went more mid new → Changes went more hand draft old new
after_still {went} {more} {hand} {draft} {old} {mid} {new} t w = let u = here t w in record {
  forest = u.forest ∙ t.forest;
  held = u.held;
  phase = u.phase;
  retired = u.retired;
  read = u.read;
  turn = u.turn;
  stops = u.stops;
  core = changed_twice old.known.core mid.known.core new.known.core t.phase u.phase t.core u.core;
  quiet = λ q. u.quiet (quiet_now t q);
  enough = λ x. omega (arith, u.enough x, names_now t x, times-nil x);
  names = λ x. omega (arith, u.names x, names_now t x);
  lengths = omega (arith, u.lengths, lengths_now t);
  trees = λ x two h. u.trees x two (omega (arith, names_now t x))
      ∙ t.trees x two (omega (arith, times-nil x));
  snapshots = snapshots_on old.known mid.known new.known t.snapshots u.snapshots;
  copy = keeps_on old.known mid.known new.known t.copy u.copy;
  known = u.known;
}

-- what was held is held, and has its tree, where nothing went
module _ {came : List ℕ} {hand : Option Hand} {draft : Option ℕ} {old mid : Standing}
    (t : Changes [] came hand draft old mid) where
  pub held_still : (x : ℕ) → IsHeld old.known.core x → IsHeld mid.known.core x
  held_still x (inl lt) = inl lt
  held_still x (inr h) = inr (omega (arith, names_now t x, times-nil x))

  pub same_tree : (x : ℕ) → IsHeld old.known.core x → tree_of mid.known x ≡ tree_of old.known x
  same_tree x (inl lt) = constant_trees mid.known.trees old.known.trees x lt (ℕ_discrete x 0)
      (ℕ_discrete x 1)
  same_tree x (inr h) = go (dec_le 2 x)
    where
      go : Dec (2 ≤ x) → tree_of mid.known x ≡ tree_of old.known x
      go (yes two) = t.trees x two (omega (arith, times-nil x))
      go (no n) = constant_trees mid.known.trees old.known.trees x (omega arith) (ℕ_discrete x 0)
          (ℕ_discrete x 1)

-- what came is held
pub came_held : {gone : List ℕ} {hand : Option Hand} {draft : Option ℕ} {old mid : Standing} (x : ℕ)
    (came : List ℕ) → Changes gone (slots_of (x ∷ came)) hand draft old mid
    → IsHeld mid.known.core x
came_held {gone} {hand} {draft} {old} {mid} x came t = elim (two_cases x) [
  | inl s ↦ inl s.1
  | inr s ↦ inr (let n = names_now t x in let e = t.enough x in omega (
    arith,
    slots_times x x came,
    times-same x x [] refl,
    ap (λ b. times x (if b then [] else x ∷ [])) s.0,
  ))
]

-- a name comes
pub one_comes : {hand : Option Hand} {draft : Option ℕ} {old mid new : Standing} (x : ℕ)
    → Changes [] [] hand draft old mid →
    Exchanges [] (slots_of (x ∷ [])) mid new → Changes [] (slots_of (x ∷ [])) hand draft old new
one_comes x t u = and t (slots_of (x ∷ [])) (here t u) (λ z. omega (arith, times-nil z))
    (omega arith)

-- two names come, one after the other
pub two_come : {hand : Option Hand} {draft : Option ℕ} {old s1 s2 s3 : Standing} (x y : ℕ)
    → Changes [] [] hand draft old s1 →
    Exchanges [] (slots_of (x ∷ [])) s1 s2 → Exchanges [] (slots_of (y ∷ [])) s2 s3
    → Changes [] (slots_of (x ∷ y ∷ [])) hand draft old s3
two_come x y t u v =
    let a = one_comes x t u in
    and a (slots_of (x ∷ y ∷ [])) (here a v) (λ z. slots_times z x (y ∷ []))
    (slots_length x (y ∷ []))

-- a name that came goes
pub goes : {gone : List ℕ} {hand : Option Hand} {draft : Option ℕ} {old mid new : Standing} (x : ℕ)
    (came : List ℕ) →
    Changes gone (slots_of (x ∷ came)) hand draft old mid → Exchanges (slots_of (x ∷ [])) [] mid new
    → Changes gone (slots_of came) hand draft old new
goes x came t u =
    on t (slots_of came) (here t u) (λ z. omega (arith, slots_times z x came))
    (λ z. omega (arith, slots_times z x came, times-nil z)) (omega (arith, slots_length x came))

-- a call may begin after another one
pub begins : {old new : Standing} → MayBegin old.known.core → Exchanges [] [] old new
    → MayBegin new.known.core
begins may t = record {
  ready = ready_now t may.ready;
  quiet = quiet_now t may.quiet;
  no_draft =
      draft_now t ∙ may.no_draft;
  no_hand = hand_now t ∙ may.no_hand;
}
