-- A collection by a worker that is alone, step by step.
use Rattle.std.proofs.Common.{◌≡◌, ◌≢◌, ℕ, zero, suc, ◌+◌, ◌-◌, ◌*◌, ◌%◌, ◌^◌, ◌<◌, ◌≤◌, List, []}
use Rattle.std.proofs.Common.{◌∷◌, ◌++◌, length, set, get_or, slice_get, eqb, ltb, cond}
use Rattle.std.proofs.Common.{if◌then◌else◌, Bool, true, Option, Some, None, eq-eqb, ne_eqb, refl}
use Rattle.std.proofs.Common.{sym, ap, subst, ◌∙◌, arith, inl, inr, ⊎_elim}
use Rattle.std.specs.List.{swap_remove}
use Rattle.std.proofs.lemmas.List.{get_or-set_other, get_or_append_left}
use Rattle.std.proofs.lemmas.Bool.{le-ltb}
use mathlib.Core.Option.{some, some-injective, some-ne-none}
use native.Mathlib.Decide.{ℕ_discrete, dec_le}
use lib.ListN.{get_elem?}
use Rattle.eqc_core.specs.declared.phase.Phase.{Phase}
use Rattle.eqc_core.specs.declared.sizes.Sizes.{Sizes}
use Rattle.eqc_core.specs.View.{View, Hand, unused, spent, view_at}
use Rattle.eqc_core.specs.Words.{Words, announced_words, times, variable_of, stripe_of, low_of}
use Rattle.eqc_core.specs.Words.{high_of, children, slots_of}
use Rattle.eqc_core.specs.Tables.{Entries, IsTable, tabled, home_there, has_stripe}
use Rattle.eqc_core.specs.Moves.{IsQuiet, without}
use Rattle.eqc_core.specs.Counting.{downed}
use Rattle.eqc_core.specs.Locking.{locked, unlocked}
use Rattle.eqc_core.specs.Making.{read_node}
use Rattle.eqc_core.specs.State.{State}
use Rattle.eqc_core.specs.Collecting.{IsBare}
use Rattle.eqc_core.proofs.Lists.{at_get, at_below}
use Rattle.eqc_core.proofs.Sums.{at_le_sum}
use Rattle.eqc_core.proofs.Names.{times-same, two_cases}
use Rattle.eqc_core.proofs.Tables.{entry_of, has_le, table_tabled, tabled_where}
use Rattle.eqc_core.proofs.Claiming.{tabled_owners}
use Rattle.eqc_core.proofs.Known.{held_counted}
use Rattle.eqc_core.proofs.Collecting.{least_is_dead, no_dead_is_empty, empty_is_free}
use Rattle.eqc_core.proofs.Collecting.{counted_tabled}
use Rattle.eqc_guard.specs.Closing.{above_zero, IsTallied}
use Rattle.eqc_guard.specs.Known.{Known, IsCopy, IsKnown, apart, spread, flat}
use Rattle.eqc_guard.specs.Rule.{counts_from, nodes_from, cells_from, boxes_from, locks_from}
use Rattle.eqc_guard.specs.Standing.{Standing, Steps}
use Rattle.eqc_guard.specs.Telling.{Copies, copied}
use Rattle.eqc_guard.specs.Making.{taken_back}
use Rattle.eqc_guard.specs.Locking.{MayHome}
use Rattle.eqc_guard.specs.Sweeping.{IsSilent, IsScanned}
use Rattle.eqc_guard.proofs.Closing.{read_stays}
use Rattle.eqc_guard.proofs.Copying.{below}
use Rattle.eqc_guard.proofs.Laid.{get_count, get_node, get_cell, get_behind, spread_length}
use Rattle.eqc_cache.specs.Placing.{AreEmpty}
use Rattle.eqc_cache.specs.Storing.{IsAsBefore}
use Rattle.eqc_arena.proofs.Entries.{stood_behind, elem_get, in_both, entry_in_hand}
use Rattle.eqc_arena.specs.Changing.{MayBegin}
use Rattle.eqc_arena.specs.Emptying.{count_in, node_in, IsCounted, HasNoCounts, MayEmpty, AreBlank}
use Rattle.eqc_arena.specs.Emptying.{AllFrom, IsPast, AreDone, AreTried, IsBetween, IsFrom}
use Rattle.eqc_arena.specs.Emptying.{IsTrying}

-- a box in a copy of the words
get_box : (z : Sizes) (w : Words) (b : ℕ) → length w.announced ≡ announced_words z
    → length w.counts ≡ z.names → length w.nodes ≡ z.names →
    length w.cells ≡ z.cells → b < length w.boxes → get_or (flat w) (cells_from z + (z.cells + b)) 0
    ≡ get_or w.boxes b 0
get_box z w b announced counts nodes cells lt =
    ap (λ (i : ℕ). get_or (flat w) i 0) (let e : counts_from z + (z.names + z.names) + (z.cells + b)
    ≡ counts_from z + (z.names + (z.names + (z.cells + b))) = omega arith in e)
    ∙ (get_behind (spread w.announced) (w.counts
    ++ (w.nodes ++ (w.cells ++ (w.boxes ++ apart w.locks)))) (counts_from z) (z.names
    + (z.names + (z.cells + b))) 0
    (spread_length w.announced ∙ ap (λ (n : ℕ). 2 * n) announced)
    ∙ (get_behind w.counts (w.nodes ++ (w.cells ++ (w.boxes ++ apart w.locks))) z.names (z.names
    + (z.cells + b)) 0 counts
    ∙ (get_behind w.nodes (w.cells ++ (w.boxes ++ apart w.locks)) z.names (z.cells + b) 0 nodes
    ∙ (get_behind w.cells (w.boxes ++ apart w.locks) z.cells b 0 cells
    ∙ get_or_append_left w.boxes (apart w.locks) 0 b lt))))

-- a copy of the words is a state of the machine
module _ (k : Known) (ws : List ℕ) (c : IsCopy k ws) where
  abbrev pub state_in : State
  state_in = record { sizes = k.core.sizes; words = c.words; homes = c.homes; views = c.views }

  counts_are : (x : ℕ) → x < k.core.sizes.names → count_in k.core.sizes ws x ≡ get_or c.words.counts
      x 0
  counts_are x lt = ap (λ (l : List ℕ). get_or l (counts_from k.core.sizes + x) 0) c.laid
      ∙ get_count k.core.sizes c.words c.homes c.views c.lawful.sized x lt

  nodes_are : (x : ℕ) → x < k.core.sizes.names → node_in k.core.sizes ws x ≡ get_or c.words.nodes x
      0
  nodes_are x lt = ap (λ (l : List ℕ). get_or l (nodes_from k.core.sizes + x) 0) c.laid
      ∙ get_node k.core.sizes c.words c.homes c.views c.lawful.sized x lt

  -- this worker is active
  active_is : (id : ℕ) (v : View) → get_elem? c.views id ≡ some v → v.active ≡ true → id ≡ c.id
  active_is id v at on = go (ℕ_discrete id c.id)
    where
      go : Dec (id ≡ c.id) → id ≡ c.id
      go (yes e) = e
      go (no n) = absurd (let off = c.alone id v n at in cc)

  -- so it is worker 0
  first_is : 0 ≡ c.id
  first_is = let f = c.lawful.seated.first in active_is 0 f.0 f.1 f.2

  here : view_at c.views 0 ≡ k.core
  here = ap (λ (i : ℕ). view_at c.views i) first_is ∙ at_get c.views c.id k.core unused c.mine

  -- a slot that is tabled is counted
  tabled_counted : (x : ℕ) → 0 < tabled c.homes c.views x → IsCounted k.core.sizes ws x
  tabled_counted x tab =
      let n = c.lawful.tables.named x tab in
      let own = tabled_owners c.words c.homes c.views x tab in
      (n.0, n.1, omega (arith, counts_are x n.1, c.lawful.counted.counts x n.0 n.1))

module _ (n stripe taken : ℕ) (k : Known) (b : IsBetween [] n stripe taken k) where
  abbrev copy_of : IsCopy k b.words
  copy_of = b.known.state b.words b.copy

  abbrev state_of : State
  state_of = state_in k b.words (b.known.state b.words b.copy)

  bare : IsBare [] (state_of).words (state_of).views
  bare =
      let c = b.known.state b.words b.copy in
      let sized = c.lawful.sized in
      record {
        alone = λ id v at on. active_is k b.words c id v at on ∙ sym (first_is k b.words c);
        holds = ap (λ (v : View). v.held) (here k b.words c) ∙ b.holds;
        retired = ap (λ (v : View). v.retired) (here k b.words c) ∙ b.retired;
        ready = ap (λ (v : View). v.position) (here k b.words c) ∙ b.ready;
        draft = ap (λ (v : View). v.draft) (here k b.words c) ∙ b.draft;
        cells = λ i word at.
            let lt : i < k.core.sizes.cells = let l = at_below c.words.cells i word at in let e =
            sized.cells in omega arith in
            sym (at_get c.words.cells i word 0 at)
            ∙ (sym (get_cell k.core.sizes c.words c.homes c.views sized i lt)
            ∙ (ap (λ (l : List ℕ). get_or l (cells_from k.core.sizes + i) 0) (sym c.laid)
            ∙ b.blank i (omega arith)));
        boxes = λ i word at.
            let lt = at_below c.words.boxes i word at in
            let e = sized.boxes in
            sym (at_get c.words.boxes i word 0 at)
            ∙ (sym (get_box k.core.sizes c.words i sized.announced sized.counts sized.nodes
            sized.cells lt)
            ∙ (ap (λ (l : List ℕ). get_or l (cells_from k.core.sizes + (k.core.sizes.cells + i)) 0)
            (sym c.laid) ∙ b.blank (k.core.sizes.cells + i) (omega arith)));
      }

  -- a slot that is counted is tabled
  is_tabled : (x : ℕ) → IsCounted k.core.sizes b.words x
      → 0 < tabled (state_of).homes (state_of).views x
  is_tabled x counted =
      let c = b.known.state b.words b.copy in
      counted_tabled state_of c.lawful bare x counted.0 counted.1 (let e =
      counts_are k b.words c x counted.1 in let lt = counted.2 in omega arith)

  -- one of the least variable has the count 1
  least : (x : ℕ) → IsCounted k.core.sizes b.words x → variable_of (node_in k.core.sizes b.words x)
      ≡ n → count_in k.core.sizes b.words x ≡ 1
  least x counted e =
      let c = b.known.state b.words b.copy in
      counts_are k b.words c x counted.1
      ∙ least_is_dead state_of n x c.lawful bare
      (λ y tab. let is = tabled_counted k b.words c y tab in subst (λ (w : ℕ). n ≤ variable_of w)
      (nodes_are k b.words c y is.1) (b.from y is))
      (is_tabled x counted)
      (ap variable_of (sym (nodes_are k b.words c x counted.1)) ∙ e)

  -- so one that is counted, with another count, has a greater variable
  shared_is_later : (x : ℕ) → IsCounted k.core.sizes b.words x → count_in k.core.sizes b.words x ≢ 1
      → n < variable_of (node_in k.core.sizes b.words x)
  shared_is_later x counted shared = go (ℕ_discrete (variable_of (node_in k.core.sizes b.words x))
      n)
    where
      go : Dec (variable_of (node_in k.core.sizes b.words x) ≡ n)
          → n < variable_of (node_in k.core.sizes b.words x)
      go (yes e) = absurd (shared (least x counted e))
      go (no other) = omega (arith, b.from x counted)

  -- no variable is beyond the last that a node's word has room for
  pub all_turns : 65536 ≤ n → HasNoCounts k
  all_turns past ws has x two lt = go (dec_le 1 (count_in k.core.sizes ws x))
    where
      same : b.words ≡ ws
      same = let e : Some b.words ≡ Some ws = sym b.copy ∙ has in cc

      go : Dec (1 ≤ count_in k.core.sizes ws x) → count_in k.core.sizes ws x ≡ 0
      go (no m) = omega arith
      go (yes is) = absurd (
          let c = b.known.state b.words b.copy in
          let counted : IsCounted k.core.sizes b.words x =
          (two, lt, subst (λ (l : List ℕ). 0 < count_in k.core.sizes l x) (sym same) is) in
          let shaped = c.lawful.tables.shaped x (is_tabled x counted) in
          let e = ap variable_of (nodes_are k b.words c x lt) in
          omega (arith, b.from x counted, shaped.few, c.lawful.sized.few_variables))

in_stripes : (word : ℕ) → stripe_of word < 16
unfolding stripe_of
in_stripes word = omega arith

-- a turn is over: each slot that is counted has a greater variable
pub next_turn : (n taken : ℕ) (k : Known) → IsBetween [] n 16 taken k → IsFrom (n + 1) k
next_turn n taken k b = record {
  words = b.words;
  copy = b.copy;
  holds = b.holds;
  retired = b.retired;
  ready = b.ready;
  draft = b.draft;
  blank = b.blank;
  from = λ x counted. let past = b.done x counted (in_stripes (node_in k.core.sizes b.words x)) in
      let more = past.0 in omega arith;
  done = λ x counted lt. absurd (omega arith);
  known = b.known;
}

-- and where nothing was taken back in it, nothing is counted
pub took_none : (n : ℕ) (k : Known) → IsBetween [] n 16 0 k → HasNoCounts k
took_none n k b ws has x two lt =
    let c = b.known.state b.words b.copy in
    let same : b.words ≡ ws = let e : Some b.words ≡ Some ws = sym b.copy ∙ has in cc in
    let empty = no_dead_is_empty (state_in k b.words c) c.lawful (bare n 16 0 k b)
    (λ y tab one. let counted = tabled_counted k b.words c y tab in
    (b.done y counted (in_stripes (node_in k.core.sizes b.words y))).1 refl
    (counts_are k b.words c y counted.1 ∙ one)) in
    ap (λ (l : List ℕ). count_in k.core.sizes l x) (sym same)
    ∙ (counts_are k b.words c x lt ∙ empty_is_free (state_in k b.words c) c.lawful (bare n 16 0 k b)
    empty x two lt)

-- what a step leaves of the words: no count is higher, none is lower where nothing was taken back,
-- and nodes, cells and boxes are as before
record Wanes (z : Sizes) (taken : ℕ) (ws left : List ℕ) : Type 0 where
  counts : (x : ℕ) → x < z.names → count_in z left x ≤ count_in z ws x
  same : taken ≡ 0 → (x : ℕ) → x < z.names → count_in z left x ≡ count_in z ws x
  nodes : (x : ℕ) → x < z.names → node_in z left x ≡ node_in z ws x
  blank : (c : ℕ) → c < z.cells + 16 * z.workers → get_or left (cells_from z + c) 0
      ≡ get_or ws (cells_from z + c) 0

no_wane : (z : Sizes) (taken : ℕ) (ws : List ℕ) → Wanes z taken ws ws
no_wane z taken ws = record {
  counts = λ x lt. omega arith;
  same = λ e x lt. refl;
  nodes =
      λ x lt. refl;
  blank = λ c lt. refl;
}

-- a word behind the boxes is set
lock_wanes : (z : Sizes) (taken : ℕ) (ws : List ℕ) (s y : ℕ)
    → Wanes z taken ws (set ws (locks_from z + s) y)
lock_wanes z taken ws s y = record {
  counts = λ x lt. let e = get_or-set_other ws (locks_from z + s) (counts_from z + x) y 0
      (λ q. absurd (omega arith)) in omega arith;
  same = λ e x lt. get_or-set_other ws (locks_from z + s) (counts_from z + x) y 0
      (λ q. absurd (omega arith));
  nodes = λ x lt. get_or-set_other ws (locks_from z + s) (nodes_from z + x) y 0
      (λ q. absurd (omega arith));
  blank = λ c lt. get_or-set_other ws (locks_from z + s) (cells_from z + c) y 0
      (λ q. absurd (omega arith));
}

set_falls : (ws : List ℕ) (i j y : ℕ) → y ≤ get_or ws i 0 → get_or (set ws i y) j 0 ≤ get_or ws j 0
set_falls [] i j y le = omega arith
set_falls (x ∷ xs) zero zero y le = le
set_falls (x ∷ xs) zero (suc j) y le = omega arith
set_falls (x ∷ xs) (suc i) zero y le = omega arith
set_falls (x ∷ xs) (suc i) (suc j) y le = set_falls xs i j y le

-- a count falls
count_wanes : (z : Sizes) (taken : ℕ) (ws : List ℕ) (y n : ℕ) → 0 < taken → y < z.names
    → n ≤ count_in z ws y → Wanes z taken ws (set ws (counts_from z + y) n)
count_wanes z taken ws y n some_taken small le = record {
  counts = λ x lt. set_falls ws (counts_from z + y) (counts_from z + x) n le;
  same = λ e x lt. absurd (omega arith);
  nodes = λ x lt. get_or-set_other ws (counts_from z + y) (nodes_from z + x) n 0
      (λ q. absurd (omega arith));
  blank = λ c lt. get_or-set_other ws (counts_from z + y) (cells_from z + c) n 0
      (λ q. absurd (omega arith));
}

module _ (z : Sizes) (taken : ℕ) (ws left : List ℕ) (w : Wanes z taken ws left) where
  was_counted : (x : ℕ) → IsCounted z left x → IsCounted z ws x
  was_counted x counted = (
    counted.0,
    counted.1,
    (let le = w.counts x counted.1 in let lt =
        counted.2 in omega arith),
  )

  still_past : (n before word x : ℕ) → (taken ≡ 0 → before ≡ 0) → x < z.names
      → IsPast n before word (count_in z ws x) → IsPast n taken word (count_in z left x)
  still_past n before word x none lt past = (
    past.0,
    λ e one. past.1 (none e) (sym (w.same e x lt)
        ∙ one),
  )

  still_blank : AreBlank z ws → AreBlank z left
  still_blank blank c lt = w.blank c lt ∙ blank c lt

  still_from : (n : ℕ) → AllFrom n z ws → AllFrom n z left
  still_from n from x counted = subst (λ (word : ℕ). n ≤ variable_of word)
      (sym (w.nodes x counted.1)) (from x (was_counted x counted))

  still_done : (n stripe before : ℕ) → (taken ≡ 0 → before ≡ 0) → AreDone n stripe before z ws
      → AreDone n stripe taken z left
  still_done n stripe before none done x counted lt =
      let e = w.nodes x counted.1 in
      subst (λ (word : ℕ). IsPast n taken word (count_in z left x)) (sym e)
      (still_past n before (node_in z ws x) x none counted.1 (done x (was_counted x counted)
      (subst (λ (word : ℕ). stripe_of word < stripe) e lt)))

  still_tried : (n before i : ℕ) (t : Entries) → (taken ≡ 0 → before ≡ 0)
      → AreTried n before i t z ws → AreTried n taken i t z left
  still_tried n before i t none tried j e le at counted = still_past n before e.0 e.1 none counted.1
      (tried j e le at (was_counted e.1 counted))

-- the view after a step, but for what is held, in hand and read
record Rests (held : List ℕ) (k after : Known) : Type 0 where
  sizes : after.core.sizes ≡ k.core.sizes
  holds : after.core.held ≡ held
  retired : after.core.retired ≡ k.core.retired
  position : after.core.position ≡ k.core.position
  draft : after.core.draft ≡ k.core.draft
  known : IsKnown after

module _ (held : List ℕ) (n stripe taken : ℕ) (k : Known) (b : IsBetween held n stripe taken k)
    (more : ℕ) (none : more ≡ 0 → taken ≡ 0)
    (others : List ℕ) (after : Known) (left : List ℕ) (copy : after.copy ≡ Some left)
    (w : Wanes k.core.sizes more b.words left)
    (r : Rests others k after) where
  carries : IsBetween others n stripe more after
  carries = record {
    words = left;
    copy = copy;
    holds = r.holds;
    retired = r.retired ∙ b.retired;
    ready = r.position ∙ b.ready;
    draft = r.draft ∙ b.draft;
    blank = subst (λ (z : Sizes). AreBlank z left) (sym r.sizes) (still_blank k.core.sizes more
        b.words left w b.blank);
    from = subst (λ (z : Sizes). AllFrom n z left) (sym r.sizes) (still_from k.core.sizes more
        b.words left w n b.from);
    done = subst (λ (z : Sizes). AreDone n stripe more z left) (sym r.sizes)
        (still_done k.core.sizes more b.words left w n stripe taken none b.done);
    known = r.known;
  }

  carries_tried : (i : ℕ) (t : Entries) → AreTried n taken i t k.core.sizes b.words
      → IsTrying others n stripe more i t after
  unfolding carries
  carries_tried i t tried = record {
    between = carries;
    tried = subst (λ (z : Sizes). AreTried n more i t z left) (sym r.sizes)
        (still_tried k.core.sizes more b.words left w n taken i t none tried);
  }

rests : (held : List ℕ) (k after : Known) (v : View) → after.core ≡ v → v.sizes ≡ k.core.sizes
    → v.held ≡ held → v.retired ≡ k.core.retired →
    v.position ≡ k.core.position → v.draft ≡ k.core.draft → IsKnown after → Rests held k after
rests held k after v is sizes holds retired position draft known = record {
  sizes = ap (λ (u : View). u.sizes) is ∙ sizes;
  holds = ap (λ (u : View). u.held) is ∙ holds;
  retired = ap (λ (u : View). u.retired) is ∙ retired;
  position = ap (λ (u : View). u.position) is ∙ position;
  draft = ap (λ (u : View). u.draft) is ∙ draft;
  known = known;
}

-- a stripe is taken: none of its entries was tried
pub stripe_begins : (n s h taken i : ℕ) (t : Entries) (old new : Standing)
    → IsBetween [] n s taken old.known →
    Steps old (locked old.known.core h t) new → new.known.copy ≡ copied old.known.copy
    (locks_from old.known.core.sizes + 8 * h) 1 → length t ≤ i
    → IsTrying [] n s taken i t new.known
stripe_begins n s h taken i t old new b step copy past =
    carries_tried [] n s taken old.known b taken (λ e. e) [] new.known
    (set b.words (locks_from old.known.core.sizes + 8 * h) 1)
    (copy ∙ ap (λ (o : Option (List ℕ)). copied o (locks_from old.known.core.sizes + 8 * h) 1)
    b.copy)
    (lock_wanes old.known.core.sizes taken b.words (8 * h) 1)
    (rests [] old.known new.known (locked old.known.core h t) step.known.core refl b.holds refl refl
    refl step.known.known)
    i t
    (λ j e le at counted. absurd (let lt = at_below t j e at in omega arith))

-- a stripe goes home, whether or not it is done
pub stripe_leaves : (n s h taken : ℕ) (old new : Standing) → IsBetween [] n s taken old.known
    → Steps old (unlocked old.known.core) new →
    new.known.copy ≡ copied old.known.copy (locks_from old.known.core.sizes + 8 * h) 0
    → IsBetween [] n s taken new.known
stripe_leaves n s h taken old new b step copy =
    carries [] n s taken old.known b taken (λ e. e) [] new.known
    (set b.words (locks_from old.known.core.sizes + 8 * h) 0)
    (copy ∙ ap (λ (o : Option (List ℕ)). copied o (locks_from old.known.core.sizes + 8 * h) 0)
    b.copy)
    (lock_wanes old.known.core.sizes taken b.words (8 * h) 0)
    (rests [] old.known new.known (unlocked old.known.core) step.known.core refl b.holds refl refl
    refl step.known.known)

-- beside a list without entries nothing has to be tried
pub none_tried : (held : List ℕ) (n s taken i : ℕ) (k : Known) → IsBetween held n s taken k
    → IsTrying held n s taken i [] k
none_tried held n s taken i k b = record {
  between = b;
  tried =
      λ j e le at counted. absurd (some-ne-none e (sym at));
}

-- a node is read
pub trying_read : (held : List ℕ) (n s taken i x word place : ℕ) (t : Entries) (old new : Standing)
    → IsTrying held n s taken i t old.known →
    Steps old (read_node old.known.core x word) new → Copies old.known place word word new.known
    → IsTrying held n s taken i t new.known
trying_read held n s taken i x word place t old new tr step copies =
    let b = tr.between in
    let stays = read_stays old.known new.known place word b.words copies b.copy in
    carries_tried held n s taken old.known b taken (λ e. e) held new.known b.words stays.0
    (no_wane old.known.core.sizes taken b.words)
    (rests held old.known new.known (read_node old.known.core x word) step.known.core refl b.holds
    refl refl refl step.known.known)
    i t tr.tried

-- a count that is above 0 falls by 1
falls_by_one : (m : ℕ) → 0 < m → (m + (2 ^ 64 - 1)) % 2 ^ 64 ≤ m
falls_by_one m lt = omega arith

-- a slot that is held is given back
one_given : (n s taken i x : ℕ) (xs : List ℕ) (t : Entries) (old new : Standing)
    → IsTrying (x ∷ xs) n s taken i t old.known → 0 < taken → 2 ≤ x
    → Steps old (downed old.known.core x) new
    → (m : ℕ) → Copies old.known (counts_from old.known.core.sizes + x) m ((m + (2 ^ 64 - 1)) % 2 ^
    64) new.known → IsTrying xs n s taken i t new.known
one_given n s taken i x xs t old new tr some_taken two step m copies =
    let b = tr.between in
    let c = b.known.state b.words b.copy in
    let held : 0 < times x old.known.core.held = subst (λ (l : List ℕ). 0 < times x l) (sym b.holds)
    (omega (arith, times-same x x xs refl)) in
    let lt = below old.known x b.known two held in
    let above = held_counted old.known.core.sizes c.words c.homes c.views c.lawful c.id x
    old.known.core c.mine held in
    let found : get_or b.words (counts_from old.known.core.sizes + x) 0 ≡ m =
    copies.seen b.words b.copy in
    let counted : 0 < m = let e = counts_are old.known b.words c x lt in omega arith in
    let le = falls_by_one m counted in
    carries_tried (x ∷ xs) n s taken old.known b taken (λ e. e) xs new.known
    (set b.words (counts_from old.known.core.sizes + x) ((m + (2 ^ 64 - 1)) % 2 ^ 64))
    (copies.copy ∙ ap (λ (o : Option (List ℕ)). copied o (counts_from old.known.core.sizes + x)
    ((m + (2 ^ 64 - 1)) % 2 ^ 64)) b.copy)
    (count_wanes old.known.core.sizes taken b.words x ((m + (2 ^ 64 - 1)) % 2 ^ 64) some_taken lt
    (subst (λ (k : ℕ). (m + (2 ^ 64 - 1)) % 2 ^ 64 ≤ k) (sym found) le))
    (rests xs old.known new.known (downed old.known.core x) step.known.core refl
    (ap (without x) b.holds ∙ without_first x xs) refl refl refl step.known.known)
    i t tr.tried
  where
    without_first : (x : ℕ) (xs : List ℕ) → without x (x ∷ xs) ≡ xs
    without_first x xs = rw (eq-eqb x x refl) refl

-- so is a child that may be a constant, which takes no step
pub trying_given : (n s taken i x : ℕ) (xs : List ℕ) (t : Entries) (old new : Standing)
    → IsTrying (slots_of (x ∷ xs)) n s taken i t old.known →
    0 < taken → (x < 2 → new ≡ old) → (2 ≤ x → Steps old (downed old.known.core x) new)
    → (2 ≤ x → (m : ℕ) × Copies old.known (counts_from old.known.core.sizes + x) m
    ((m + (2 ^ 64 - 1)) % 2 ^ 64) new.known) → IsTrying (slots_of xs) n s taken i t new.known
trying_given n s taken i x xs t old new tr some_taken constant step copies = elim (two_cases x) [
  | inl q ↦
      subst (λ (st : Standing). IsTrying (slots_of xs) n s taken i t st.known) (sym (constant q.1))
      (subst (λ (b : Bool). IsTrying (if b then slots_of xs else x ∷ slots_of xs) n s taken i t
      old.known) q.0 tr)
  | inr q ↦
      one_given n s taken i x (slots_of xs) t old new
      (subst (λ (b : Bool). IsTrying (if b then slots_of xs else x ∷ slots_of xs) n s taken i t
      old.known) q.0 tr) some_taken q.1 (step q.1)
      (copies q.1).0 (copies q.1).1
]

-- an entry of the stripe h in hand is tried, the i-th one where it is one of those that are tried,
-- after those behind it
module _ (n s taken i j : ℕ) (t : Entries) (h k : ℕ) (u : Entries) (word x : ℕ) (old new : Standing)
    (tr : IsTrying [] n s taken j t old.known)
    (next : j ≤ i + 1) (home : MayHome old.known.core h u) (at : slice_get u k ≡ Some (word, x))
  where
    entry_is : IsCounted old.known.core.sizes tr.between.words x
        × (node_in old.known.core.sizes tr.between.words x ≡ word)
    entry_is =
        let b = tr.between in
        let c = b.known.state b.words b.copy in
        let e = entry_in_hand h k word x u old.known.core home at in
        let mine : IsTable c.homes c.views e.0.stripe e.0.entries =
        inr (c.id, old.known.core, e.0, c.mine, e.2, refl, refl) in
        let tab : 0 < tabled c.homes c.views x = let has = has_le e.0.entries e.1 (word, x) e.3 in
        omega (arith, table_tabled c.homes c.views e.0.stripe e.0.entries x mine) in
        let counted = tabled_counted old.known b.words c x tab in (
          counted,
          nodes_are old.known b.words c x counted.1
              ∙ (c.lawful.tables.entries e.0.stripe e.0.entries mine e.1 (word, x) e.3).0,
        )

    -- another owner has it: its variable is greater
    pub trying_lost : (count : ℕ) → ((e : ℕ × ℕ) → get_elem? t i ≡ some e → (word, x) ≡ e) → count ≢ 1
        → Steps old old.known.core new →
        Copies old.known (counts_from old.known.core.sizes + x) count (if eqb count 1 then 0 else
        count) new.known →
        IsTrying [] n s taken i t new.known
    trying_lost count is shared step copies =
        let b = tr.between in
        let load : Copies old.known (counts_from old.known.core.sizes + x) count count new.known =
        subst (λ (q : Bool). Copies old.known (counts_from old.known.core.sizes + x) count
        (if q then 0 else count) new.known) (ne_eqb count 1 shared) copies in
        let stays = read_stays old.known new.known (counts_from old.known.core.sizes + x) count
        b.words load b.copy in
        let other : count_in old.known.core.sizes b.words x ≢ 1 = λ one. shared (sym stays.1 ∙ one) in
        let later = shared_is_later n s taken old.known b x entry_is.0 other in
        let past : IsPast n taken word (count_in old.known.core.sizes b.words x) =
        (subst (λ (w : ℕ). n < variable_of w) entry_is.1 later, λ e. other) in
        carries_tried [] n s taken old.known b taken (λ e. e) [] new.known b.words stays.0
        (no_wane old.known.core.sizes taken b.words)
        (rests [] old.known new.known old.known.core step.known.core refl b.holds refl refl refl
        step.known.known)
        i t (λ m e le there counted. go is past m e le there counted (ℕ_discrete m i))
      where
        go : ((e : ℕ × ℕ) → get_elem? t i ≡ some e → (word, x) ≡ e)
            → IsPast n taken word (count_in old.known.core.sizes tr.between.words x) →
            (m : ℕ) (e : ℕ × ℕ) → i ≤ m → get_elem? t m ≡ some e
            → IsCounted old.known.core.sizes tr.between.words e.1 → Dec (m ≡ i)
            → IsPast n taken e.0 (count_in old.known.core.sizes tr.between.words e.1)
        go is past m e le there counted (no other) = tr.tried m e (omega arith) there counted
        go is past m e le there counted (yes same) =
            subst (λ (p : ℕ × ℕ). IsPast n taken p.0 (count_in old.known.core.sizes tr.between.words
            p.1)) (is e (ap (λ (q : ℕ). get_elem? t q) (sym same) ∙ there)) past

    -- only its table had it: it is taken back, and out of the map, and its children are held
    pub trying_won : (more low high count : ℕ) (d : ℕ × ℕ) → 0 < more → count ≡ 1 → low ≡ low_of word
        → high ≡ high_of word → Steps old (taken_back old.known.core x word) new
        → Copies old.known (counts_from old.known.core.sizes + x) count (if eqb count 1 then 0 else
        count) new.known → IsTrying (slots_of (low ∷ high ∷ [])) n s more i (swap_remove t i d)
        new.known
    trying_won more low high count d some_taken one a z step copies =
        let b = tr.between in
        let swap : Copies old.known (counts_from old.known.core.sizes + x) count 0 new.known =
        subst (λ (q : Bool). Copies old.known (counts_from old.known.core.sizes + x) count
        (if q then 0 else count) new.known) (eq-eqb count 1 one) copies in
        let held : old.known.core.held ++ slots_of (children word) ≡ slots_of (low ∷ high ∷ []) =
        (λ k. b.holds k ++ slots_of (sym a k ∷ sym z k ∷ [])) in
        carries_tried [] n s taken old.known b more (λ e. absurd (omega arith))
        (slots_of (low ∷ high ∷ [])) new.known (set b.words (counts_from old.known.core.sizes + x)
        0)
        (swap.copy ∙ ap (λ (o : Option (List ℕ)). copied o (counts_from old.known.core.sizes + x) 0)
        b.copy)
        (count_wanes old.known.core.sizes more b.words x 0 some_taken entry_is.0.1 (omega arith))
        (rests (slots_of (low ∷ high ∷ [])) old.known new.known (taken_back old.known.core x word)
        step.known.core refl held refl refl refl step.known.known)
        i (swap_remove t i d)
        (λ k e le there counted. let st = stood_behind t i k d e le there in
        tr.tried st.0 e (let far = st.1 in omega arith) st.2 counted)

-- the entry at a place is the one that was found there
pub entry_there : (t : Entries) (i word x : ℕ) → slice_get t i ≡ Some (word, x) → (e : ℕ × ℕ)
    → get_elem? t i ≡ some e → (word, x) ≡ e
entry_there t i word x at e there = some-injective (word, x) e (sym (elem_get t i (word, x) at)
    ∙ there)

-- a list without entries has none
pub none_there : (word x i : ℕ) (e : ℕ × ℕ) → get_elem? [] i ≡ some e → (word, x) ≡ e
none_there word x i e there = absurd (some-ne-none e (sym there))

-- a table at home is not in hand, and no other worker has one
module _ (k : Known) (ws : List ℕ) (c : IsCopy k ws) (h : Hand) (hand : k.core.hand ≡ Some h)
    (small : h.stripe < 16) where
  not_home : (t : Entries) → get_elem? c.homes h.stripe ≡ some (some t) → ⊥
  not_home t at =
      let one : has_stripe h.stripe k.core.hand ≡ 1 =
      ap (λ (o : Option Hand). has_stripe h.stripe o) hand
      ∙ ap {B = ℕ} (λ (q : Bool). cond q 1 0) (eq-eqb h.stripe h.stripe refl) in
      let le = at_le_sum (λ (v : View). has_stripe h.stripe v.hand) c.views c.id k.core c.mine in
      let there : home_there c.homes h.stripe ≡ 1 = rw at refl in
      omega (arith, c.lawful.tables.stripes h.stripe small)

  in_no_other : (id : ℕ) (v : View) (g : Hand) → get_elem? c.views id ≡ some v → v.hand ≡ Some g
      → g ≡ h
  in_no_other id v g at has = go (ℕ_discrete id c.id)
    where
      none_in : (u : View) → u.hand ≡ None → v ≡ u → ⊥
      none_in u nothing is = let e : Some g ≡ None = sym has ∙ (ap (λ (w : View). w.hand) is
          ∙ nothing) in cc

      go : Dec (id ≡ c.id) → g ≡ h
      go (yes e) =
          let is : k.core ≡ v = some-injective k.core v (sym c.mine
          ∙ (ap (λ (i : ℕ). get_elem? c.views i) (sym e) ∙ at)) in
          let same : Some g ≡ Some h = sym has ∙ (ap (λ (w : View). w.hand) (sym is) ∙ hand) in
          cc
      go (no n) = absurd (⊎_elim (none_in unused refl) (none_in spent refl)
          (c.lawful.seated.inactive id v at (c.alone id v n at)))

  -- so the table of the stripe in hand is the one in hand
  in_hand_is : (t : Entries) → IsTable c.homes c.views h.stripe t → t ≡ h.entries
  in_hand_is t (inl at) = absurd (not_home t at)
  in_hand_is t (inr p) = sym p.6 ∙ ap (λ (g : Hand). g.entries) (in_no_other p.0 p.1 p.2 p.3 p.4)

word_of : (nodes : List ℕ) (y x word found : ℕ) → get_or nodes y 0 ≡ word → y ≡ x
    → found ≡ get_or nodes x 0 → word ≡ found
word_of nodes y x word found is same at = sym is ∙ (ap (λ (i : ℕ). get_or nodes i 0) same ∙ sym at)

moved : (t : Entries) (j : ℕ) (e f : ℕ × ℕ) → get_elem? t j ≡ some e → e.0 ≡ f.0 → e.1 ≡ f.1
    → get_elem? t j ≡ some f
moved t j e f at p q = at ∙ (λ i. some (p i, q i))

-- each slot of the stripe in hand that is counted is an entry of the map
in_map : (n s taken : ℕ) (t : Entries) (k : Known) (b : IsBetween [] n s taken k)
    → MayHome k.core s t → (x : ℕ) → IsCounted k.core.sizes b.words x
    → stripe_of (node_in k.core.sizes b.words x) ≡ s
    → (j : ℕ) × (get_elem? t j ≡ some (node_in k.core.sizes b.words x, x))
in_map n s taken t k b home x counted is =
    let c = b.known.state b.words b.copy in
    let h = home.0 in
    let same = home.2.2 in
    let node = nodes_are k b.words c x counted.1 in
    let place = tabled_where c.homes c.views x (is_tabled n s taken k b x counted) in
    let e = entry_of x place.1 place.3 in
    let law = c.lawful.tables.entries place.0 place.1 place.2 e.0 e.1 e.2 in
    let word : e.1.0 ≡ node_in k.core.sizes b.words x = word_of c.words.nodes e.1.1 x e.1.0
    (node_in k.core.sizes b.words x) law.0 e.3 node in
    let stripe : place.0 ≡ h.stripe = sym law.1 ∙ (ap stripe_of word ∙ (is ∙ sym home.1)) in
    let table : place.1 ≡ h.entries = in_hand_is k b.words c h home.2.1 (b.known.hand h home.2.1)
    place.1 (subst (λ (i : ℕ). IsTable c.homes c.views i place.1) stripe place.2) in
    let at : get_elem? h.entries e.0 ≡ some e.1 = ap (λ (l : Entries). get_elem? l e.0) (sym table)
    ∙ e.2 in
    let there = in_both h.entries t e.0 e.1 (λ f. sym (same f)) at in
    (there.0, moved t there.0 e.1 (node_in k.core.sizes b.words x, x) there.1 word e.3)

-- all entries were tried, and the stripe goes home: it is done
pub stripe_ends : (n s taken : ℕ) (t : Entries) (old new : Standing)
    → IsTrying [] n s taken 0 t old.known → MayHome old.known.core s t
    → Steps old (unlocked old.known.core) new
    → new.known.copy ≡ copied old.known.copy (locks_from old.known.core.sizes + 8 * s) 0
    → IsBetween [] n (s + 1) taken new.known
stripe_ends n s taken t old new tr home step copy =
    carries [] n (s + 1) taken old.known after taken (λ e. e) [] new.known
    (set tr.between.words (locks_from old.known.core.sizes + 8 * s) 0)
    (copy ∙ ap (λ (o : Option (List ℕ)). copied o (locks_from old.known.core.sizes + 8 * s) 0)
    tr.between.copy)
    (lock_wanes old.known.core.sizes taken tr.between.words (8 * s) 0)
    (rests [] old.known new.known (unlocked old.known.core) step.known.core refl tr.between.holds
    refl refl refl step.known.known)
  where
    done : (x : ℕ) → IsCounted old.known.core.sizes tr.between.words x
        → stripe_of (node_in old.known.core.sizes tr.between.words x) < s + 1 →
        Dec (stripe_of (node_in old.known.core.sizes tr.between.words x) ≡ s)
        → IsPast n taken (node_in old.known.core.sizes tr.between.words x)
        (count_in old.known.core.sizes tr.between.words x)
    done x counted lt (no other) = tr.between.done x counted (omega arith)
    done x counted lt (yes is) =
        let there = in_map n s taken t old.known tr.between home x counted is in
        tr.tried there.0 (node_in old.known.core.sizes tr.between.words x, x) (omega arith) there.1
        counted

    after : IsBetween [] n (s + 1) taken old.known
    after = record {
      words = tr.between.words;
      copy = tr.between.copy;
      holds = tr.between.holds;
      retired = tr.between.retired;
      ready = tr.between.ready;
      draft = tr.between.draft;
      blank = tr.between.blank;
      from = tr.between.from;
      done = λ x counted lt. done x counted lt
          (ℕ_discrete (stripe_of (node_in old.known.core.sizes tr.between.words x)) s);
      known = tr.between.known;
    }

no_length : (xs : List ℕ) → length xs ≡ 0 → xs ≡ []
no_length [] e = refl
no_length (x ∷ xs) e = absurd (omega arith)

-- where the first phase alone is set, the others are quiet as before
silent_set : (ps : List Phase) (q : Phase) → ((k : ℕ) (p : Phase) → 0 < k → get_elem? ps k ≡ some p
    → IsQuiet p) → (k : ℕ) (p : Phase) → 0 < k → get_elem? (set ps 0 q) k ≡ some p → IsQuiet p
silent_set [] q others k p lt e = others k p lt e
silent_set (o ∷ ps) q others zero p lt e = absurd (omega arith)
silent_set (o ∷ ps) q others (suc k) p lt e = others (suc k) p lt e

-- the cells are cleared, and nothing is retired after a scan: the first turn may begin
pub first_turn : (old cleared swept : Standing) → MayEmpty old.known → MayBegin old.known.core
    → IsAsBefore old cleared →
    AreEmpty old.known.core.sizes.cells old.known cleared.known → IsScanned cleared swept
    → IsFrom 0 swept.known
first_turn old cleared swept may rest before empty scan =
    let t = empty may.words may.copy in
    let u = scan.copy t.0 t.1 in
    let sizes : swept.known.core.sizes ≡ old.known.core.sizes = ap (λ (v : View). v.sizes) scan.core
    ∙ ap (λ (v : View). v.sizes) before.core in
    let first : length cleared.known.core.held ≡ 0 = ap (λ (v : View). length v.held) before.core
    ∙ (before.lengths ∙ ap length may.holds) in
    let quiet : IsSilent cleared.known.core = subst (λ (v : View). IsSilent v) (sym before.core)
    (silent_set old.known.core.phases before.phase may.silent) in
    let blank : AreBlank old.known.core.sizes u.0 =
    λ c lt. subst (λ (z : Sizes). get_or u.0 (cells_from z + c) 0 ≡ get_or t.0 (cells_from z
    + c) 0) (ap (λ (v : View). v.sizes) before.core) (u.2 c)
    ∙ go t.0 t.2 t.3 c lt (dec_le old.known.core.sizes.cells c) in
    record {
      words = u.0;
      copy = u.1;
      holds = ap (λ (v : View). v.held) scan.core ∙ no_length scan.held (scan.lengths ∙ first);
      retired = ap (λ (v : View). v.retired) scan.core ∙ scan.alone quiet t.0 t.1;
      ready = ap (λ (v : View). v.position) scan.core;
      draft = ap (λ (v : View). v.draft) scan.core ∙ (ap (λ (v : View). v.draft) before.core
          ∙ rest.no_draft);
      blank = subst (λ (z : Sizes). AreBlank z u.0) (sym sizes) blank;
      from = λ x counted. omega arith;
      done = λ x counted lt. absurd (omega arith);
      known = scan.known;
    }
  where
    go : (left : List ℕ) → ((c : ℕ) → c < old.known.core.sizes.cells
        → get_or left (cells_from old.known.core.sizes + c) 0 ≡ 0)
        → ((c : ℕ) → old.known.core.sizes.cells ≤ c → get_or left (cells_from old.known.core.sizes
        + c) 0 ≡ get_or may.words (cells_from old.known.core.sizes + c) 0)
        → (c : ℕ) → c < old.known.core.sizes.cells + 16 * old.known.core.sizes.workers
        → Dec (old.known.core.sizes.cells ≤ c) → get_or left (cells_from old.known.core.sizes + c)
        0 ≡ 0
    go left cells behind c lt (no n) = cells c (omega arith)
    go left cells behind c lt (yes le) =
        let place : boxes_from old.known.core.sizes + (c - old.known.core.sizes.cells)
        ≡ cells_from old.known.core.sizes + c = omega arith in
        behind c le ∙ (ap (λ (i : ℕ). get_or may.words i 0) (sym place)
        ∙ may.boxes (c - old.known.core.sizes.cells) (omega arith))

zero_one : (n : ℕ) → n ≡ 0 → (if◌then◌else◌ {A = ℕ} (ltb 0 n) 1 0) ≡ 0
zero_one n e = rw (le-ltb 0 n (omega arith)) refl

zero_above : (counts : List ℕ) (n : ℕ) → ((x : ℕ) → 2 ≤ x → x < n + 2 → get_or counts x 0 ≡ 0)
    → above_zero counts 2 n ≡ 0
zero_above counts zero zeros = refl
zero_above counts (suc n) zeros =
    omega (
      arith,
      zero_one (get_or counts (2 + n) 0) (zeros (2 + n) (omega arith) (omega arith)),
      zero_above counts n (λ x two lt. zeros x two (omega arith)),
    )

-- where no slot has a count, none is told at the end
pub tells_none : (counted : ℕ) (ws : List ℕ) (k : Known) → HasNoCounts k → k.copy ≡ Some ws
    → IsTallied counted k → counted ≡ 0
tells_none counted ws k free has t =
    let some_names = t.state.lawful.sized.some_names in
    t.exact
    ∙ zero_above t.state.words.counts (k.core.sizes.names - 2)
    (λ x two lt. sym (counts_are k t.words t.state x (omega arith))
    ∙ (ap (λ (l : List ℕ). count_in k.core.sizes l x) (t.same ws has)
    ∙ free ws has x two (omega arith)))
