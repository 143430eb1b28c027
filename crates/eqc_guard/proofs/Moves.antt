-- Each step of the first pass is allowed by the rule, whatever the table is when its word changes.
use Rattle.std.proofs.Common.{◌≡◌, ◌≢◌, ◌⊎◌, ℕ, suc, ◌+◌, ◌-◌, ◌*◌, ◌/◌, ◌%◌, ◌^◌, ◌<◌, ◌≤◌, List}
use Rattle.std.proofs.Common.{[], ◌∷◌, length, set, get_or, ltb, Bool, true, false, if◌then◌else◌}
use Rattle.std.proofs.Common.{eq-eqb, refl, sym, ap, subst, ◌∙◌, arith, inl, inr, ⊎_elim}
use Rattle.std.proofs.Common.{length-append}
use Rattle.std.specs.HashMap.{HashMap}
use Rattle.std.proofs.Math.Nat.{mod-eq_of_lt}
use Rattle.std.proofs.lemmas.List.{set-get_or}
use mathlib.Core.Option.{some}
use native.Mathlib.Decide.{dec_le}
use lib.ListN.{get_elem?}
use Rattle.atomic_table.specs.Table.{Me, Allows, keeps}
use Rattle.eqc_core.specs.declared.sizes.Sizes.{Sizes}
use Rattle.eqc_core.specs.declared.phase.Phase.{Phase}
use Rattle.eqc_core.specs.declared.phase.Phase.TheVariants.{Idle, Seen, Announced, Confirmed}
use Rattle.eqc_core.specs.declared.phase.Phase.TheVariants.{Missed}
use Rattle.eqc_core.specs.View.{View, phase_at}
use Rattle.eqc_core.specs.Words.{Words, announced_words, word_at, times, cell_names, operands}
use Rattle.eqc_core.specs.Words.{slots_of, variable_of, low_of, high_of, first_of, second_of}
use Rattle.eqc_core.specs.Words.{result_of}
use Rattle.eqc_core.specs.Tables.{Homes}
use Rattle.eqc_core.specs.Trees.{IsFilled, IsRight, IsTree}
use Rattle.eqc_core.specs.Lawful.{IsNamed, Fits, Lawful}
use Rattle.eqc_core.specs.Moves.{with_announced, with_count, with_cell, without_each}
use Rattle.eqc_core.specs.Announcing.{MayLook, looked, MayAnnounce, announced, announced_cell}
use Rattle.eqc_core.specs.Announcing.{IsAnnounced, MayRecheck, rechecked, rechecked_phase}
use Rattle.eqc_core.specs.Counting.{MayUp, upped, MayDown, downed}
use Rattle.eqc_core.specs.Caching.{swapped}
use Rattle.eqc_core.specs.Scanning.{MayScan, scan_on, scan_end, scanned}
use Rattle.eqc_core.proofs.Lists.{at_below, get_at, set_here}
use Rattle.eqc_core.proofs.Names.{times-append, times-same, names_first, names_second, names_result}
use Rattle.eqc_core.proofs.Names.{length-without_each, length-slots_of}
use Rattle.eqc_core.proofs.Trees.{is_tree_one}
use Rattle.eqc_core.proofs.Places.{below}
use Rattle.eqc_core.proofs.Known.{are_tabled, held_counted}
use Rattle.eqc_core.proofs.Bounds.{scans_keep_names}
use Rattle.eqc_core.proofs.Wraps.{count_fits}
use Rattle.eqc_core.proofs.Announcing.{phase_there, look_keeps, announce_keeps, recheck_keeps}
use Rattle.eqc_core.proofs.Counting.{up_keeps, down_keeps}
use Rattle.eqc_core.proofs.Caching.{swap_keeps}
use Rattle.eqc_core.proofs.Scanning.{scan_keeps}
use Rattle.eqc_guard.specs.Known.{flat, Known, Knows, IsHeld, tree_of}
use Rattle.eqc_guard.specs.Telling.{Takes, Told, Counts, Stored, Nothing, IsResult, IsRightHere}
use Rattle.eqc_guard.specs.Telling.{Looks, Rechecks, Shown, MayFill}
use Rattle.eqc_guard.specs.Making.{node_tree, IsEntry, Ups}
use Rattle.eqc_guard.specs.Rule.{counts_from, Held, homes_of, cells_from}
use Rattle.eqc_guard.proofs.Laid.{set_announced, get_announced, set_count, get_count, set_cell}
use Rattle.eqc_guard.proofs.Laid.{get_cell}
use Rattle.eqc_guard.proofs.Learning.{confirmed_named, held_named, held_tree, known_right}
use Rattle.eqc_guard.proofs.Learning.{filled_result}
use Rattle.eqc_guard.proofs.Stepping.{allows}

-- one count less, as the word has it
minus_one : (n : ℕ) → 0 < n → n < 2 ^ 64 → (n + (2 ^ 64 - 1)) % 2 ^ 64 ≡ n - 1
minus_one n pos small = omega arith

-- an announced phase has a cell and a word
announced_as : (p : Phase) → IsAnnounced p → (word : ℕ) × (p ≡ Announced (announced_cell p) word)
announced_as Idle a = absurd a
announced_as (Seen c word) a = absurd a
announced_as (Announced c word) a = (word, refl)
announced_as (Confirmed x) a = absurd a
announced_as (Missed x) a = absurd a

-- a scan leaves the worker active
scans_on : (v : View) (n : ℕ) → (scanned v n).active ≡ v.active
scans_on v n = go (ltb (v.position + 1) (announced_words v.sizes))
  where
    go : (b : Bool) → (if b then scan_on v n else scan_end v n).active ≡ v.active
    go true = refl
    go false = refl

-- a worker's announcement words are among the announcement words
pub own_word_there : (z : Sizes) (v : View) (k : ℕ) → v.sizes ≡ z → v.number < z.workers
    → k < v.sizes.announcements → word_at v.sizes v.number k < announced_words z
own_word_there z v k is lt word = subst (λ (y : Sizes). word_at y v.number k < announced_words z)
    (sym is) (below z v.number k lt (subst (λ (y : Sizes). k < y.announcements) is word))

-- they stand one after the other
pub word_after : (z : Sizes) (number k : ℕ) → k ≡ (2 * word_at z number k - 2 * word_at z number 0)
    / 2
unfolding word_at
word_after z number k = omega arith

-- an empty word has no result
no_result : (word : ℕ) → 2 ≤ result_of word → word ≡ 0 → ⊥
unfolding result_of
no_result word two e = omega arith

module _ {S : Type 0} (z : Sizes) (slots id i : ℕ) (me : Me (HashMap ℕ ℕ S) Known)
    (on : me.0.core.active ≡ true) where
  -- a step that moves no table and writes no node, from what it owes
  pub plain : (more f : ℕ → ℕ) (u : ℕ → View) (tells : ℕ → Known → Type 0)
      → ((n : ℕ) → (u n).active ≡ true)
      → ((w : Words) (hs : Homes) (vs : List View) → Lawful z w hs vs
      → get_elem? vs id ≡ some me.0.core → Knows w.nodes me.0 → get_or (flat w) i 0 < 2 ^ 64
      → (w' : Words) × (set (flat w) i (f (get_or (flat w) i 0)) ≡ flat w') × (w'.nodes ≡ w.nodes)
      × Lawful z w' hs (set vs id (u (get_or (flat w) i 0)))
      × ((k : Known) → k.core ≡ u (get_or (flat w) i 0) → Knows w.nodes k
      → tells (get_or (flat w) i 0) k))
      → Allows (Held {S = S} z) slots id me i f (λ n after. Takes more me i n (f n) (u n) after
      (tells n))
  plain more f u tells live owes = allows z slots id i me on more f (λ n after. Takes more me i n
      (f n) (u n) after (tells n)) (λ w homes vs law at knows small.
      let o = owes w (homes_of homes) vs law at knows small in (
        u (get_or (flat w) i 0),
        keeps,
        o.0,
        record {
          valid = tt;
          live = live (get_or (flat w) i 0);
          laid = o.1;
          trees = λ t x named is. subst (λ (nodes : List ℕ). IsTree nodes t x) (sym o.2) is;
          lawful = o.3;
        },
        λ k stepped copies known counted. (
          stepped,
          refl,
          copies,
          o.4 k stepped.core (subst (λ (nodes : List ℕ). Knows nodes k) o.2 known),
          counted,
        ),
      ))

  -- a load
  pub load : (u : ℕ → View) (tells : ℕ → Known → Type 0) → ((n : ℕ) → (u n).active ≡ true)
      → ((w : Words) (hs : Homes) (vs : List View) → Lawful z w hs vs
      → get_elem? vs id ≡ some me.0.core → Knows w.nodes me.0
      → Lawful z w hs (set vs id (u (get_or (flat w) i 0)))
      × ((k : Known) → k.core ≡ u (get_or (flat w) i 0) → Knows w.nodes k
      → tells (get_or (flat w) i 0) k))
      → Allows (Held {S = S} z) slots id me i (λ n. n) (λ n after. Told me i n n (u n) after
      (tells n))
  load u tells live owes = plain (λ steps. steps) (λ n. n) u tells live (λ w hs vs law at knows
      small. let o = owes w hs vs law at knows in (w, set-get_or (flat w) i 0, refl, o.0, o.1))

  -- a store, which does not tell what it found
  pub store : (x : ℕ) (v : View) → v.active ≡ true
      → ((w : Words) (hs : Homes) (vs : List View) → Lawful z w hs vs
      → get_elem? vs id ≡ some me.0.core →
      (w' : Words) × (set (flat w) i x ≡ flat w') × (w'.nodes ≡ w.nodes)
      × Lawful z w' hs (set vs id v))
      → Allows (Held {S = S} z) slots id me i (λ _. x) (λ _ after. Stored me i x v after)
  store x v live owes s h homes seat small =
      let r = plain (λ steps. steps) (λ _. x) (λ _. v) Nothing (λ _. live) (λ w hs vs law at knows
      small. let o = owes w hs vs law at in (o.0, o.1, o.2, o.3, λ k e known. tt)) s h homes
      seat small in
      let t = r.4 in
      (r.0, r.1, r.2, r.3, (t.0, t.1, t.2.copy, t.4))

  module _ (w : Words) (hs : Homes) (vs : List View) (law : Lawful z w hs vs) (at : get_elem? vs id
      ≡ some me.0.core) where
    pub fits : Fits z w vs id me.0.core
    fits = law.views id me.0.core at on

    pub size : me.0.core.sizes ≡ z
    size = fits.sizes

    -- the count word that the worker steps on
    pub count_here : (x : ℕ) → i ≡ counts_from me.0.core.sizes + x → x < me.0.core.sizes.names
        → (i ≡ counts_from z + x) × (x < z.names)
    count_here x is lt = (
      is ∙ ap (λ (y : Sizes). counts_from y + x) size,
      subst (λ (y : Sizes). x
          < y.names) size lt,
    )

    cell_here : (c : ℕ) → i ≡ cells_from me.0.core.sizes + c → c < me.0.core.sizes.cells
        → (i ≡ cells_from z + c) × (c < z.cells) × (get_or (flat w) i 0 ≡ get_or w.cells c 0)
    cell_here c is lt =
        let here : i ≡ cells_from z + c = is ∙ ap (λ (y : Sizes). cells_from y + c) size in
        let there : c < z.cells = subst (λ (y : Sizes). c < y.cells) size lt in (
          here,
          there,
          ap (λ (k : ℕ). get_or (flat w) k 0) here
              ∙ get_cell z w hs vs law.sized c there,
        )

    cell_at : (c : ℕ) → c < z.cells → get_elem? w.cells c ≡ some (get_or w.cells c 0)
    cell_at c lt = get_at w.cells c 0 (let n = law.sized.cells in omega arith)

    -- a word that a cell has is right
    cell_right : (c : ℕ) → c < z.cells → get_or w.cells c 0 ≢ 0
        → IsFilled w.nodes (get_or w.cells c 0)
    cell_right c lt nz = ⊎_elim (λ (e : get_or w.cells c 0 ≡ 0). absurd (nz e))
        (λ (f : IsFilled w.nodes (get_or w.cells c 0)). f) (law.right.cells c (get_or w.cells c 0)
        (cell_at c lt))

    result_below : (c : ℕ) → c < z.cells → result_of (get_or w.cells c 0) < z.names
    result_below c lt = go (dec_le 2 (result_of (get_or w.cells c 0)))
      where
        go : Dec (2 ≤ result_of (get_or w.cells c 0)) → result_of (get_or w.cells c 0) < z.names
        go (yes two) =
            (law.tables.named (result_of (get_or w.cells c 0))
            ((are_tabled z w hs vs law).cells c (result_of (get_or w.cells c 0))
            (get_or w.cells c 0) (cell_at c lt) two (names_result (get_or w.cells c 0)))).1
        go (no n) = let two = law.sized.some_names in omega arith

    -- what a look finds is as `Shown` says
    shown : (c : ℕ) → c < z.cells → Knows w.nodes me.0 → get_or w.cells c 0 ≢ 0
        → Shown me.0 (get_or w.cells c 0)
    shown c lt knows nz = record {
      below = subst (λ (y : Sizes). result_of (get_or w.cells c 0) < y.names) (sym size)
          (result_below c lt);
      constant = λ small.
          filled_result w.nodes me.0 (get_or w.cells c 0)
          (tree_of me.0 (result_of (get_or w.cells c 0))) knows (cell_right c lt nz)
          (held_tree w.nodes me.0 (result_of (get_or w.cells c 0)) knows (inl small));
    }

    -- the slot of an entry in hand that is counted up has the tree of its word
    entry_tree : Knows w.nodes me.0 → (x word : ℕ) → 2 ≤ x → IsEntry me.0.core word x
        → IsHeld me.0.core (low_of word) →
        IsHeld me.0.core (high_of word) → (k : Known) → k.core ≡ upped me.0.core x → Knows w.nodes k
        → tree_of k x ≡ node_tree me.0 word
    entry_tree knows x word two entry low high k e known =
        let g = law.tables.entries entry.0.stripe entry.0.entries (inr (
          id,
          me.0.core,
          entry.0,
          at,
          entry.2,
          refl,
          refl,
        )) entry.1 (word, x) entry.3 in
        let held : 0 < times x k.core.held = subst (λ (v : View). 0 < times x v.held) (sym e)
        (omega (arith, times-append x me.0.core.held (x ∷ []), times-same x x [] refl)) in
        is_tree_one w.nodes (tree_of k x) (node_tree me.0 word) x
        (known x two (held_named k.core x held)) (
          two,
          ap variable_of g.0,
          subst (λ (n : ℕ). IsTree w.nodes (tree_of me.0 (low_of word)) (low_of n)) (sym g.0)
              (held_tree w.nodes me.0 (low_of word) knows low),
          subst (λ (n : ℕ). IsTree w.nodes (tree_of me.0 (high_of word)) (high_of n)) (sym g.0)
              (held_tree w.nodes me.0 (high_of word) knows high),
        )

    scan_room : length me.0.core.held ≤ 2 ^ 39 → (name : ℕ) → length (scanned me.0.core name).held
        ≤ 2 ^ 40
    scan_room room name = let k = (scans_keep_names me.0.core name).lengths in let few = fits.few in
        let most = law.sized.few_announced in omega arith

    swap_room : length me.0.core.held ≤ 2 ^ 39 → (old word : ℕ)
        → length (swapped me.0.core old word).held ≤ 2 ^ 40
    swap_room room old word =
        omega (
          arith,
          length-append (without_each (slots_of (cell_names word)) me.0.core.held)
              (slots_of (operands old)),
          length-without_each (slots_of (cell_names word)) me.0.core.held,
          length-slots_of (operands old),
        )

  pub up_allows : (x : ℕ) → i ≡ counts_from me.0.core.sizes + x → MayUp me.0.core x
      → Allows (Held {S = S} z) slots id me i (λ n. (n + 1) % 2 ^ 64)
      (λ n after. Counts me i n ((n + 1) % 2 ^ 64)
      (upped me.0.core (i - counts_from me.0.core.sizes)) after
      (Ups me.0 (i - counts_from me.0.core.sizes)))
  up_allows x is may =
      plain suc (λ n. (n + 1) % 2 ^ 64) (λ n. upped me.0.core (i - counts_from me.0.core.sizes))
      (λ n. Ups me.0 (i - counts_from me.0.core.sizes)) (λ n. on) (λ w hs vs law at knows small.
      let h = count_here w hs vs law at x is may.2 in
      let back : x ≡ i - counts_from me.0.core.sizes = omega arith in
      let found : get_or (flat w) i 0 ≡ get_or w.counts x 0 = ap (λ (k : ℕ). get_or (flat w) k 0)
      h.0 ∙ get_count z w hs vs law.sized x h.1 in
      let next : (get_or (flat w) i 0 + 1) % 2 ^ 64 ≡ get_or w.counts x 0 + 1 =
      ap (λ (n : ℕ). (n + 1) % 2 ^ 64) found
      ∙ mod-eq_of_lt (count_fits z w hs vs x law may.1 h.1) in
      let room : length (upped me.0.core x).held ≤ 2 ^ 40 = let few = may.3 in
      omega (arith, length-append me.0.core.held (x ∷ [])) in (
        with_count w x (get_or w.counts x 0 + 1),
        ap (λ (n : ℕ). set (flat w) i n) next
            ∙ (ap (λ (k : ℕ). set (flat w) k (get_or w.counts x 0 + 1)) h.0
            ∙ set_count z w hs vs law.sized x (get_or w.counts x 0 + 1) h.1),
        refl,
        subst (λ (k : ℕ). Lawful z (with_count w x (get_or w.counts x 0 + 1)) hs
            (set vs id (upped me.0.core k))) back (up_keeps z w hs vs id me.0.core law at on x may
            room),
        λ k e known word entry low high. entry_tree w hs vs law at knows
            (i - counts_from me.0.core.sizes) word (let two = may.1 in omega arith) entry low high k
            e known,
      ))

  pub down_allows : (x : ℕ) → i ≡ counts_from me.0.core.sizes + x → MayDown me.0.core x
      → Allows (Held {S = S} z) slots id me i (λ n. (n + (2 ^ 64 - 1)) % 2 ^ 64)
      (λ n after. Counts me i n ((n + (2 ^ 64 - 1)) % 2 ^ 64)
      (downed me.0.core (i - counts_from me.0.core.sizes)) after (Nothing n))
  down_allows x is may = plain suc (λ n. (n + (2 ^ 64 - 1)) % 2 ^ 64) (λ n. downed me.0.core
      (i - counts_from me.0.core.sizes)) Nothing (λ n. on) (λ w hs vs law at knows small.
      let h = count_here w hs vs law at x is may.2 in
      let back : x ≡ i - counts_from me.0.core.sizes = omega arith in
      let found : get_or (flat w) i 0 ≡ get_or w.counts x 0 = ap (λ (k : ℕ). get_or (flat w) k 0)
      h.0 ∙ get_count z w hs vs law.sized x h.1 in
      let some_counts = held_counted z w hs vs law id x me.0.core at may.3 in
      let next : (get_or (flat w) i 0 + (2 ^ 64 - 1)) % 2 ^ 64 ≡ get_or w.counts x 0 - 1 =
      ap (λ (n : ℕ). (n + (2 ^ 64 - 1)) % 2 ^ 64) found
      ∙ minus_one (get_or w.counts x 0) some_counts (let fit = count_fits z w hs vs x law may.1 h.1
      in omega arith) in (
        with_count w x (get_or w.counts x 0 - 1),
        ap (λ (n : ℕ). set (flat w) i n) next
            ∙ (ap (λ (k : ℕ). set (flat w) k (get_or w.counts x 0 - 1)) h.0
            ∙ set_count z w hs vs law.sized x (get_or w.counts x 0 - 1) h.1),
        refl,
        subst (λ (k : ℕ). Lawful z (with_count w x (get_or w.counts x 0 - 1)) hs
            (set vs id (downed me.0.core k))) back (down_keeps z w hs vs id me.0.core law at on x
            may),
        λ k e known. tt,
      ))

  pub look_allows : (j c : ℕ) → i ≡ cells_from me.0.core.sizes + c → MayLook me.0.core j c
      → Allows (Held {S = S} z) slots id me i (λ n. n) (λ n after. Told me i n n
      (looked me.0.core j (i - cells_from me.0.core.sizes) n) after (Looks me.0 n))
  look_allows j c is may = load (λ n. looked me.0.core j (i - cells_from me.0.core.sizes) n)
      (Looks me.0) (λ n. on) (λ w hs vs law at knows.
      let h = cell_here w hs vs law at c is may.2 in
      let back : c ≡ i - cells_from me.0.core.sizes = omega arith in (
        subst (λ (q : ℕ × ℕ). Lawful z w hs (set vs id (looked me.0.core j q.0 q.1)))
            (λ r. (back r, sym h.2 r)) (look_keeps z w hs vs id me.0.core law at on j c may),
        λ k e known nz. subst (λ (n : ℕ). Shown me.0 n) (sym h.2) (shown w hs vs law at c h.1 knows
            (λ q. nz (h.2 ∙ q))),
      ))

  pub recheck_allows : (j c word : ℕ) → i ≡ cells_from me.0.core.sizes + c
      → c < me.0.core.sizes.cells → phase_at me.0.core j ≡ Announced c word → MayRecheck me.0.core j
      → Allows (Held {S = S} z) slots id me i (λ n. n) (λ n after. Told me i n n
      (rechecked me.0.core j n) after (Rechecks me.0 j n))
  recheck_allows j c word is lt phase may = load (λ n. rechecked me.0.core j n) (Rechecks me.0 j)
      (λ n. on) (λ w hs vs law at knows.
      let h = cell_here w hs vs law at c is lt in
      let cell : announced_cell (phase_at me.0.core j) ≡ c = ap announced_cell phase in
      let found : get_or w.cells (announced_cell (phase_at me.0.core j)) 0 ≡ get_or (flat w) i 0 =
      ap (λ (k : ℕ). get_or w.cells k 0) cell ∙ sym h.2 in
      let mine : j < z.announcements = subst (λ (y : Sizes). j < y.announcements)
      (size w hs vs law at) may.1 in
      let phase_is = phase_there z w hs vs id me.0.core law at on j mine in
      let two : 2 ≤ result_of word = (let P : Phase → Type 0 = λ p. IsNamed z p in
      subst P phase ((fits w hs vs law at).named j (phase_at me.0.core j) phase_is)).2 in (
        subst (λ (n : ℕ). Lawful z w hs (set vs id (rechecked me.0.core j n))) found
            (recheck_keeps z w hs vs id me.0.core law at on j may),
        λ k e known c' word' phase' hit.
            let same : word ≡ word' = let q : Announced c word ≡ Announced c' word' = sym phase
            ∙ phase' in cc in
            let here : get_or w.cells c 0 ≡ word = sym h.2 ∙ (hit ∙ sym same) in
            let nz : word ≢ 0 = λ q. no_result word two q in
            let f : IsFilled w.nodes word = subst (λ (m : ℕ). IsFilled w.nodes m) here
            (cell_right w hs vs law at c h.1 (λ q. nz (sym here ∙ q))) in
            let p : rechecked_phase (phase_at me.0.core j) (get_or (flat w) i 0)
            ≡ Confirmed (result_of word) =
            ap (λ (p : Phase). rechecked_phase p (get_or (flat w) i 0)) phase
            ∙ rw (eq-eqb (get_or (flat w) i 0) word (hit ∙ sym same)) refl in
            let there : get_elem? k.core.phases j ≡ some (Confirmed (result_of word)) =
            ap (λ (v : View). get_elem? v.phases j) e
            ∙ (set_here me.0.core.phases j (rechecked_phase (phase_at me.0.core j)
            (get_or (flat w) i 0)) (let n = (fits w hs vs law at).phases in omega arith)
            ∙ ap some p) in
            subst (λ (m : ℕ). IsResult me.0 m (tree_of k (result_of m))) same
            (filled_result w.nodes me.0 word (tree_of k (result_of word)) knows f
            (known (result_of word) two (confirmed_named k.core j (result_of word) there))),
      ))

  -- the same, by the cell that the phase has
  pub again_allows : (j c : ℕ) → i ≡ cells_from me.0.core.sizes + c
      → c ≡ announced_cell (phase_at me.0.core j) → c < me.0.core.sizes.cells
      → MayRecheck me.0.core j
      → Allows (Held {S = S} z) slots id me i (λ n. n) (λ n after. Told me i n n
      (rechecked me.0.core j n) after (Rechecks me.0 j n))
  again_allows j c is cell lt may = let a = announced_as (phase_at me.0.core j) may.2 in
      recheck_allows j c a.0 is lt (a.1 ∙ ap (λ (k : ℕ). Announced k a.0) (sym cell)) may

  pub announce_allows : (j x : ℕ) → i ≡ 2 * word_at me.0.core.sizes me.0.core.number j
      → MayAnnounce me.0.core j x →
      Allows (Held {S = S} z) slots id me i (λ _. x) (λ _ after. Stored me i x
      (announced me.0.core ((i - 2 * word_at me.0.core.sizes me.0.core.number 0) / 2)) after)
  announce_allows j x is may =
      store x (announced me.0.core ((i - 2 * word_at me.0.core.sizes me.0.core.number 0) / 2)) on
      (λ w hs vs law at.
      let f = fits w hs vs law at in
      let back : j ≡ (i - 2 * word_at me.0.core.sizes me.0.core.number 0) / 2 =
      word_after me.0.core.sizes me.0.core.number j
      ∙ ap (λ (n : ℕ). (n - 2 * word_at me.0.core.sizes me.0.core.number 0) / 2) (sym is) in
      let here : i ≡ 2 * word_at z id j = is
      ∙ (ap (λ (y : Sizes). 2 * word_at y me.0.core.number j) f.sizes
      ∙ ap (λ (n : ℕ). 2 * word_at z n j) f.number) in
      let views = law.sized.views in
      let b = at_below vs id me.0.core at in
      let lt : word_at z id j < announced_words z =
      below z id j (omega arith) (subst (λ (y : Sizes). j < y.announcements) f.sizes may.1) in (
        with_announced w (word_at z id j) x,
        ap (λ (k : ℕ). set (flat w) k x) here
            ∙ set_announced z w hs vs law.sized (word_at z id j) x lt,
        refl,
        subst (λ (n : ℕ). Lawful z (with_announced w (word_at z id j) x) hs
            (set vs id (announced me.0.core n))) back
            (announce_keeps z w hs vs id me.0.core law at on j x may),
      ))

  pub scan_allows : i ≡ 2 * me.0.core.position → MayScan me.0.core → length me.0.core.held ≤ 2 ^ 39
      → Allows (Held {S = S} z) slots id me i (λ n. n) (λ n after. Told me i n n
      (scanned me.0.core n) after (Nothing n))
  scan_allows is may room = load (λ n. scanned me.0.core n) Nothing (λ n. scans_on me.0.core n
      ∙ on) (λ w hs vs law at knows.
      let lt = (fits w hs vs law at).place in
      let found : get_or w.announced me.0.core.position 0 ≡ get_or (flat w) i 0 =
      sym (ap (λ (k : ℕ). get_or (flat w) k 0) is
      ∙ get_announced z w hs vs law.sized me.0.core.position lt) in (
        subst (λ (n : ℕ). Lawful z w hs (set vs id (scanned me.0.core n))) found
            (scan_keeps z w hs vs id me.0.core law at on may (scan_room w hs vs law at room
            (get_or w.announced me.0.core.position 0))),
        λ k e known. tt,
      ))

  pub swap_allows : (c word : ℕ) → i ≡ cells_from me.0.core.sizes + c → MayFill me.0 c word
      → Allows (Held {S = S} z) slots id me i (λ _. word) (λ n after. Told me i n word
      (swapped me.0.core n word) after (Nothing n))
  swap_allows c word is may = plain (λ steps. steps) (λ _. word) (λ n. swapped me.0.core n word)
      Nothing (λ n. on) (λ w hs vs law at knows small.
      let h = cell_here w hs vs law at c is may.there in (
        with_cell w c word,
        ap (λ (k : ℕ). set (flat w) k word) h.0 ∙ set_cell z w hs vs law.sized c word h.1,
        refl,
        subst (λ (n : ℕ). Lawful z (with_cell w c word) hs (set vs id (swapped me.0.core n word)))
            (sym h.2)
            (swap_keeps z w hs vs id me.0.core law at on c word
            (may.ready, may.there, may.quiet, right w.nodes knows may.right, may.held, may.few)
            (swap_room w hs vs law at may.room (get_or w.cells c 0) word)),
        λ k e known. tt,
      ))
    where
      part : (x : ℕ) → 0 < times x (cell_names word) → IsHeld me.0.core x
      part x named = go (dec_le 2 x)
        where
          go : Dec (2 ≤ x) → IsHeld me.0.core x
          go (yes two) = inr (let p = may.held x two in omega arith)
          go (no n) = inl (omega arith)

      right : (nodes : List ℕ) → Knows nodes me.0 → (word ≡ 0) ⊎ IsRightHere me.0 word
          → IsRight nodes word
      right nodes knows (inl e) = inl e
      right nodes knows (inr r) =
          known_right nodes me.0 word knows (part (first_of word) (names_first word))
          (part (second_of word) (names_second word)) (part (result_of word) (names_result word)) r
