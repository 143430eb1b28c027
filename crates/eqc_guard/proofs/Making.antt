-- Each step on a slot or a node is allowed by the rule, whatever the table is when its word
-- changes.
use Rattle.std.proofs.Common.{◌≡◌, ◌≢◌, ℕ, ◌+◌, ◌-◌, ◌^◌, ◌<◌, ◌≤◌, List, [], ◌∷◌, ◌++◌, length}
use Rattle.std.proofs.Common.{set, get_or, if◌then◌else◌, eqb, Bool, true, false, MatchBool, Some}
use Rattle.std.proofs.Common.{eq-eqb, ne_eqb, refl, sym, ap, subst, ◌∙◌, arith, inl, inr}
use Rattle.std.proofs.Common.{length-append}
use Rattle.std.specs.HashMap.{HashMap}
use Rattle.std.proofs.lemmas.Bool.{eqb-true, lt-ltb, le-ltb}
use Rattle.std.proofs.lemmas.List.{set-get_or, get_or-set_same}
use mathlib.Core.Option as May
use mathlib.Core.Option.{some}
use native.Mathlib.Decide.{dec_le}
use lib.ListN.{get_elem?}
use prog.Atomic.{either}
use Rattle.atomic_table.specs.Table.{Me, Act, Allows, keeps, carried_after}
use Rattle.eqc_tree.specs.Tree.{Tree, False, True, Node, StartsAbove}
use Rattle.eqc_tree.specs.Word.{node_word}
use Rattle.eqc_core.specs.declared.sizes.Sizes.{Sizes}
use Rattle.eqc_core.specs.View.{View, Hand, draft_of, hand_of}
use Rattle.eqc_core.specs.Words.{Words, times, children, variable_of, low_of, high_of, slots_of}
use Rattle.eqc_core.specs.Tables.{Homes, IsName, tabled}
use Rattle.eqc_core.specs.Trees.{IsTree, variable_at}
use Rattle.eqc_core.specs.Lawful.{Lawful}
use Rattle.eqc_core.specs.Moves.{IsReady, AreHeld, with_count, with_node, without_each, note}
use Rattle.eqc_core.specs.Making.{MayClaim, claimed, found_taken, MayUnclaim, unclaimed, MayWrite}
use Rattle.eqc_core.specs.Making.{wrote, MayRead, read_node, MayReclaim, reclaimed}
use Rattle.eqc_core.proofs.Lists.{set_again}
use Rattle.eqc_core.proofs.Names.{times-append, times-same, times_more, names_low, names_high}
use Rattle.eqc_core.proofs.Names.{length-without_each, length-slots_of}
use Rattle.eqc_core.proofs.Tables.{has_le, held_tabled}
use Rattle.eqc_core.proofs.Trees.{is_tree_one, is_tree_stays, low_named, high_named}
use Rattle.eqc_core.proofs.Bounds.{fields}
use Rattle.eqc_core.proofs.Claiming.{claim_keeps, claim_lost_keeps, draft_is, unclaim_keeps}
use Rattle.eqc_core.proofs.Claiming.{read_keeps}
use Rattle.eqc_core.proofs.Writing.{write_keeps}
use Rattle.eqc_core.proofs.Reclaiming.{reclaim_keeps}
use Rattle.eqc_guard.specs.Known.{flat, Known, Knows, IsKnown, IsHeld, IsNamed, Stepped, names_of}
use Rattle.eqc_guard.specs.Known.{tree_of}
use Rattle.eqc_guard.specs.Telling.{Told, Stored, Nothing, Copies}
use Rattle.eqc_guard.specs.Making.{Claims, spotted, node_tree, drafted, Writes, MayMake, Reads}
use Rattle.eqc_guard.specs.Making.{IsEntry, taken_back, Reclaims}
use Rattle.eqc_guard.specs.Rule.{counts_from, Held, homes_of, nodes_from}
use Rattle.eqc_guard.proofs.Laid.{set_count, get_count, set_node, get_node}
use Rattle.eqc_guard.proofs.Learning.{names_is, held_named, named_tree, held_tree}
use Rattle.eqc_guard.proofs.Counts.{slots_held, length-without_all}
use Rattle.eqc_guard.proofs.Stepping.{allows, Pays}
use Rattle.eqc_guard.proofs.Moves.{load, store, fits, size, count_here}

-- a tree whose variables are above v is of a name whose variable is
starts_at : (nodes : List ℕ) (v x : ℕ) (t : Tree) → v < 2 ^ 16 → IsTree nodes t x → StartsAbove v t
    → v < variable_at nodes x
starts_at nodes v x False small is above = let e : variable_at nodes x ≡ 2 ^ 16 =
    rw (lt-ltb x 2 (omega arith)) refl in omega arith
starts_at nodes v x True small is above = let e : variable_at nodes x ≡ 2 ^ 16 =
    rw (lt-ltb x 2 (omega arith)) refl in omega arith
starts_at nodes v x (Node u low high) small is above = let e : variable_at nodes x
    ≡ variable_of (get_or nodes x 0) = rw (le-ltb x 2 is.0) refl in let f = is.1 in omega arith

-- a name that is given to a node is a constant or held, and fits its field
pub given_held : (k : Known) (names : List ℕ) (x : ℕ) → AreHeld names k.core.held
    → 0 < times x names → IsHeld k.core x
given_held k names x held there = go (dec_le 2 x)
  where
    go : Dec (2 ≤ x) → IsHeld k.core x
    go (yes two) = inr (let h = held x two in omega arith)
    go (no n) = inl (omega arith)

pub held_small : (k : Known) (x : ℕ) → IsKnown k → IsHeld k.core x → x < 2 ^ 20
held_small k x known (inl lt) = omega arith
held_small k x known (inr h) = let limit = known.limit in let lt =
    known.below x (known.slots x h) (held_named k.core x h) in omega arith

first_given : (low high : ℕ) → 0 < times low (low ∷ high ∷ [])
first_given low high = omega (arith, times-same low low (high ∷ []) refl)

second_given : (low high : ℕ) → 0 < times high (low ∷ high ∷ [])
second_given low high = times_more high low (high ∷ [])
    (omega (arith, times-same high high [] refl))

-- what a worker knows of a node that it may write, in the terms of the node words
pub may_write : (nodes : List ℕ) (k : Known) (variable low high : ℕ) → IsKnown k → Knows nodes k
    → variable < 2 ^ 16 → (may : MayMake k variable low high)
    → MayWrite nodes k.core may.draft.0 may.hand.0 (node_word variable low high)
may_write nodes k variable low high known knows small may =
    let l = given_held k (low ∷ high ∷ []) low may.held (first_given low high) in
    let h = given_held k (low ∷ high ∷ []) high may.held (second_given low high) in
    let f = fields variable low high (held_small k low known l) (held_small k high known h) in
    let above_low = starts_at nodes variable low (tree_of k low) small (held_tree nodes k low knows
    l) may.above_low in
    let above_high = starts_at nodes variable high (tree_of k high) small (held_tree nodes k high
    knows h) may.above_high in
    let names : low ∷ high ∷ [] ≡ children (node_word variable low high) = λ i. sym f.low_is i
    ∷ sym f.high_is i ∷ [] in
    record {
      ready = may.ready;
      draft = may.draft.1;
      hand = may.hand.1;
      stripe = may.hand.2.0;
      new = may.hand.2.1;
      shaped = record {
        few = subst (λ (n : ℕ). n < k.core.sizes.variables) (sym f.variable_is) may.few;
        above_low = subst (λ (p : ℕ × ℕ). p.0 < variable_at nodes p.1) (λ i. (
          sym f.variable_is i,
          sym f.low_is i,
        )) above_low;
        above_high = subst (λ (p : ℕ × ℕ). p.0 < variable_at nodes p.1) (λ i. (
          sym f.variable_is i,
          sym f.high_is i,
        )) above_high;
        differ = λ e. may.differ (sym f.low_is ∙ (e ∙ f.high_is));
      };
      held = subst (λ (l : List ℕ). AreHeld l k.core.held) names may.held;
    }

module _ {S : Type 0} (z : Sizes) (slots id i : ℕ) (me : Me (HashMap ℕ ℕ S) Known)
    (on : me.0.core.active ≡ true) where
  -- the node word that the worker steps on
  node_here : (w : Words) (hs : Homes) (vs : List View) → Lawful z w hs vs
      → get_elem? vs id ≡ some me.0.core → (x : ℕ) → i ≡ nodes_from me.0.core.sizes + x
      → x < z.names
      → (i ≡ nodes_from z + x) × (get_or (flat w) i 0 ≡ get_or w.nodes x 0)
  node_here w hs vs law at x is lt =
      let here : i ≡ nodes_from z + x = is
      ∙ ap (λ (y : Sizes). nodes_from y + x) (size z slots id i me on w hs vs law at) in
      (here, ap (λ (k : ℕ). get_or (flat w) k 0) here ∙ get_node z w hs vs law.sized x lt)

  module _ (x : ℕ) (is : i ≡ counts_from me.0.core.sizes + x) where
    found : (w : Words) (hs : Homes) (vs : List View) → Lawful z w hs vs
        → get_elem? vs id ≡ some me.0.core → x < me.0.core.sizes.names → get_or (flat w) i 0
        ≡ get_or w.counts x 0
    found w hs vs law at lt = let h = count_here z slots id i me on w hs vs law at x is lt in
        ap (λ (k : ℕ). get_or (flat w) k 0) h.0 ∙ get_count z w hs vs law.sized x h.1

    laid : (w : Words) (hs : Homes) (vs : List View) → Lawful z w hs vs
        → get_elem? vs id ≡ some me.0.core → x < me.0.core.sizes.names → (n : ℕ) → set (flat w) i n
        ≡ flat (with_count w x n)
    laid w hs vs law at lt n = let h = count_here z slots id i me on w hs vs law at x is lt in
        ap (λ (k : ℕ). set (flat w) k n) h.0 ∙ set_count z w hs vs law.sized x n h.1

    claim_at : MayClaim me.0.core x → Allows (Held {S = S} z) slots id me i (λ n. either (eqb n 0) 2
        n) (λ n after. Claims me i x n after)
    claim_at may =
        allows z slots id i me on (λ steps. steps) (λ n. either (eqb n 0) 2 n)
        (λ n after. Claims me i x n after)
        (λ w homes vs law at knows small. go w homes vs law at (eqb (get_or (flat w) i 0) 0) refl)
      where
        go : (w : Words) (homes : List (May.Option (HashMap ℕ ℕ S))) (vs : List View)
            → Lawful z w (homes_of homes) vs → get_elem? vs id ≡ some me.0.core → (b : Bool)
            → eqb (get_or (flat w) i 0) 0 ≡ b
            → (v : View) × (a : Act (HashMap ℕ ℕ S)) × (w' : Words)
            × Pays z id i me (either b 2 (get_or (flat w) i 0)) w homes vs v a w'
            × ((k : Known) → Stepped me.0 v k
            → Copies me.0 i (get_or (flat w) i 0) (either b 2 (get_or (flat w) i 0)) k
            → Knows w'.nodes k → k.counted ≡ me.0.counted
            → MatchBool b (Told me i (get_or (flat w) i 0) 2 (claimed me.0.core x) (
              k,
              carried_after me.1 a,
            ) (Nothing (get_or (flat w) i 0)))
            (Told me i (get_or (flat w) i 0) (get_or (flat w) i 0) (found_taken me.0.core x) (
              k,
              carried_after me.1 a,
            ) (Nothing (get_or (flat w) i 0))))
        go w homes vs law at true e = (
          claimed me.0.core x,
          keeps,
          with_count w x 2,
          record {
            valid = tt;
            live = on;
            laid = laid w (homes_of homes) vs law at may.2 2;
            trees = λ t y named is. is;
            lawful = claim_keeps z w (homes_of homes) vs id me.0.core law at on x may
                (ap (λ (n : ℕ). eqb n 0) (sym (found w (homes_of homes) vs law at may.2)) ∙ e);
          },
          λ k stepped copies known counted. (stepped, refl, copies, tt, counted),
        )
        go w homes vs law at false e = (
          found_taken me.0.core x,
          keeps,
          w,
          record {
            valid = tt;
            live = on;
            laid = set-get_or (flat w) i 0;
            trees = λ t y named is. is;
            lawful = claim_lost_keeps z w (homes_of homes) vs id me.0.core law at on x;
          },
          λ k stepped copies known counted. (stepped, refl, copies, tt, counted),
        )

    pub claim_allows : MayClaim me.0.core x
        → Allows (Held {S = S} z) slots id me i (λ n. either (eqb n 0) 2 n) (λ n after. Claims me i
        (i - counts_from me.0.core.sizes) n after)
    claim_allows may =
        let back : x ≡ i - counts_from me.0.core.sizes = omega arith in
        subst (λ (y : ℕ). Allows (Held {S = S} z) slots id me i (λ n. either (eqb n 0) 2 n)
        (λ n after. Claims me i y n after)) back (claim_at may)

    -- a load that notes the slot, or leaves the view
    spot_keeps : (w : Words) (hs : Homes) (vs : List View) → Lawful z w hs vs
        → get_elem? vs id ≡ some me.0.core → (free : Bool) →
        Lawful z w hs (set vs id (record me.0.core {
          turn = if free then me.0.core.turn else note x
              me.0.core.turn;
        }))
    spot_keeps w hs vs law at true = subst (λ (us : List View). Lawful z w hs us)
        (sym (set_again vs id me.0.core at)) law
    spot_keeps w hs vs law at false = claim_lost_keeps z w hs vs id me.0.core law at on x

    pub spot_allows : Allows (Held {S = S} z) slots id me i (λ n. n) (λ n after. Told me i n n
        (spotted me.0.core (i - counts_from me.0.core.sizes) n) after (Nothing n))
    spot_allows =
        let back : x ≡ i - counts_from me.0.core.sizes = omega arith in
        subst (λ (y : ℕ). Allows (Held {S = S} z) slots id me i (λ n. n) (λ n after. Told me i n n
        (spotted me.0.core y n) after (Nothing n))) back
        (load z slots id i me on (λ n. spotted me.0.core x n) Nothing (λ n. on)
        (λ w hs vs law at knows. (
          spot_keeps w hs vs law at (eqb (get_or (flat w) i 0) 0),
          λ k core known. tt,
        )))

    pub unclaim_allows : x < me.0.core.sizes.names → MayUnclaim me.0.core x
        → Allows (Held {S = S} z) slots id me i (λ _. 0) (λ _ after. Stored me i 0
        (unclaimed me.0.core) after)
    unclaim_allows there may =
        store z slots id i me on 0 (unclaimed me.0.core) on (λ w hs vs law at. (
          with_count w x 0,
          laid w hs vs law at there 0,
          refl,
          unclaim_keeps z w hs vs id me.0.core law at on x
              may,
        ))

  module _ (x : ℕ) (is : i ≡ nodes_from me.0.core.sizes + x) where
    node_at : MayRead me.0.core x → Allows (Held {S = S} z) slots id me i (λ n. n)
        (λ n after. Told me i n n (read_node me.0.core x n) after (Reads me.0 x n))
    node_at may = load z slots id i me on (λ n. read_node me.0.core x n) (Reads me.0 x) (λ n. on)
        (λ w hs vs law at knows.
        let f = fits z slots id i me on w hs vs law at in
        let held = may.1 in
        let two : 2 ≤ x = f.slots x (omega arith) in
        let tab = held_tabled z w hs vs law id x me.0.core at two held in
        let h = node_here w hs vs law at x is (law.tables.named x tab).1 in (
          subst (λ (n : ℕ). Lawful z w hs (set vs id (read_node me.0.core x n))) (sym h.1)
              (read_keeps z w hs vs id me.0.core law at on x may),
          λ k core known. subst (λ (n : ℕ). k.core ≡ read_node me.0.core x n → Reads me.0 x n k)
              (sym h.1) (reads w hs vs law at knows two held tab k known) core,
        ))
      where
        below : (w : Words) (hs : Homes) (vs : List View) → Lawful z w hs vs → (y : ℕ)
            → IsName hs vs y → y < z.names
        below w hs vs law y (inl lt) = let two = law.sized.some_names in omega arith
        below w hs vs law y (inr tab) = (law.tables.named y tab).1

        reads : (w : Words) (hs : Homes) (vs : List View) → Lawful z w hs vs
            → get_elem? vs id ≡ some me.0.core → Knows w.nodes me.0 → 2 ≤ x
            → 0 < times x me.0.core.held → 0 < tabled hs vs x
            → (k : Known) → Knows w.nodes k → k.core ≡ read_node me.0.core x (get_or w.nodes x 0)
            → Reads me.0 x (get_or w.nodes x 0) k
        reads w hs vs law at knows two held tab k known core =
            let n : ℕ = get_or w.nodes x 0 in
            let same = sym (size z slots id i me on w hs vs law at) in
            let few = (law.tables.shaped x tab).few in
            let most = law.sized.few_variables in
            let low : IsNamed k.core (low_of (get_or w.nodes x 0)) =
            inr
            (subst (λ (v : View). 0 < times (low_of (get_or w.nodes x 0)) (names_of v)) (sym core)
            (omega (
              arith,
              names_is (low_of (get_or w.nodes x 0)) (read_node me.0.core x
                  (get_or w.nodes x 0)),
              names_low (get_or w.nodes x 0),
            ))) in
            let high : IsNamed k.core (high_of (get_or w.nodes x 0)) =
            inr
            (subst (λ (v : View). 0 < times (high_of (get_or w.nodes x 0)) (names_of v)) (sym core)
            (omega (
              arith,
              names_is (high_of (get_or w.nodes x 0)) (read_node me.0.core x
                  (get_or w.nodes x 0)),
              names_high (get_or w.nodes x 0),
            ))) in
            record {
              few = subst (λ (y : Sizes). variable_of (get_or w.nodes x 0) < y.variables) same few;
              small = omega arith;
              low = subst (λ (y : Sizes). low_of (get_or w.nodes x 0) < y.names) same
                  (below w hs vs law (low_of (get_or w.nodes x 0)) (low_named z w hs vs x law tab));
              high = subst (λ (y : Sizes). high_of (get_or w.nodes x 0) < y.names) same
                  (below w hs vs law (high_of (get_or w.nodes x 0)) (high_named z w hs vs x law tab));
              tree = is_tree_one w.nodes (tree_of me.0 x) (node_tree k (get_or w.nodes x 0)) x
                  (held_tree w.nodes me.0 x knows (inr held)) (
                    two,
                    refl,
                    named_tree w.nodes k (low_of (get_or w.nodes x 0)) known low,
                    named_tree w.nodes k (high_of (get_or w.nodes x 0)) known high,
                  );
            }

    pub node_allows : MayRead me.0.core x
        → Allows (Held {S = S} z) slots id me i (λ n. n) (λ n after. Told me i n n
        (read_node me.0.core (i - nodes_from me.0.core.sizes) n) after
        (Reads me.0 (i - nodes_from me.0.core.sizes) n))
    node_allows may =
        let back : x ≡ i - nodes_from me.0.core.sizes = omega arith in
        subst (λ (y : ℕ). Allows (Held {S = S} z) slots id me i (λ n. n) (λ n after. Told me i n n
        (read_node me.0.core y n) after (Reads me.0 y n))) back (node_at may)

    pub write_allows : (variable low high : ℕ) → IsKnown me.0 → me.0.core.draft ≡ Some x
        → MayMake me.0 variable low high
        → Allows (Held {S = S} z) slots id me i (λ _. node_word variable low high)
        (λ _ after. Writes me i (node_word variable low high) after)
    write_allows variable low high known draft may =
        allows z slots id i me on (λ steps. steps) (λ _. node_word variable low high)
        (λ _ after. Writes me i (node_word variable low high) after) (λ w homes vs law at knows
        small.
        let hs : Homes = homes_of homes in
        let few = may.few in
        let most = law.sized.few_variables in
        let same = ap (λ (y : Sizes). y.variables) (size z slots id i me on w (homes_of homes) vs
        law at) in
        let write : MayWrite w.nodes me.0.core x may.hand.0 (node_word variable low high) =
        subst (λ (d : ℕ). MayWrite w.nodes me.0.core d may.hand.0 (node_word variable low high))
        (let q : may.draft.0 ≡ x = (let e : Some may.draft.0 ≡ Some x = sym may.draft.1 ∙ draft in
        cc) in q)
        (may_write w.nodes me.0 variable low high known knows (omega arith) may) in
        let d = draft_is z w (homes_of homes) vs id me.0.core law at on x draft in
        let view : wrote me.0.core x may.hand.0 (node_word variable low high)
        ≡ drafted me.0.core (node_word variable low high) = λ j.
        wrote me.0.core (draft_of (sym draft j)) (hand_of (sym may.hand.1 j))
        (node_word variable low high) in
        let h = node_here w (homes_of homes) vs law at x is d.1 in
        let stays : (t : Tree) (y : ℕ) → IsName (homes_of homes) vs y → IsTree w.nodes t y
        → IsTree (set w.nodes x (node_word variable low high)) t y =
        is_tree_stays z w (homes_of homes) vs x (node_word variable low high) law d.3 in (
          drafted me.0.core (node_word variable low high),
          keeps,
          with_node w x (node_word variable low high),
          record {
            valid = tt;
            live = on;
            laid = ap (λ (k : ℕ). set (flat w) k (node_word variable low high)) h.0
                ∙ set_node z w (homes_of homes) vs law.sized x (node_word variable low high) d.1;
            trees = stays;
            lawful = subst (λ (v : View). Lawful z (with_node w x (node_word variable low high))
                (homes_of homes) (set vs id v)) view
                (write_keeps z w (homes_of homes) vs id me.0.core law at on x
                (node_word variable low high) may.hand.0 write (room may.hand.0));
          },
          λ k stepped copies after counted. (
            stepped,
            refl,
            copies.copy,
            ap (λ o. tree_of k (draft_of o)) draft ∙ tree w (homes_of homes) vs law at knows stays k
                stepped after (d.0) (let lt = d.1 in omega (arith, law.sized.nodes)) view,
            counted,
          ),
        ))
      where
        room : (h : Hand) → length (wrote me.0.core x h (node_word variable low high)).held ≤ 2 ^ 40
        room h = let le = may.room in
            omega (
              arith,
              length-append (without_each (slots_of (children (node_word variable low high)))
                  me.0.core.held) (x ∷ []),
              length-without_each (slots_of (children (node_word variable low high)))
                  me.0.core.held,
            )

        name : (w : Words) (hs : Homes) (vs : List View) → Lawful z w hs vs
            → get_elem? vs id ≡ some me.0.core → (y : ℕ) → IsHeld me.0.core y → IsName hs vs y
        name w hs vs law at y (inl lt) = inl lt
        name w hs vs law at y (inr h) =
            inr (held_tabled z w hs vs law id y me.0.core at (known.slots y h) h)

        tree : (w : Words) (hs : Homes) (vs : List View) → Lawful z w hs vs
            → get_elem? vs id ≡ some me.0.core → Knows w.nodes me.0
            → ((t : Tree) (y : ℕ) → IsName hs vs y → IsTree w.nodes t y
            → IsTree (set w.nodes x (node_word variable low high)) t y)
            → (k : Known) → Stepped me.0 (drafted me.0.core (node_word variable low high)) k
            → Knows (set w.nodes x (node_word variable low high)) k → 2 ≤ x → x < length w.nodes
            → wrote me.0.core x may.hand.0 (node_word variable low high)
            ≡ drafted me.0.core (node_word variable low high)
            → tree_of k x ≡ node_tree me.0 (node_word variable low high)
        tree w hs vs law at knows stays k stepped after two there view =
            let word : ℕ = node_word variable low high in
            let l = given_held me.0 (low ∷ high ∷ []) low may.held (first_given low high) in
            let h = given_held me.0 (low ∷ high ∷ []) high may.held (second_given low high) in
            let f = fields variable low high (held_small me.0 low known l)
            (held_small me.0 high known h) in
            let here : get_or (set w.nodes x (node_word variable low high)) x 0
            ≡ node_word variable low high =
            get_or-set_same w.nodes x (node_word variable low high) 0 there in
            let lt : IsTree (set w.nodes x (node_word variable low high)) (tree_of me.0 low) low =
            stays (tree_of me.0 low) low (name w hs vs law at low l) (held_tree w.nodes me.0 low
            knows l) in
            let ht : IsTree (set w.nodes x (node_word variable low high)) (tree_of me.0 high) high =
            stays (tree_of me.0 high) high (name w hs vs law at high h) (held_tree w.nodes me.0 high
            knows h) in
            let held : 0 < times x (wrote me.0.core x may.hand.0 (node_word variable low high)).held
            =
            omega (
              arith,
              times-append x
                  (without_each (slots_of (children (node_word variable low high))) me.0.core.held) (x
                  ∷ []),
              times-same x x [] refl,
            ) in
            let named : 0 < times x (names_of k.core) =
            subst (λ (v : View). 0 < times x (names_of v)) (view ∙ sym stepped.core)
            (held_named (wrote me.0.core x may.hand.0 (node_word variable low high)) x held) in
            is_tree_one (set w.nodes x (node_word variable low high)) (tree_of k x)
            (node_tree me.0 (node_word variable low high)) x (after x two named) (
              two,
              ap variable_of here,
              subst (λ (p : ℕ × ℕ). IsTree (set w.nodes x (node_word variable low high))
                  (tree_of me.0 p.0) p.1) (λ j. (
                    sym f.low_is j,
                    (sym f.low_is ∙ ap low_of (sym here))
                        j,
                  )) lt,
              subst (λ (p : ℕ × ℕ). IsTree (set w.nodes x (node_word variable low high))
                  (tree_of me.0 p.0) p.1) (λ j. (
                    sym f.high_is j,
                    (sym f.high_is
                        ∙ ap high_of (sym here)) j,
                  )) ht,
            )

  module _ (x word : ℕ) (is : i ≡ counts_from me.0.core.sizes + x) (known : IsKnown me.0)
      (entry : IsEntry me.0.core word x) where
    abbrev h : Hand
    h = entry.0

    there : x < me.0.core.sizes.names
    there = (known.entries h entry.1 (word, x) entry.2 entry.3).1

    -- the word of each entry of the slot is the slot's
    word_is : (w : Words) (hs : Homes) (vs : List View) → Lawful z w hs vs
        → get_elem? vs id ≡ some me.0.core → (m : ℕ) → IsEntry me.0.core m x → get_or w.nodes x 0
        ≡ m
    word_is w hs vs law at m e =
        (law.tables.entries e.0.stripe e.0.entries (inr (id, me.0.core, e.0, at, e.2, refl, refl))
        e.1 (m, x) e.3).0

    reclaim_at : IsReady me.0.core → length me.0.core.held ≤ 2 ^ 39
        → Allows (Held {S = S} z) slots id me i (λ n. either (eqb n 1) 0 n) (λ n after. Reclaims me
        i x n after)
    reclaim_at ready few =
        allows z slots id i me on (λ steps. steps) (λ n. either (eqb n 1) 0 n)
        (λ n after. Reclaims me i x n after)
        (λ w homes vs law at knows small. go w homes vs law at (eqb (get_or (flat w) i 0) 1) refl)
      where
        room : (m : ℕ) → length (reclaimed me.0.core h x m).held ≤ 2 ^ 40
        room m = omega (
          arith,
          length-append me.0.core.held (slots_of (children m)),
          length-slots_of (children m),
        )

        go : (w : Words) (homes : List (May.Option (HashMap ℕ ℕ S))) (vs : List View)
            → Lawful z w (homes_of homes) vs → get_elem? vs id ≡ some me.0.core → (b : Bool)
            → eqb (get_or (flat w) i 0) 1 ≡ b
            → (v : View) × (a : Act (HashMap ℕ ℕ S)) × (w' : Words)
            × Pays z id i me (either b 0 (get_or (flat w) i 0)) w homes vs v a w'
            × ((k : Known) → Stepped me.0 v k
            → Copies me.0 i (get_or (flat w) i 0) (either b 0 (get_or (flat w) i 0)) k
            → Knows w'.nodes k → k.counted ≡ me.0.counted
            → MatchBool b
            ((m : ℕ) → IsEntry me.0.core m x
            → Told me i (get_or (flat w) i 0) 0 (taken_back me.0.core x m) (
              k,
              carried_after me.1 a,
            ) (Nothing (get_or (flat w) i 0)))
            (Told me i (get_or (flat w) i 0) (get_or (flat w) i 0) me.0.core (
              k,
              carried_after me.1 a,
            ) (Nothing (get_or (flat w) i 0))))
        go w homes vs law at true e =
            let one : get_or w.counts x 0 ≡ 1 = sym (found x is w (homes_of homes) vs law at there)
            ∙ eqb-true (get_or (flat w) i 0) 1 e in
            let may : MayReclaim w me.0.core h x =
            (ready, entry.2, has_le h.entries entry.1 (word, x) entry.3, one) in (
              reclaimed me.0.core h x (get_or w.nodes x 0),
              keeps,
              with_count w x 0,
              record {
                valid = tt;
                live = on;
                laid = laid x is w (homes_of homes) vs law at there 0;
                trees = λ t y named is. is;
                lawful = reclaim_keeps z w (homes_of homes) vs id me.0.core law at on x h may
                    (room (get_or w.nodes x 0));
              },
              λ k stepped copies after counted m e.
                  let same : reclaimed me.0.core h x (get_or w.nodes x 0) ≡ taken_back me.0.core x
                  m = λ j.
                  reclaimed me.0.core (hand_of (sym entry.2 j)) x (word_is w (homes_of homes) vs law
                  at m e j) in
                  (subst (λ (v : View). Stepped me.0 v k) same stepped, refl, copies, tt, counted),
            )
        go w homes vs law at false e = (
          me.0.core,
          keeps,
          w,
          record {
            valid = tt;
            live = on;
            laid = set-get_or (flat w) i 0;
            trees = λ t y named is. is;
            lawful = subst (λ (us : List View). Lawful z w (homes_of homes) us)
                (sym (set_again vs id me.0.core at)) law;
          },
          λ k stepped copies after counted. (stepped, refl, copies, tt, counted),
        )

    pub reclaim_allows : IsReady me.0.core → length me.0.core.held ≤ 2 ^ 39 →
        Allows (Held {S = S} z) slots id me i (λ n. either (eqb n 1) 0 n) (λ n after. Reclaims me i
        (i - counts_from me.0.core.sizes) n after)
    reclaim_allows ready few =
        let back : x ≡ i - counts_from me.0.core.sizes = omega arith in
        subst (λ (y : ℕ). Allows (Held {S = S} z) slots id me i (λ n. either (eqb n 1) 0 n)
        (λ n after. Reclaims me i y n after)) back (reclaim_at ready few)

-- what a try to claim tells, by what it found
pub claim_won : {T : Type 0} (me : Known × List T) (i x n : ℕ) (after : Known × List T)
    → i ≡ counts_from me.0.core.sizes + x → n ≡ 0 →
    Claims me i (i - counts_from me.0.core.sizes) n after
    → Told me i n 2 (claimed me.0.core x) after (Nothing n)
claim_won me i x n after is zero_count c =
    let back : i - counts_from me.0.core.sizes ≡ x = omega arith in
    subst (λ (y : ℕ). Told me i n 2 (claimed me.0.core y) after (Nothing n)) back
    (subst
    (λ (b : Bool).
    MatchBool b (Told me i n 2 (claimed me.0.core (i - counts_from me.0.core.sizes)) after
    (Nothing n))
    (Told me i n n (found_taken me.0.core (i - counts_from me.0.core.sizes)) after (Nothing n)))
    (eq-eqb n 0 zero_count) c)

pub claim_lost : {T : Type 0} (me : Known × List T) (i x n : ℕ) (after : Known × List T)
    → i ≡ counts_from me.0.core.sizes + x → n ≢ 0 →
    Claims me i (i - counts_from me.0.core.sizes) n after → Told me i n n (found_taken me.0.core x)
    after (Nothing n)
claim_lost me i x n after is some_count c =
    let back : i - counts_from me.0.core.sizes ≡ x = omega arith in
    subst (λ (y : ℕ). Told me i n n (found_taken me.0.core y) after (Nothing n)) back
    (subst
    (λ (b : Bool).
    MatchBool b (Told me i n 2 (claimed me.0.core (i - counts_from me.0.core.sizes)) after
    (Nothing n))
    (Told me i n n (found_taken me.0.core (i - counts_from me.0.core.sizes)) after (Nothing n)))
    (ne_eqb n 0 some_count) c)

-- what a try to take a node back tells, by what it found
pub reclaim_won : {T : Type 0} (me : Known × List T) (i x word n : ℕ) (after : Known × List T)
    → i ≡ counts_from me.0.core.sizes + x → n ≡ 1 →
    IsEntry me.0.core word x → Reclaims me i (i - counts_from me.0.core.sizes) n after
    → Told me i n 0 (taken_back me.0.core x word) after (Nothing n)
reclaim_won me i x word n after is one entry c =
    let back : i - counts_from me.0.core.sizes ≡ x = omega arith in
    let r : Reclaims me i x n after = subst (λ (y : ℕ). Reclaims me i y n after) back c in
    subst
    (λ (b : Bool). MatchBool b ((m : ℕ) → IsEntry me.0.core m x
    → Told me i n 0 (taken_back me.0.core x m) after (Nothing n)) (Told me i n n me.0.core after
    (Nothing n)))
    (eq-eqb n 1 one) r word entry

pub reclaim_lost : {T : Type 0} (me : Known × List T) (i x n : ℕ) (after : Known × List T) → n ≢ 1
    → Reclaims me i x n after → Told me i n n me.0.core after (Nothing n)
reclaim_lost me i x n after other c =
    subst (λ (b : Bool). MatchBool b ((m : ℕ) → IsEntry me.0.core m x
    → Told me i n 0 (taken_back me.0.core x m) after (Nothing n)) (Told me i n n me.0.core after
    (Nothing n))) (ne_eqb n 1 other) c

-- the slot of an entry of the table in hand is there
pub entry_there : (k : Known) (x word : ℕ) → IsKnown k → IsEntry k.core word x
    → x < k.core.sizes.names
entry_there k x word known e = (known.entries e.0 e.1 (word, x) e.2 e.3).1

-- the children that a worker may give to a node fit their fields, and it holds as many names
pub child_small : (k : Known) (variable low high : ℕ) → IsKnown k → MayMake k variable low high
    → (low < 2 ^ 20) × (high < 2 ^ 20)
child_small k variable low high known may = (
  held_small k low known (given_held k (low ∷ high ∷ []) low may.held (first_given low high)),
  held_small k high known (given_held k (low ∷ high ∷ []) high may.held (second_given low high)),
)

pub given_enough : (k : Known) (variable low high : ℕ) → MayMake k variable low high
    → length (slots_of (low ∷ high ∷ [])) ≤ length k.core.held
given_enough k variable low high may = let l = length-without_all (slots_of (low ∷ high ∷ []))
    k.core.held (slots_held (low ∷ high ∷ []) k.core.held may.held) in omega arith

-- how many are held after a write
pub drafted_length : (k : Known) (variable low high n n' : ℕ) → IsKnown k
    → MayMake k variable low high → n ≡ length k.core.held
    → n' + length (slots_of (low ∷ high ∷ [])) ≡ n + 1
    → n' ≡ length (drafted k.core (node_word variable low high)).held
drafted_length k variable low high n n' known may is next =
    let small = child_small k variable low high known may in
    let f = fields variable low high small.0 small.1 in
    let names : low ∷ high ∷ [] ≡ children (node_word variable low high) = λ i. sym f.low_is i
    ∷ sym f.high_is i ∷ [] in
    let l = length-without_all (slots_of (low ∷ high ∷ [])) k.core.held (slots_held (low ∷ high
    ∷ []) k.core.held may.held) in
    let m : n' ≡ length (without_each (slots_of (low ∷ high ∷ [])) k.core.held
    ++ draft_of k.core.draft ∷ []) =
    omega (
      arith,
      length-append (without_each (slots_of (low ∷ high ∷ [])) k.core.held)
          (draft_of k.core.draft ∷ []),
    ) in
    m ∙ ap (λ (xs : List ℕ). length (without_each (slots_of xs) k.core.held ++ draft_of k.core.draft
    ∷ [])) names

-- the tree of the node that they make
pub made_tree : (k : Known) (variable low high : ℕ) → IsKnown k → MayMake k variable low high
    → node_tree k (node_word variable low high) ≡ Node variable (tree_of k low) (tree_of k high)
made_tree k variable low high known may =
    let small = child_small k variable low high known may in
    let f = fields variable low high small.0 small.1 in
    λ i. Node (f.variable_is i) (tree_of k (f.low_is i)) (tree_of k (f.high_is i))
