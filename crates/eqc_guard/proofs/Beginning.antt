-- The state in which a forest begins meets the rule.
use Rattle.std.proofs.Common.{◌≡◌, ℕ, zero, suc, ◌+◌, ◌-◌, ◌<◌, ◌≤◌, List, [], ◌∷◌, length, get_or}
use Rattle.std.proofs.Common.{map, None, Some, eq-eqb, ne_eqb, refl, sym, ap, subst, ◌∙◌, arith}
use Rattle.std.proofs.Common.{inr}
use Rattle.std.specs.HashMap.{HashMap}
use mathlib.Core.Option.{some, some-injective, some-ne-none}
use native.Mathlib.Decide.{dec_le}
use lib.ListN.{get_elem?}
use Rattle.atomic_table.specs.Table.{opening}
use Rattle.atomic_table.specs.Seated.{TableId}
use Rattle.eqc_tree.specs.Tree.{Tree, False, True, Node}
use Rattle.eqc_core.specs.declared.sizes.Sizes.{Sizes}
use Rattle.eqc_core.specs.View.{fresh, idle}
use Rattle.eqc_core.specs.Words.{times, announced_words, variable_of, low_of, high_of}
use Rattle.eqc_core.specs.Tables.{Homes}
use Rattle.eqc_core.specs.Trees.{IsTree}
use Rattle.eqc_core.specs.Lawful.{Lawful}
use Rattle.eqc_core.specs.State.{IsWithinLimits, repeated, literal, slots_from, literal_homes}
use Rattle.eqc_core.specs.State.{opening as opening_state}
use Rattle.eqc_core.proofs.Opening.{opening_lawful}
use Rattle.eqc_core.proofs.Literals.{literals_get, literal_variable, literal_low, literal_high}
use Rattle.eqc_core.proofs.Literals.{slots_out, slots_in, slots_length}
use Rattle.eqc_guard.specs.Known.{Known, Knows, IsExact, IsKnown, flat, names_of, kept_tree}
use Rattle.eqc_guard.specs.Standing.{IsSeated}
use Rattle.eqc_guard.specs.Rule.{Held, homes_of, literal_trees, beginner}
use Rattle.eqc_guard.proofs.Learning.{names_is, is_known, tree_else}
use Rattle.eqc_guard.proofs.Seats.{fresh_none}
use Rattle.eqc_guard.proofs.Stocking.{flat_length}

alone_at : {A : Type 0} (x y : A) (i : ℕ) → get_elem? (x ∷ []) i ≡ some y → x ≡ y
alone_at x y zero e = some-injective x y e
alone_at x y (suc i) e = absurd (some-ne-none y (sym e))

-- worker 0 names the literals alone
named_once : (x : ℕ) (z : Sizes) (n : ℕ) → times x (names_of (beginner z n).core)
    ≡ times x (slots_from 2 n)
named_once x z n = omega (
  arith,
  names_is x (beginner z n).core,
  names_is x (fresh z 0),
  fresh_none x z 0,
)

-- the tree kept for a literal
kept_literal : (i n m : ℕ) → m < n → kept_tree (literal_trees i n) (2 + (i + m))
    ≡ Node (i + m) False True
kept_literal i zero m lt = absurd (omega arith)
kept_literal i (suc n) zero lt = let e : i ≡ i + 0 = omega arith in
    rw (eq-eqb (2 + i) (2 + (i + 0)) (ap (λ (k : ℕ). 2 + k) e)) (ap (λ (k : ℕ). Node k False True)
    e)
kept_literal i (suc n) (suc m) lt =
    let e : suc i + m ≡ i + suc m = omega arith in
    rw (ne_eqb (2 + i) (2 + (i + suc m)) (λ q. omega arith))
    (subst (λ (k : ℕ). kept_tree (literal_trees (suc i) n) (2 + k) ≡ Node k False True) e
    (kept_literal (suc i) n m (omega arith)))

-- and no other is
literal_tree_at : (i n j : ℕ) (p : ℕ × Tree) → get_elem? (literal_trees i n) j ≡ some p → (m : ℕ)
    × (m < n) × (p ≡ (2 + (i + m), Node (i + m) False True))
literal_tree_at i zero j p e = absurd (some-ne-none p (sym e))
literal_tree_at i (suc n) zero p e = let q : i ≡ i + 0 = omega arith in (
  0,
  omega arith,
  sym (some-injective (2 + i, Node i False True) p e)
      ∙ ap (λ (k : ℕ). (2 + k, Node k False True)) q,
)
literal_tree_at i (suc n) (suc j) p e =
    let r = literal_tree_at (suc i) n j p e in
    let q : suc i + r.0 ≡ i + suc r.0 = omega arith in
    (suc r.0, (let lt = r.1 in omega arith), r.2 ∙ ap (λ (k : ℕ). (2 + k, Node k False True)) q)

-- the same from the first variable on
kept_first : (n m : ℕ) → m < n → kept_tree (literal_trees 0 n) (2 + m) ≡ Node m False True
kept_first n m lt = let e : 0 + m ≡ m = omega arith in
    subst (λ (k : ℕ). kept_tree (literal_trees 0 n) (2 + k) ≡ Node k False True) e
    (kept_literal 0 n m lt)

first_tree_at : (n j : ℕ) (p : ℕ × Tree) → get_elem? (literal_trees 0 n) j ≡ some p → (m : ℕ)
    × (m < n) × (p ≡ (2 + m, Node m False True))
first_tree_at n j p e =
    let r = literal_tree_at 0 n j p e in
    let q : 0 + r.0 ≡ r.0 = omega arith in
    (r.0, r.1, r.2 ∙ ap (λ (k : ℕ). (2 + k, Node k False True)) q)

module _ (z : Sizes) (n : ℕ) (limits : IsWithinLimits z) (fits : n + 2 ≤ z.names) (few : n
    ≤ z.variables) where
  abbrev nodes : List ℕ
  nodes = (opening_state z n).words.nodes

  -- the literal of variable m in its slot
  literal_tree : (m : ℕ) → m < n → IsTree nodes (Node m False True) (2 + m)
  literal_tree m lt =
      let place : 2 + m ≡ suc (suc m) = omega arith in
      let same : 0 + m ≡ m = omega arith in
      let word : get_or (opening_state z n).words.nodes (2 + m) 0 ≡ literal m =
      ap (λ (k : ℕ). get_or (opening_state z n).words.nodes k 0) place
      ∙ (literals_get 0 n m (repeated 0 (z.names - (n + 2))) lt ∙ ap literal same) in (
        omega arith,
        ap variable_of word ∙ literal_variable m,
        ap low_of word
            ∙ literal_low m,
        ap high_of word ∙ literal_high m,
      )

  slot_of : (x : ℕ) → 2 ≤ x → 0 < times x (slots_from 2 n) → (m : ℕ) × (m < n) × (x ≡ 2 + m)
  slot_of x two h = go (dec_le (2 + n) x)
    where
      go : Dec (2 + n ≤ x) → (m : ℕ) × (m < n) × (x ≡ 2 + m)
      go (yes out) = absurd (let none = slots_out x 2 n (inr out) in omega arith)
      go (no lt) = (x - 2, omega arith, omega arith)

  knows : Knows nodes (beginner z n)
  knows x two named =
      let s = slot_of x two (omega (arith, named_once x z n)) in
      let kept : kept_tree (literal_trees 0 n) x ≡ Node s.0 False True =
      ap (kept_tree (literal_trees 0 n)) s.2 ∙ kept_first n s.0 s.1 in
      subst (λ (t : Tree). IsTree nodes t x) (sym (tree_else (literal_trees 0 n) x two ∙ kept))
      (subst (λ (y : ℕ). IsTree nodes (Node s.0 False True) y) (sym s.2) (literal_tree s.0 s.1))

  exact : IsExact nodes (beginner z n)
  exact i p e =
      let r = first_tree_at n i p e in
      let there : 0 < times (2 + r.0) (names_of (beginner z n).core) = let lt = r.1 in
      omega (
        arith,
        named_once (2 + r.0) z n,
        slots_in (2 + r.0) 2 n (omega arith)
            (omega arith),
      ) in
      subst (λ (q : ℕ × Tree). (2 ≤ q.0) × (0 < times q.0 (names_of (beginner z n).core))
      × IsTree nodes q.1 q.0) (sym r.2) (omega arith, there, literal_tree r.0 r.1)

  lawful : Lawful z (opening_state z n).words (literal_homes n) ((beginner z n).core ∷ [])
  lawful = opening_lawful z n limits fits few

  pub opening_held : {S : Type 0} (ws : List ℕ) (maps : List (HashMap ℕ ℕ S))
      → ws ≡ flat (opening_state z n).words →
      homes_of (map some maps) ≡ literal_homes n → Held {S = S} z (opening ws maps (beginner z n))
  opening_held {S} ws maps laid homes = record {
    words = (opening_state z n).words;
    laid = laid;
    lawful = subst (λ (hs : Homes). Lawful z (opening_state z n).words hs ((beginner z n).core
        ∷ [])) (sym homes) lawful;
    knows = λ j k e act. subst (λ (t : Known). Knows nodes t) (alone_at (beginner z n) k j e) knows;
    exact = λ j k e act. subst (λ (t : Known). IsExact nodes t) (alone_at (beginner z n) k j e)
        exact;
    copies = λ j k ws e has. absurd (let c : None ≡ Some ws =
        ap (λ (t : Known). t.copy) (alone_at (beginner z n) k j e) ∙ has in cc);
  }

  -- what worker 0 knows of it
  pub beginner_known : IsKnown (beginner z n)
  beginner_known = is_known z (opening_state z n).words (literal_homes n) ((beginner z n).core ∷ [])
      0 (beginner z n) lawful refl refl knows (λ ws e. absurd (cc))

  -- and it is a worker of the table
  pub beginner_seated : {S : Type 0} (ws : List ℕ) (table : TableId) → z.announcements ≤ 4
      → announced_words z ≤ 256 → z.workers ≤ 64 →
      ws ≡ flat (opening_state z n).words → table.words ≡ length ws
      → IsSeated {S = S} table table z z (beginner z n, []) 0 n (idle z.announcements) [] [] 0 1
      [] None
  beginner_seated ws table few_words few_announced few_workers laid words = record {
    one_table = refl;
    one_key = refl;
    worker = record {
      words = words ∙ (ap (λ (l : List ℕ). length l) laid ∙ flat_length z (opening_state z n).words
          (literal_homes n) ((beginner z n).core ∷ []) lawful.sized);
      limits = limits;
      few_words = few_words;
      few_announced = few_announced;
      few_workers = few_workers;
      sizes = refl;
      active = refl;
      number = limits.some_workers;
      known = beginner_known;
    };
    carries = refl;
    number_is = refl;
    held_is = sym (slots_length 2 n);
    phases_are = refl;
    retired_are = refl;
    noted_are = refl;
    position_is = refl;
    given_is = refl;
    out_is = refl;
    draft_is = refl;
  }
