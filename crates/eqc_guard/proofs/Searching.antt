-- A search for a free slot, try by try.
use Rattle.std.proofs.Common.{◌≡◌, ◌≢◌, ℕ, ◌+◌, ◌<◌, ◌≤◌, List, [], ◌∷◌, ne_eqb, refl, sym, ap}
use Rattle.std.proofs.Common.{subst, ◌∙◌, arith}
use Rattle.std.proofs.lemmas.Bool.{lt-ltb, le-ltb}
use native.Mathlib.Decide.{ℕ_discrete, dec_le}
use Rattle.eqc_core.specs.View.{View}
use Rattle.eqc_core.specs.Words.{times}
use Rattle.eqc_core.specs.Moves.{note}
use Rattle.eqc_core.specs.Making.{claimed, found_taken}
use Rattle.eqc_core.proofs.Names.{times-append, times-same}
use Rattle.eqc_guard.specs.Known.{IsKnown, names_of}
use Rattle.eqc_guard.specs.Standing.{Standing, Steps}
use Rattle.eqc_guard.specs.Searching.{IsDrafted, HasSeen, HasSeenAll}
use Rattle.eqc_guard.proofs.Learning.{names_is, keeps_on}

-- a name that is noted stands in the list, and what stood there does
note_new : (x : ℕ) (xs : List ℕ) → x ≢ 0 → Dec (1 ≤ times x xs) → 0 < times x (note x xs)
note_new x xs some (yes h) = rw (ne_eqb x 0 some, lt-ltb 0 (times x xs) h) (omega arith)
note_new x xs some (no n) = rw (ne_eqb x 0 some, le-ltb 0 (times x xs) (omega arith))
    (omega (arith, times-append x xs (x ∷ []), times-same x x [] refl))

note_old : (y x : ℕ) (xs : List ℕ) → x ≢ 0 → Dec (1 ≤ times x xs) → 0 < times y xs
    → 0 < times y (note x xs)
note_old y x xs some (yes h) there = rw (ne_eqb x 0 some, lt-ltb 0 (times x xs) h) there
note_old y x xs some (no n) there = rw (ne_eqb x 0 some, le-ltb 0 (times x xs) (omega arith))
    (omega (arith, times-append y xs (x ∷ [])))

-- the turn and the draft are not among the names
turn_names : (x : ℕ) (turn : List ℕ) (v : View) → times x (names_of (record v { turn = turn }))
    ≡ times x (names_of v)
turn_names x turn v = omega (arith, names_is x v, names_is x (record v { turn = turn }))

claim_names : (x y : ℕ) (v : View) → times x (names_of (claimed v y)) ≡ times x (names_of v)
claim_names x y v = omega (arith, names_is x v, names_is x (claimed v y))

-- nothing was tried yet
pub none_seen : (first : ℕ) (s : Standing) → IsKnown s.known → HasSeen first first s s
none_seen first s known = record {
  forest = refl;
  turn = s.known.core.turn;
  core = refl;
  seen = λ x a b. absurd (omega arith);
  before = λ x h. h;
  trees = λ x two h. refl;
  copy = λ ws e. (ws, e);
  known = known;
}

module _ (first last : ℕ) (old mid : Standing) (m : HasSeen first last old mid) where
  -- what was named is
  still_named : (x : ℕ) → 0 < times x (names_of old.known.core)
      → 0 < times x (names_of mid.known.core)
  still_named x h = subst (λ (v : View). 0 < times x (names_of v)) (sym m.core)
      (omega (arith, turn_names x m.turn old.known.core))

  -- the next slot was seen taken, too
  pub one_seen : (next : Standing) → 2 ≤ last → Steps mid (found_taken mid.known.core last) next
      → HasSeen first (last + 1) old next
  one_seen next two s = record {
    forest = s.forest ∙ m.forest;
    turn = note last m.turn;
    core = s.known.core ∙ ap (λ (v : View). found_taken v last) m.core;
    seen = seen;
    before = λ x h. note_old x last m.turn (λ e. omega arith) (dec_le 1 (times last m.turn))
        (m.before x h);
    trees = λ x k h.
        s.known.agrees x k (still_named x h) (subst (λ (v : View). 0
        < times x (names_of (found_taken v last))) (sym m.core)
        (omega (arith, turn_names x (note last m.turn) old.known.core)))
        ∙ m.trees x k h;
    copy = keeps_on old.known mid.known next.known m.copy s.known.copy;
    known = s.known.known;
  }
    where
      seen : (x : ℕ) → first ≤ x → x < last + 1 → 0 < times x (note last m.turn)
      seen x a b = go (ℕ_discrete x last)
        where
          go : Dec (x ≡ last) → 0 < times x (note last m.turn)
          go (yes e) = subst (λ (y : ℕ). 0 < times y (note last m.turn)) (sym e)
              (note_new last m.turn (λ z. omega arith) (dec_le 1 (times last m.turn)))
          go (no n) = note_old x last m.turn (λ z. omega arith) (dec_le 1 (times last m.turn))
              (m.seen x a (omega arith))

  -- a slot was won
  pub one_won : (slot : ℕ) (next : Standing) → 2 ≤ slot → slot < mid.known.core.sizes.names
      → Steps mid (claimed mid.known.core slot) next → IsDrafted slot old next
  one_won slot next two there s = record {
    forest = s.forest ∙ m.forest;
    first = two;
    there = subst (λ (v : View). slot < v.sizes.names) m.core there;
    core = s.known.core ∙ ap (λ (v : View). claimed v slot) m.core;
    trees = λ x k h. s.known.agrees x k (still_named x h) (subst (λ (v : View). 0
        < times x (names_of (claimed v slot))) (sym m.core)
        (omega (arith, claim_names x slot old.known.core)))
        ∙ m.trees x k h;
    copy = keeps_on old.known mid.known next.known m.copy s.known.copy;
    known = s.known.known;
  }

  -- the search went on, and a slot was won
  pub then_won : (slot : ℕ) (new : Standing) → IsDrafted slot mid new → IsDrafted slot old new
  then_won slot new d = record {
    forest = d.forest ∙ m.forest;
    first = d.first;
    there = subst (λ (v : View). slot < v.sizes.names) m.core d.there;
    core = d.core ∙ ap (λ (v : View). claimed v slot) m.core;
    trees = λ x k h. d.trees x k (still_named x h) ∙ m.trees x k h;
    copy = keeps_on old.known mid.known new.known m.copy d.copy;
    known = d.known;
  }

  -- the search began again with lower slots, and came to where it had begun
  pub then_seen : (lowest : ℕ) (new : Standing) → HasSeen lowest first mid new
      → HasSeen lowest last old new
  then_seen lowest new n = record {
    forest = n.forest ∙ m.forest;
    turn = n.turn;
    core = n.core ∙ ap (λ (v : View). record v { turn = n.turn }) m.core;
    seen = λ x a b. go x a b (dec_le first x);
    before = λ x h. n.before x (mid_turn x (m.before x h));
    trees = λ x k h. n.trees x k (still_named x h) ∙ m.trees x k h;
    copy = keeps_on old.known mid.known new.known m.copy n.copy;
    known = n.known;
  }
    where
      mid_turn : (x : ℕ) → 0 < times x m.turn → 0 < times x mid.known.core.turn
      mid_turn x h = subst (λ (v : View). 0 < times x v.turn) (sym m.core) h

      go : (x : ℕ) → lowest ≤ x → x < last → Dec (first ≤ x) → 0 < times x n.turn
      go x a b (yes h) = n.before x (mid_turn x (m.seen x h b))
      go x a b (no h) = n.seen x a (omega arith)

  pub sizes_stay : mid.known.core.sizes.names ≡ old.known.core.sizes.names
  sizes_stay = ap (λ (v : View). v.sizes.names) m.core

-- a whole turn
pub all_seen : (old new : Standing) → HasSeen 2 old.known.core.sizes.names old new
    → HasSeenAll new.known.core
all_seen old new n = subst (λ (v : View). HasSeenAll v) (sym n.core) n.seen
