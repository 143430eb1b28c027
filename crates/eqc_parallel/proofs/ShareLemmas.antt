-- What a member's draws come to, and two shares put together.
use Rattle.std.proofs.Common.{◌≡◌, ◌≢◌, ℕ, zero, suc, ◌+◌, ◌-◌, ◌<◌, ◌≤◌, Bool, true, false}
use Rattle.std.proofs.Common.{true≢false, not, ◌&&◌, IsTrue, List, [], ◌∷◌, ◌++◌, length, Option}
use Rattle.std.proofs.Common.{Some, None, Vec, Global, All, eqb, ltb, if◌then◌else◌, eq-eqb, ne_eqb}
use Rattle.std.proofs.Common.{lt-ltb, le-ltb, refl, sym, ap, ap₂, subst, ◌∙◌, arith}
use native.Mathlib.Decide.{dec_le}
use Rattle.std.specs.Option.{option_map}
use Rattle.std.proofs.lemmas.List.{append-nil, map-append}
use Rattle.std.proofs.lemmas.Option.{none-some}
use Rattle.atomic_table.specs.Seated.{TableId}
use Rattle.atomic_table.specs.declared.shared.Seat.{Seat}
use Rattle.eqc_parallel.specs.declared.ticket.View.{View}
use Rattle.eqc_parallel.specs.declared.verdict.Finding.{Finding}
use Rattle.eqc_parallel.specs.declared.verdict.Finding.TheVariants.{Equal, Differs, Behind}
use Rattle.eqc_parallel.specs.declared.verdict.Verdict.{Verdict}
use Rattle.eqc_parallel.specs.Ticket.{drew, both, IsSeat, IsAbove, strangers, times, once_below}
use Rattle.eqc_compare.specs.Comparing.{difference_at, is_chosen_at}
use Rattle.eqc_compare.proofs.ToldLaws.{told_chosen}
use Rattle.eqc_parallel.specs.Verdicts.{Question, DiffersBefore, IsFoundAt, tells_difference}
use Rattle.eqc_parallel.specs.Verdicts.{insiders, IsRight, IsShare, IsWork}
use Rattle.eqc_parallel.proofs.TicketCounts.{times-append, strangers-append}

pub insiders-append : (m : ℕ) (xs ys : List ℕ) → insiders m (xs ++ ys) ≡ insiders m xs
    ++ insiders m ys
insiders-append m [] ys = refl
insiders-append m (x ∷ xs) ys = go (insiders-append m xs ys) (dec_le (suc x) m)
  where
    go : insiders m (xs ++ ys) ≡ insiders m xs ++ insiders m ys → Dec (suc x ≤ m)
        → insiders m (x ∷ xs ++ ys) ≡ insiders m (x ∷ xs) ++ insiders m ys
    go r (yes lt) = rw (lt-ltb x m lt) (ap (λ l. x ∷ l) r)
    go r (no nl) = rw (le-ltb x m (omega arith)) r

times-one : (x : ℕ) → times x (x ∷ []) ≡ 1
times-one x = rw (eq-eqb x x refl) refl

-- a difference before an output is one before each later output
pub differs_later : (q : Question) (o n : ℕ) → o ≤ n → DiffersBefore q o → DiffersBefore q n
differs_later q o n le d = (d.0, (d.1.0, omega (arith, d.1.1), d.1.2))

-- what was found at an output tells of a difference up to there, where the first alone is asked for
pub knows_more : (q : Question) (o : ℕ) (found : Finding) → q.every ≡ false → IsFoundAt q o found
    → IsTrue (tells_difference found) → DiffersBefore q (o + 1)
knows_more q o Equal one is tells = absurd (true≢false (sym tells))
knows_more q o (Differs values) one is tells =
    (one, (o, omega arith, λ none. none-some values.items (sym none ∙ is)))
knows_more q o Behind one is tells = differs_later q o (o + 1) (omega arith) is

pub knows_of : (q : Question) (o : ℕ) (found : Finding) → IsFoundAt q o found
    → IsTrue (not q.every && tells_difference found) → DiffersBefore q (o + 1)
knows_of q o found is tells = by q.every refl
  where
    by : (b : Bool) → q.every ≡ b → DiffersBefore q (o + 1)
    by true e = absurd (true≢false (sym (rw e at tells)))
    by false e = knows_more q o found e is (rw e at tells)

-- what a comparison answers of a chosen output is what is found
pub none_found_at : (q : Question) (o : ℕ) (found : Option (Vec Bool Global))
    → is_chosen_at q.pair o ≡ true →
    option_map (λ v. v.items) found ≡ difference_at q.pair o → found ≡ None → IsFoundAt q o Equal
none_found_at q o found chosen e none = told_chosen q.pair o chosen
    ∙ (sym e ∙ ap (option_map (λ v. v.items)) none)

pub some_found_at : (q : Question) (o : ℕ) (found : Option (Vec Bool Global))
    (values : Vec Bool Global) → is_chosen_at q.pair o ≡ true →
    option_map (λ v. v.items) found ≡ difference_at q.pair o → found ≡ Some values
    → IsFoundAt q o (Differs values)
some_found_at q o found values chosen e is = told_chosen q.pair o chosen
    ∙ (sym e ∙ ap (option_map (λ v. v.items)) is)

module _ (q : Question) (id : TableId) (least n : ℕ) (behind : Bool) (seat after : Seat ℕ View)
    (vs : List Verdict) (h : IsWork q id least behind seat vs) where
  -- a member's draws rise
  pub lower : IsAbove n seat.me.0.drawn → least ≤ n
  lower above = go least h.last
    where
      go : (l : ℕ) → ((x : ℕ) → l ≡ x + 1 → 0 < times x seat.me.0.drawn) → l ≤ n
      go zero last = omega arith
      go (suc x) last = let a = above x (last x (omega arith)) in omega arith

  -- so what it knows holds of its next draw
  pub knows_on : IsAbove n seat.me.0.drawn → IsTrue behind → DiffersBefore q n
  knows_on above is = differs_later q least n (lower above) (h.knows is)

  -- an output was drawn, and has its verdict
  pub goes : IsSeat id after → after.me.0 ≡ drew seat.me.0 n → n < length q.pair.first.outputs
      → (v : Verdict) → v.output ≡ n → IsRight q v →
      All (IsRight q) (vs ++ v ∷ [])
      → IsWork q id (n + 1) (not q.every && tells_difference v.finding) after (vs ++ v ∷ [])
  goes own is lt v at right all = record {
    own = own;
    seats = ap (λ (u : View). u.seats) is ∙ h.seats;
    going = rw is (omega (
      arith,
      strangers-append (length q.pair.first.outputs) seat.me.0.drawn (n
          ∷ []),
      inside,
      h.going,
    ));
    each =
        rw is (map-append (λ (u : Verdict). u.output) vs (v ∷ [])
        ∙ ap₂ ◌++◌ h.each (ap (λ (k : ℕ). k ∷ []) at ∙ sym one)
        ∙ sym (insiders-append (length q.pair.first.outputs) seat.me.0.drawn (n ∷ [])));
    right = all;
    below = omega arith;
    last = λ x e. let q : n ≡ x = omega arith in
        rw is (subst (λ (k : ℕ). 0 < times k (seat.me.0.drawn ++ n ∷ [])) q
        (omega (arith, times-append n seat.me.0.drawn (n ∷ []), times-one n)));
    knows = λ tells. subst (λ (o : ℕ). DiffersBefore q (o + 1)) at (knows_of q v.output v.finding
        right tells);
  }
    where
      inside : strangers (length q.pair.first.outputs) (n ∷ []) ≡ 0
      inside = rw (lt-ltb n (length q.pair.first.outputs) lt) refl

      one : insiders (length q.pair.first.outputs) (n ∷ []) ≡ n ∷ []
      one = rw (lt-ltb n (length q.pair.first.outputs) lt) refl

  -- a number was drawn that is no output
  pub ends : IsSeat id after → after.me.0 ≡ drew seat.me.0 n → length q.pair.first.outputs ≤ n
      → IsShare q id 1 after vs
  ends own is le = record {
    own = own;
    seats = ap (λ (u : View). u.seats) is ∙ h.seats;
    done = rw is (omega (
      arith,
      strangers-append (length q.pair.first.outputs) seat.me.0.drawn (n
          ∷ []),
      outside,
      h.going,
    ));
    each =
        rw is (h.each
        ∙ sym (insiders-append (length q.pair.first.outputs) seat.me.0.drawn (n ∷ [])
        ∙ (ap (λ l. insiders (length q.pair.first.outputs) seat.me.0.drawn ++ l) none
        ∙ append-nil (insiders (length q.pair.first.outputs) seat.me.0.drawn))));
    right = h.right;
  }
    where
      outside : strangers (length q.pair.first.outputs) (n ∷ []) ≡ 1
      outside = rw (le-ltb n (length q.pair.first.outputs) le) refl

      none : insiders (length q.pair.first.outputs) (n ∷ []) ≡ []
      none = rw (le-ltb n (length q.pair.first.outputs) le) refl

-- two shares put together
pub joined : (q : Question) (id : TableId) (a b : ℕ) (seat other after : Seat ℕ View)
    (vs ws : List Verdict) → IsShare q id a seat vs →
    IsShare q id b other ws → IsSeat id after → after.me.0 ≡ both seat.me.0 other.me.0
    → All (IsRight q) (vs ++ ws) →
    IsShare q id (a + b) after (vs ++ ws)
joined q id a b seat other after vs ws h k own is all = record {
  own = own;
  seats = ap (λ (u : View). u.seats) is ∙ ap₂ ◌+◌ h.seats k.seats;
  done = rw is (strangers-append (length q.pair.first.outputs) seat.me.0.drawn other.me.0.drawn
      ∙ ap₂ ◌+◌ h.done k.done);
  each = rw is (map-append (λ (u : Verdict). u.output) vs ws ∙ (ap₂ ◌++◌ h.each k.each
      ∙ sym (insiders-append (length q.pair.first.outputs) seat.me.0.drawn other.me.0.drawn)));
  right = all;
}

times-insiders : (m x : ℕ) (xs : List ℕ) → times x (insiders m xs)
    ≡ (if ltb x m then times x xs else 0)
times-insiders m x [] = go (dec_le (suc x) m)
  where
    go : Dec (suc x ≤ m) → times x [] ≡ (if ltb x m then times x [] else 0)
    go (yes lt) = rw (lt-ltb x m lt) refl
    go (no nl) = rw (le-ltb x m (omega arith)) refl
times-insiders m x (y ∷ xs) = go (times-insiders m x xs) (dec_le (suc x) m) (dec_le (suc y) m)
  where
    apart : (a b : ℕ) → suc a ≤ m → ¬ (suc b ≤ m) → a ≢ b
    apart a b lt nl e = nl (subst (λ k. suc k ≤ m) e lt)

    go : times x (insiders m xs) ≡ (if ltb x m then times x xs else 0) → Dec (suc x ≤ m)
        → Dec (suc y ≤ m) → times x (insiders m (y ∷ xs))
        ≡ (if ltb x m then times x (y ∷ xs) else 0)
    go r (yes a) (yes b) = let r' : times x (insiders m xs) ≡ times x xs = r
        ∙ rw (lt-ltb x m a) refl in
        rw (lt-ltb x m a, lt-ltb y m b) (ap (λ k. (if eqb y x then 1 else 0) + k) r')
    go r (yes a) (no b) = let r' : times x (insiders m xs) ≡ times x xs = r ∙ rw (lt-ltb x m a) refl
        in
        rw (lt-ltb x m a, le-ltb y m (omega arith), ne_eqb y x (λ e. apart x y a b (sym e)))
        (omega (arith, r'))
    go r (no a) (yes b) = let r' : times x (insiders m xs) ≡ 0 = r
        ∙ rw (le-ltb x m (omega arith)) refl in rw (
          le-ltb x m (omega arith),
          lt-ltb y m b,
          ne_eqb y x (apart y x b a),
        ) (omega (arith, r'))
    go r (no a) (no b) = let r' : times x (insiders m xs) ≡ 0 = r
        ∙ rw (le-ltb x m (omega arith)) refl in
        rw (le-ltb x m (omega arith), le-ltb y m (omega arith)) r'

-- where the numbers drawn are those below w, each once, and one at least is no output, each output
-- was drawn once
pub outputs_once : (m w : ℕ) (xs : List ℕ) → ((x : ℕ) → times x xs ≡ once_below x w)
    → strangers m xs ≡ w - m → 1 ≤ strangers m xs → (x : ℕ) → times x (insiders m xs)
    ≡ once_below x m
outputs_once m w xs once beyond some x = times-insiders m x xs ∙ go (dec_le (suc x) m)
  where
    go : Dec (suc x ≤ m) → (if ltb x m then times x xs else 0) ≡ (if ltb x m then 1 else 0)
    go (yes a) = rw (lt-ltb x m a) (once x ∙ rw (lt-ltb x w (omega arith)) refl)
    go (no a) = rw (le-ltb x m (omega arith)) refl
