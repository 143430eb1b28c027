-- What the steps of a driven worker leave. Helpers of the tests
use Rattle.std.proofs.Common.{◌≡◌, ◌≢◌, ℕ, zero, suc, length-append, drop-cons, ◌+◌, ◌*◌, ◌^◌, ◌<◌}
use Rattle.std.proofs.Common.{◌≤◌, List, [], ◌∷◌, ◌++◌, map, cond, eqb, ltb, if◌then◌else◌, sum_by}
use Rattle.std.proofs.Common.{set, get_or, length, drop, Bool, true, false, Option, Some, None}
use Rattle.std.proofs.Common.{eq-eqb, ne_eqb, refl, sym, ap, subst, ◌∙◌, arith, inl, inr}
use Rattle.std.proofs.Common.{swap_remove}
use Rattle.std.proofs.lemmas.Bool.{lt-ltb, le-ltb}
use Rattle.std.proofs.lemmas.List.Sums.{sum_by-append, sum_by-cons, sum_by-swap_remove}
use native.Mathlib.Decide.{ℕ_discrete, dec_le}
use mathlib.Core.Option.{some}
use lib.ListN.{get_elem?}
use Rattle.eqc_tree.specs.Tree.{Tree, value}
use Rattle.eqc_tree.specs.Operation.{operate}
use Rattle.eqc_tree.specs.declared.operation.Op.{Op}
use Rattle.eqc_tree.specs.declared.operation.Op.TheVariants.{And}
use Rattle.eqc_core.specs.declared.phase.Phase.{Phase}
use Rattle.eqc_core.specs.declared.phase.Phase.TheVariants.{Idle, Seen, Announced, Confirmed}
use Rattle.eqc_core.specs.declared.phase.Phase.TheVariants.{Missed}
use Rattle.eqc_core.specs.View.{View, phase_at}
use Rattle.eqc_core.specs.Words.{times, result_of, announced_words, slots_of}
use Rattle.eqc_core.specs.State.{slots_from}
use Rattle.eqc_core.specs.Moves.{IsReady, IsQuiet, AreHeld, without, with_phase}
use Rattle.eqc_core.specs.Counting.{Knows, upped, downed}
use Rattle.eqc_core.specs.Announcing.{looked, rechecked, rechecked_phase, announced}
use Rattle.eqc_core.specs.Announcing.{announced_phase}
use Rattle.eqc_core.specs.Caching.{swapped}
use Rattle.eqc_core.specs.Scanning.{scanned}
use Rattle.eqc_core.specs.Seating.{IsAtRest}
use Rattle.eqc_core.proofs.Names.{times-append, times-cons, times-nil, times-same, times-other}
use Rattle.eqc_core.proofs.Names.{times-without, times-without_other, times-slots_of, times_more}
use Rattle.eqc_guard.specs.declared.reference.Ref.{Ref}
use Rattle.eqc_guard.specs.declared.filled.Filled.{Filled}
use Rattle.eqc_guard.specs.Known.{IsHeld, IsKnown, tree_of}
use Rattle.eqc_guard.specs.Standing.{Standing, Steps}
use Rattle.eqc_guard.specs.Telling.{HasFound}
use Rattle.eqc_guard.specs.Filling.{MaySwap, HasEntry, entry_names, word_of}
use Rattle.eqc_guard.proofs.Learning.{confirmed_named}
use Rattle.eqc_cache.specs.Storing.{Trades, IsRight}
use Rattle.eqc_cache.specs.Finding.{IsHit}
use Rattle.eqc_cache.proofs.Trading.{names_now, right_of}
use Rattle.eqc_worker_tests.specs.Driving.{references_of, AreCovered, IsAt, IsDriven, IsTriple}

abbrev one : ℕ → Ref → ℕ
one x r = cond (eqb r.number x) 1 0

-- the references are counted by their names
pub references_named : (x : ℕ) (refs : List Ref) → references_of x refs
    ≡ times x (map (λ (r : Ref). r.number) refs)
references_named x [] = sym (times-nil x)
references_named x (r ∷ refs) = omega (
  arith,
  sum_by-cons (one x) r refs,
  times-cons x r.number (map (λ (r : Ref). r.number) refs),
  references_named x refs,
)

pub all_covered : (refs : List Ref) (held : List ℕ) → map (λ (r : Ref). r.number) refs ≡ held
    → AreCovered refs held
all_covered refs held e x two = let t : times x (map (λ (r : Ref). r.number) refs) ≡ times x held =
    ap {B = ℕ} (times x) e in omega (arith, references_named x refs, t)

pub one_more : (x : ℕ) (r : Ref) (refs : List Ref) → references_of x (refs ++ r ∷ [])
    ≡ references_of x refs + cond (eqb r.number x) 1 0
one_more x r refs = omega (arith, sum_by-append (one x) refs (r ∷ []), sum_by-cons (one x) r [])

pub name_more : (x y : ℕ) (held : List ℕ) → times x (held ++ y ∷ []) ≡ times x held
    + cond (eqb y x) 1 0
name_more x y held = omega (arith, times-append x held (y ∷ []), times-cons x y [], times-nil x)

-- equal names count the same
abbrev pub hit : ℕ → ℕ → ℕ
hit x y = cond (eqb x y) 1 0

pub counts_same : (x y z : ℕ) → x ≡ y → hit x z ≡ hit y z
counts_same x y z e = ap {B = ℕ} (λ (n : ℕ). hit n z) e

pub counts_self : (x : ℕ) → 1 ≡ hit x x
counts_self x = sym (ap {B = ℕ} (λ (b : Bool). cond b 1 0) (eq-eqb x x refl))

-- a name came, and its reference
pub came : (x : ℕ) (r : Ref) (refs more : List Ref) (held : List ℕ) → r.number ≡ x
    → more ≡ refs ++ r ∷ [] → AreCovered refs held → AreCovered more (held ++ x ∷ [])
came x r refs more held e is covered = subst (λ (l : List Ref). AreCovered l (held ++ x ∷ []))
    (sym is) (λ y two.
    omega (arith, covered y two, one_more y r refs, name_more y x held, counts_same r.number x y e))

-- a reference is of a constant, or of a name that is held
pub is_held : (refs : List Ref) (v : View) (i : ℕ) (r : Ref) → AreCovered refs v.held
    → i < length refs → r ≡ get_or refs i r → IsHeld v r.number
is_held refs v i r covered lt e = go (dec_le 2 r.number)
  where
    go : Dec (2 ≤ r.number) → IsHeld v r.number
    go (no n) = inl (omega arith)
    go (yes two) =
        let f : hit r.number r.number ≡ hit (get_or refs i r).number r.number =
        ap {B = ℕ} (λ (q : Ref). cond (eqb q.number r.number) 1 0) e in
        inr (omega (
          arith,
          covered r.number two,
          sum_by-swap_remove (one r.number) refs i r lt,
          f,
          counts_self r.number,
        ))

-- a reference went, and its name
went : (x y : ℕ) (held : List ℕ) → 0 < times x held → Dec (x ≡ y) → times y (without x held)
    + cond (eqb x y) 1 0 ≡ times y held
went x y held there (yes e) =
    let w : 1 + times y (without x held) ≡ times y held =
    subst (λ (k : ℕ). 1 + times k (without x held) ≡ times k held) e
    (times-without x held there) in
    omega (arith, w, times-cons y x [], times-nil y, times-same y x [] e)
went x y held there (no n) = omega (
  arith,
  times-without_other y x held n,
  times-cons y x [],
  times-nil y,
  times-other y x [] n,
)

pub left : (refs rest : List Ref) (held : List ℕ) (i : ℕ) (r : Ref) → AreCovered refs held
    → i < length refs → r ≡ get_or refs i r →
    rest ≡ swap_remove refs i r → 0 < times r.number held → AreCovered rest (without r.number held)
left refs rest held i r covered lt e is there =
    subst (λ (l : List Ref). AreCovered l (without r.number held)) (sym is) (λ y two.
    let f : hit r.number y ≡ hit (get_or refs i r).number y =
    ap {B = ℕ} (λ (q : Ref). cond (eqb q.number y) 1 0) e in
    omega (
      arith,
      covered y two,
      sum_by-swap_remove (one y) refs i r lt,
      f,
      went r.number y held there (ℕ_discrete r.number y),
    ))

pub left_constant : (refs rest : List Ref) (held : List ℕ) (i : ℕ) (r : Ref) → AreCovered refs held
    → i < length refs → rest ≡ swap_remove refs i r → AreCovered rest held
left_constant refs rest held i r covered lt is = subst (λ (l : List Ref). AreCovered l held)
    (sym is) (λ y two.
    omega (arith, covered y two, sum_by-swap_remove (one y) refs i r lt))

-- a step that leaves the references: the phase and the place of the scan may be others
pub stands_as : (p q : Phase) (i j : ℕ) (v u : View) → IsAt p i v → u.sizes ≡ v.sizes
    → u.phases ≡ q ∷ Idle ∷ Idle ∷ Idle ∷ [] → u.position ≡ j → u.draft ≡ v.draft → u.hand ≡ v.hand
    → IsAt q j u
stands_as p q i j v u at sizes phases place draft hand = record {
  four_words = ap {B = ℕ} (λ z. z.announcements) sizes ∙ at.four_words;
  phases = phases;
  place = place;
  no_draft = draft ∙ at.no_draft;
  no_hand = hand ∙ at.no_hand;
}

pub phases_set : (p q : Phase) (i : ℕ) (v : View) → IsAt p i v → set v.phases 0 q ≡ q ∷ Idle ∷ Idle
    ∷ Idle ∷ []
phases_set p q i v at = ap (λ (l : List Phase). set l 0 q) at.phases

pub phase_is : (p : Phase) (i : ℕ) (v : View) → IsAt p i v → phase_at v 0 ≡ p
phase_is p i v at = ap (λ (l : List Phase). get_or l 0 Idle) at.phases

pub turns : (p q : Phase) (i : ℕ) (refs : List Ref) (old new : Standing) → IsDriven p i refs old
    → Steps old (with_phase old.known.core 0 q) new → IsDriven q i refs new
turns p q i refs old new d s = record {
  stands =
      subst (λ (v : View). IsAt q i v) (sym s.known.core)
      (stands_as p q i i old.known.core (with_phase old.known.core 0 q) d.stands refl
      (phases_set p q i old.known.core d.stands) d.stands.place refl refl);
  covered = subst (λ (v : View). AreCovered refs v.held) (sym s.known.core) d.covered;
}

pub finds_again : (c word i x found : ℕ) (refs : List Ref) (old new : Standing)
    → IsDriven (Announced c word) i refs old →
    Steps old (rechecked old.known.core 0 found) new → found ≡ word → x ≡ result_of word
    → IsDriven (Confirmed x) i refs new
finds_again c word i x found refs old new d s same is =
    turns (Announced c word) (Confirmed x) i refs old new d
    (subst (λ (p : Phase). Steps old (with_phase old.known.core 0 p) new)
    (ap (λ (p : Phase). rechecked_phase p found) (phase_is (Announced c word) i old.known.core
    d.stands)
    ∙ (ap (λ (b : Bool). if b then Confirmed (result_of word) else Missed (result_of word))
    (eq-eqb found word same) ∙ ap (λ (n : ℕ). Confirmed n) (sym is))) s)

pub finds_another : (c word i x found : ℕ) (refs : List Ref) (old new : Standing)
    → IsDriven (Announced c word) i refs old →
    Steps old (rechecked old.known.core 0 found) new → found ≢ word → x ≡ result_of word
    → IsDriven (Missed x) i refs new
finds_another c word i x found refs old new d s same is =
    turns (Announced c word) (Missed x) i refs old new d
    (subst (λ (p : Phase). Steps old (with_phase old.known.core 0 p) new)
    (ap (λ (p : Phase). rechecked_phase p found) (phase_is (Announced c word) i old.known.core
    d.stands)
    ∙ (ap (λ (b : Bool). if b then Confirmed (result_of word) else Missed (result_of word))
    (ne_eqb found word same) ∙ ap (λ (n : ℕ). Missed n) (sym is))) s)

pub ups : (p : Phase) (i x : ℕ) (r : Ref) (refs more : List Ref) (old new : Standing)
    → IsDriven p i refs old → r.number ≡ x →
    more ≡ refs ++ r ∷ [] → Steps old (upped old.known.core x) new → IsDriven p i more new
ups p i x r refs more old new d e is s = record {
  stands = subst (λ (v : View). IsAt p i v) (sym s.known.core) (stands_as p p i i old.known.core
      (upped old.known.core x) d.stands refl d.stands.phases d.stands.place refl refl);
  covered = subst (λ (v : View). AreCovered more v.held) (sym s.known.core)
      (came x r refs more old.known.core.held e is d.covered);
}

pub downs : (p : Phase) (j i : ℕ) (r : Ref) (refs rest : List Ref) (old new : Standing)
    → IsDriven p j refs old → i < length refs →
    r ≡ get_or refs i r → rest ≡ swap_remove refs i r → (r.number < 2 → new ≡ old)
    → (2 ≤ r.number → Steps old (downed old.known.core r.number) new) →
    IsDriven p j rest new
downs p j i r refs rest old new d lt e is same step =
    go (dec_le 2 r.number) (is_held refs old.known.core i r d.covered lt e)
  where
    go : Dec (2 ≤ r.number) → IsHeld old.known.core r.number → IsDriven p j rest new
    go (no n) h = subst (λ (s : Standing). IsDriven p j rest s) (sym (same (omega arith)))
        (record {
          stands = d.stands;
          covered = left_constant refs rest old.known.core.held i r
              d.covered lt is;
        })
    go (yes two) (inl small) = absurd (omega arith)
    go (yes two) (inr h) = let s = step two in record {
      stands = subst (λ (v : View). IsAt p j v) (sym s.known.core) (stands_as p p j j old.known.core
          (downed old.known.core r.number) d.stands refl d.stands.phases d.stands.place refl refl);
      covered = subst (λ (v : View). AreCovered rest v.held) (sym s.known.core)
          (left refs rest old.known.core.held i r d.covered lt e is h);
    }

-- a confirmed name is known to stay, and is there
pub confirmed_there : (p : Phase) (i x : ℕ) (v : View) → IsAt p i v → p ≡ Confirmed x
    → get_elem? v.phases 0 ≡ some (Confirmed x)
confirmed_there p i x v at e = ap (λ (l : List Phase). get_elem? l 0) at.phases
    ∙ ap (λ (q : Phase). some q) e

pub knows_confirmed : (p : Phase) (i x : ℕ) (v : View) → IsAt p i v → p ≡ Confirmed x → Knows v x
knows_confirmed p i x v at e = inr (inl (0, confirmed_there p i x v at e))

pub confirmed_below : (p : Phase) (i x : ℕ) (s : Standing) → IsAt p i s.known.core → IsKnown s.known
    → p ≡ Confirmed x → 2 ≤ x → x < s.known.core.sizes.names
confirmed_below p i x s at known e two =
    known.below x two (confirmed_named s.known.core 0 x (confirmed_there p i x s.known.core at e))

-- a name of a list, and the names behind it
pub there_is : (xs : List ℕ) (i : ℕ) → i < length xs → 0 < times (get_or xs i 0) xs
there_is [] i lt = absurd (omega arith)
there_is (x ∷ xs) zero lt = omega (arith, times-same x x xs refl)
there_is (x ∷ xs) (suc i) lt = times_more (get_or xs i 0) x xs (there_is xs i (omega arith))

pub dropped : (y : ℕ) (xs : List ℕ) (i : ℕ) → i < length xs → times y (drop i xs)
    ≡ cond (eqb (get_or xs i 0) y) 1 0 + times y (drop (i + 1) xs)
dropped y xs i lt =
    let e : suc i ≡ i + 1 = omega arith in
    let d : drop i xs ≡ get_or xs i 0 ∷ drop (i + 1) xs =
    subst (λ (n : ℕ). drop i xs ≡ get_or xs i 0 ∷ drop n xs) e (drop-cons xs i 0 lt) in
    let t : times y (drop i xs) ≡ times y (get_or xs i 0 ∷ drop (i + 1) xs) = ap {B = ℕ} (times y) d
    in
    omega (arith, t, times-cons y (get_or xs i 0) (drop (i + 1) xs))

-- an and of a name with itself is the name
both : (b : Bool) → operate And b b ≡ b
both true = refl
both false = refl

-- so an entry of one name may be given to a cell
module _ (x : ℕ) (e : Filled) (p : Phase) (i : ℕ) (refs : List Ref) (old mid : Standing)
    (t : IsTriple x e old mid) (d : IsDriven p i refs old) where
  abbrev three : List ℕ
  three = e.r.number ∷ e.f.number ∷ e.g.number ∷ []

  pub thrice : (y : ℕ) → times y mid.known.core.held ≡ times y old.known.core.held + times y three
  thrice y = subst (λ (v : View). times y v.held ≡ times y old.known.core.held + times y three)
      (sym t.core)
      (omega (
        arith,
        name_more y x ((old.known.core.held ++ x ∷ []) ++ x ∷ []),
        name_more y x (old.known.core.held ++ x ∷ []),
        name_more y x old.known.core.held,
        times-cons y e.r.number (e.f.number ∷ e.g.number ∷ []),
        times-cons y e.f.number (e.g.number ∷ []),
        times-cons y e.g.number [],
        times-nil y,
        counts_same e.r.number x y t.result,
        counts_same e.f.number x y t.first,
        counts_same e.g.number x y t.second,
      ))

  lengths : length mid.known.core.held ≡ length old.known.core.held + 3
  lengths = subst (λ (v : View). length v.held ≡ length old.known.core.held + 3) (sym t.core)
      (omega (
        arith,
        length-append ((old.known.core.held ++ x ∷ []) ++ x ∷ []) (x ∷ []),
        length-append (old.known.core.held ++ x ∷ []) (x ∷ []),
        length-append old.known.core.held
            (x ∷ []),
      ))

  pub stands_still : IsAt p i mid.known.core
  stands_still = subst (λ (v : View). IsAt p i v) (sym t.core) (stands_as p p i i old.known.core
      (upped (upped (upped old.known.core x) x) x) d.stands refl d.stands.phases d.stands.place refl
      refl)

  right : (a : ℕ → Bool) → operate e.op (value (tree_of mid.known e.f.number) a)
      (value (tree_of mid.known e.g.number) a) ≡ value (tree_of mid.known e.r.number) a
  right = subst (λ (o : Op). IsRight mid.known o e.f.number e.g.number e.r.number) (sym t.operation)
      (right_of mid.known And e.f.number e.g.number e.r.number x x x t.first t.second t.result
      (λ a. both (value (tree_of mid.known x) a)))

  pub may_fill : (c : ℕ) → i ≡ 0 → IsQuiet p → c < old.known.core.sizes.cells
      → length old.known.core.held ≤ 2 ^ 30 →
      length old.known.core.retired < 2 * announced_words old.known.core.sizes
      → MaySwap mid.known c (Some e)
  may_fill c rest quiet there room few = record {
    ready = stands_still.place ∙ rest;
    there = subst (λ (v : View). c < v.sizes.cells) (sym t.core) there;
    quiet = subst (λ (q : Phase). IsQuiet q) (sym (phase_is p i mid.known.core stands_still)) quiet;
    entry = (λ y two. omega (arith, thrice y), right);
    few = subst (λ (v : View). length v.retired < 2 * announced_words v.sizes) (sym t.core) few;
    room = omega (arith, lengths);
  }

-- a swap leaves the references covered where those that came are of the names that came
pub swap_driven : (p : Phase) (i found : ℕ) (filled : Option Filled) (came : List ℕ)
    (more : List Ref) (mid new : Standing) →
    IsAt p i mid.known.core → Steps mid (swapped mid.known.core found (word_of filled)) new
    → Trades (entry_names filled) came mid new
    → ((y : ℕ) → 2 ≤ y → references_of y more + times y (entry_names filled)
    ≤ times y mid.known.core.held + times y came) → IsDriven Idle i more new
swap_driven p i found filled came more mid new at s t balance = record {
  stands =
      subst (λ (v : View). IsAt Idle i v) (sym s.known.core)
      (stands_as p Idle i i mid.known.core (swapped mid.known.core found (word_of filled)) at refl
      (phases_set p Idle i mid.known.core at) at.place refl refl);
  covered = λ y two. omega (arith, balance y two, names_now (entry_names filled) came mid new t y);
}

-- two references came
pub two_more : (f g : Ref) (refs mid more : List Ref) (y : ℕ) → 2 ≤ y → mid ≡ refs ++ f ∷ []
    → more ≡ mid ++ g ∷ [] →
    references_of y more ≡ references_of y refs + times y (slots_of (f.number ∷ g.number ∷ []))
two_more f g refs mid more y two e is =
    let a : references_of y more ≡ references_of y (mid ++ g ∷ []) = ap {B = ℕ} (references_of y) is
    in
    let b : references_of y mid ≡ references_of y (refs ++ f ∷ []) = ap {B = ℕ} (references_of y) e
    in
    omega (
      arith,
      a,
      b,
      one_more y g mid,
      one_more y f refs,
      times-slots_of y (f.number ∷ g.number
          ∷ []) two,
      times-cons y f.number (g.number ∷ []),
      times-cons y g.number [],
      times-nil y,
    )

-- an entry's names, of the slots
pub entry_slots : (e : Filled) (y : ℕ) → 2 ≤ y → times y (entry_names (Some e))
    ≡ times y (e.r.number ∷ e.f.number ∷ e.g.number ∷ [])
entry_slots e y two = times-slots_of y (e.r.number ∷ e.f.number ∷ e.g.number ∷ []) two

-- a lookup found a result, and a look came after it
pub hit_driven : (p : Phase) (i : ℕ) (op : Op) (f g w : ℕ) (r : Ref) (refs more : List Ref)
    (old mid new : Standing) → IsDriven p i refs old →
    IsHit op f g r.number old mid → Steps mid (looked mid.known.core 0 0 w) new → more ≡ refs ++ r
    ∷ [] → IsDriven (Seen 0 w) i more new
hit_driven p i op f g w r refs more old mid new d h s is = record {
  stands = subst (λ (v : View). IsAt (Seen 0 w) i v) (sym (s.known.core
      ∙ ap (λ (v : View). looked v 0 0 w) h.core))
      (stands_as p (Seen 0 w) i i old.known.core (looked (record old.known.core {
        held =
            old.known.core.held ++ slots_of (r.number ∷ []);
        phases =
            set old.known.core.phases 0 h.phase;
      }) 0 0 w)
      d.stands refl (ap (λ (l : List Phase). set (set l 0 h.phase) 0 (Seen 0 w)) d.stands.phases)
      d.stands.place refl refl);
  covered = subst (λ (v : View). AreCovered more v.held) (sym (s.known.core
      ∙ ap (λ (v : View). looked v 0 0 w) h.core)) (λ y two.
      let a : references_of y more ≡ references_of y (refs ++ r ∷ []) =
      ap {B = ℕ} (references_of y) is in
      omega (
        arith,
        a,
        d.covered y two,
        one_more y r refs,
        times-append y old.known.core.held
            (slots_of (r.number ∷ [])),
        times-slots_of y (r.number ∷ []) two,
        times-cons y r.number [],
        times-nil y,
      ));
}

-- the word that was announced is the one that is found
pub same_word : (c word found : ℕ) (p : Phase) → p ≡ Announced c word → found ≡ word
    → HasFound p found
same_word c word found p is same d text e = same ∙ word_of_phase (sym is ∙ e)
  where
    second : Phase → ℕ
    second Idle = 0
    second (Seen a b) = 0
    second (Announced a b) = b
    second (Confirmed x) = 0
    second (Missed x) = 0

    word_of_phase : Announced c word ≡ Announced d text → word ≡ text
    word_of_phase q = ap second q

pub kept_more : (y : ℕ) (r : Ref) (refs more : List Ref) → more ≡ refs ++ r ∷ []
    → references_of y more ≡ references_of y refs + hit r.number y
kept_more y r refs more is = let a : references_of y more ≡ references_of y (refs ++ r ∷ []) =
    ap {B = ℕ} (references_of y) is in omega (arith, a, one_more y r refs)

-- names that came out of a scan
pub came_out : (refs : List Ref) (old new ejected : List ℕ) → AreCovered refs old
    → new ≡ old ++ ejected → (x : ℕ) → 2 ≤ x → references_of x refs + times x ejected ≤ times x new
came_out refs old new ejected covered e x two = let t : times x new ≡ times x (old ++ ejected) =
    ap {B = ℕ} (times x) e in omega (arith, t, covered x two, times-append x old ejected)

pub among : (x : ℕ) (old new ejected : List ℕ) → new ≡ old ++ ejected → 0 < times x ejected
    → 0 < times x new
among x old new ejected e there = let t : times x new ≡ times x (old ++ ejected) =
    ap {B = ℕ} (times x) e in omega (arith, t, times-append x old ejected)

pub nothing_came : (y : ℕ) → times y [] ≡ 0
nothing_came y = times-nil y

-- a cell may be emptied
pub may_empty : (p : Phase) (i : ℕ) (refs : List Ref) (s : Standing) → IsDriven p i refs s → (c : ℕ)
    → i ≡ 0 → IsQuiet p →
    c < s.known.core.sizes.cells → length s.known.core.held ≤ 2 ^ 30 → length s.known.core.retired
    < 2 * announced_words s.known.core.sizes →
    MaySwap s.known c None
may_empty p i refs s d c rest quiet there room few = record {
  ready = d.stands.place ∙ rest;
  there = there;
  quiet = subst (λ (q : Phase). IsQuiet q) (sym (phase_is p i s.known.core d.stands)) quiet;
  entry = tt;
  few = few;
  room = omega arith;
}
