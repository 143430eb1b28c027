-- What the calls of a worker that has snapshots out leave. Helpers of the tests
use Rattle.std.proofs.Common.{◌≡◌, ◌≢◌, ◌⊎◌, ⊎_elim, ℕ, zero, suc, ◌+◌, ◌<◌, ◌≤◌, List, [], ◌∷◌}
use Rattle.std.proofs.Common.{◌++◌, get_or, set, length, Option, Some, None, IfSome, refl, sym, ap}
use Rattle.std.proofs.Common.{subst, ◌∙◌, arith, inl, inr, swap_remove}
use Rattle.std.proofs.lemmas.List.Sums.{sum_by-swap_remove}
use mathlib.Core.Option.{some, some-injective, some-ne-none}
use native.Mathlib.Decide.{ℕ_discrete, dec_le}
use lib.ListN.{get_elem?}
use Rattle.eqc_tree.specs.declared.operation.Op.{Op}
use Rattle.eqc_core.specs.declared.phase.Phase.{Phase}
use Rattle.eqc_core.specs.declared.phase.Phase.TheVariants.{Idle, Seen, Announced, Confirmed}
use Rattle.eqc_core.specs.declared.phase.Phase.TheVariants.{Missed}
use Rattle.eqc_core.specs.View.{View, phase_at}
use Rattle.eqc_core.specs.Words.{times, slots_of}
use Rattle.eqc_core.specs.Moves.{IsQuiet}
use Rattle.eqc_core.specs.Announcing.{MayLook}
use Rattle.eqc_core.proofs.Lists.{at_get, get_at, at_below}
use Rattle.eqc_core.proofs.Names.{times-append, times-cons, times-nil, times-slots_of}
use Rattle.eqc_guard.specs.declared.reference.Ref.{Ref}
use Rattle.eqc_guard.specs.Snapshots.{IsSnapshot, IsFree, KeepsSnapshots, KeepsOthers}
use Rattle.eqc_guard.specs.Standing.{Standing}
use Rattle.eqc_guard.specs.Acquiring.{IsAt}
use Rattle.eqc_cache.specs.declared.peeking.Snapshot.{Snapshot}
use Rattle.eqc_cache.specs.Peeking.{IsOut, Passes, IsPeeked, IsKept}
use Rattle.eqc_cache.proofs.Snapshots.{passes_keep, peek_keeps, out_now, is_snapshot}
use Rattle.eqc_arena.specs.Changing.{MayBegin, Exchanges}
use Rattle.eqc_arena.proofs.Changing.{names_now, quiet_now}
use Rattle.eqc_node_tests.specs.Making.{references_of, announces, IsMaking}
use Rattle.eqc_node_tests.specs.Peeking.{confirmed_in, IsConfirmed, IsPeeking}
use Rattle.eqc_node_tests.proofs.Making.{AreCovered, one, one_more, silent_quiet, quiet_silent}
use Rattle.eqc_node_tests.proofs.Making.{quiet_first}

-- a phase that has confirmed a node is that of the node
confirmed_is : (p : Phase) (x : ℕ) → 2 ≤ x → confirmed_in p ≡ x → p ≡ Confirmed x
confirmed_is Idle x two e = absurd (omega arith)
confirmed_is (Seen c word) x two e = absurd (omega arith)
confirmed_is (Announced c word) x two e = absurd (omega arith)
confirmed_is (Confirmed y) x two e = ap Confirmed e
confirmed_is (Missed y) x two e = absurd (omega arith)

-- the two ways to say that a snapshot is out
is_out : (v : View) (p : Snapshot) → 2 ≤ p.number → IsConfirmed v p → IsSnapshot v p.word p.number
is_out v p two c = (
  c.0,
  two,
  get_at v.phases p.word Idle c.1
      ∙ ap some (confirmed_is (phase_at v p.word) p.number two c.2),
)

is_confirmed : (v : View) (p : Snapshot) → IsSnapshot v p.word p.number → IsConfirmed v p
is_confirmed v p is = (
  is.0,
  at_below v.phases p.word (Confirmed p.number) is.2,
  ap confirmed_in (at_get v.phases p.word (Confirmed p.number) Idle is.2),
)

-- a list with one more at its end, by its places
module _ {A : Type 0} where
  before_last : (xs : List A) (a : A) (i : ℕ) (b : A) → get_elem? xs i ≡ some b
      → get_elem? (xs ++ a ∷ []) i ≡ some b
  before_last [] a i b e = absurd (some-ne-none b (sym e))
  before_last (x ∷ xs) a zero b e = e
  before_last (x ∷ xs) a (suc i) b e = before_last xs a i b e

  at_last : (xs : List A) (a : A) → get_elem? (xs ++ a ∷ []) (length xs) ≡ some a
  at_last [] a = refl
  at_last (x ∷ xs) a = at_last xs a

  last_or_before : (xs : List A) (a : A) (i : ℕ) (b : A) → get_elem? (xs ++ a ∷ []) i ≡ some b
      → (get_elem? xs i ≡ some b) ⊎ ((i ≡ length xs) × (a ≡ b))
  last_or_before [] a zero b e = inr (refl, some-injective a b e)
  last_or_before [] a (suc i) b e = absurd (some-ne-none b (sym e))
  last_or_before (x ∷ xs) a zero b e = inl e
  last_or_before (x ∷ xs) a (suc i) b e = ⊎_elim (λ t. inl t) (λ t. inr (ap suc t.0, t.1))
      (last_or_before xs a i b e)

-- the first phase is quiet where it was, or was set to a quiet one
first_after : (ps : List Phase) (k : ℕ) (p : Phase) → (k ≡ 0 → IsQuiet p)
    → IsQuiet (get_or ps 0 Idle) → IsQuiet (get_or (set ps k p) 0 Idle)
first_after [] k p sets quiet = tt
first_after (o ∷ ps) zero p sets quiet = sets refl
first_after (o ∷ ps) (suc k) p sets quiet = quiet

-- a worker at rest has none out
pub none_out : (v : ℕ) (refs : List Ref) (s : Standing) → IsMaking v refs s → IsPeeking refs [] s
none_out v refs s m = record {
  place = m.rests.place;
  first = quiet_silent (phase_at s.known.core 0) (quiet_first s.known.core.phases m.rests.silent);
  no_draft = m.rests.no_draft;
  no_hand = m.rests.no_hand;
  four_words = m.four_words;
  cells = m.cells;
  covered = m.covered;
  out = λ i p e two. absurd (some-ne-none p (sym e));
  apart = λ i j p q lt e. absurd (some-ne-none p (sym e));
}

module _ (refs : List Ref) (snaps : List Snapshot) (s : Standing) (m : IsPeeking refs snaps s) where
  pub may_peek : MayLook s.known.core 0 0
  may_peek = (
    m.place,
    omega (arith, m.four_words),
    m.cells,
    silent_quiet (phase_at s.known.core 0)
        m.first,
  )

  pub may_begin : MayBegin s.known.core
  may_begin = record {
    ready = m.place;
    quiet = silent_quiet (phase_at s.known.core 0) m.first;
    no_draft = m.no_draft;
    no_hand = m.no_hand;
  }

  -- each in the list is out
  pub each_out : (i : ℕ) (p : Snapshot) → get_elem? snaps i ≡ some p → IsOut s.known.core p
  each_out i p e = go (dec_le 2 p.number)
    where
      go : Dec (2 ≤ p.number) → IsOut s.known.core p
      go (yes two) = inr (is_out s.known.core p two (m.out i p e two))
      go (no n) = inl (omega arith)

  -- so is each after a call that keeps snapshots
  still_out : (new : Standing) → KeepsSnapshots s.known new.known → (i : ℕ) (p : Snapshot)
      → get_elem? snaps i ≡ some p → 2 ≤ p.number → IsConfirmed new.known.core p
  still_out new keeps i p e two =
      is_confirmed new.known.core p (keeps p.word p.number (is_out s.known.core p two
      (m.out i p e two))).0

  -- names came and went
  pub peeks_on : (gone came : List ℕ) (more : List Ref) (new : Standing) → Exchanges gone came s new
      → AreCovered more new.known.core.held → IsPeeking more snaps new
  peeks_on gone came more new t covered = record {
    place = ap (λ (v : View). v.position) t.core ∙ m.place;
    first = quiet_silent (phase_at new.known.core 0)
        (quiet_now t (silent_quiet (phase_at s.known.core 0) m.first));
    no_draft = ap (λ (v : View). v.draft) t.core ∙ m.no_draft;
    no_hand = ap (λ (v : View). v.hand) t.core ∙ m.no_hand;
    four_words = ap (λ (v : View). v.sizes.announcements) t.core ∙ m.four_words;
    cells = subst (λ (v : View). 0 < v.sizes.cells) (sym t.core) m.cells;
    covered = covered;
    out = still_out new t.snapshots;
    apart = m.apart;
  }

  pub peeks_still : (new : Standing) → Exchanges [] [] s new → IsPeeking refs snaps new
  peeks_still new t = peeks_on [] [] refs new t (λ y two. omega (
    arith,
    m.covered y two,
    names_now t y,
  ))

  -- a reference went
  pub peeks_fewer : (i : ℕ) (r : Ref) (left : List Ref) (new : Standing)
      → Exchanges (slots_of (r.number ∷ [])) [] s new → i < length refs → r ≡ get_or refs i r
      → left ≡ swap_remove refs i r
      → IsPeeking left snaps new
  unfolding one
  peeks_fewer i r left new t lt e is = peeks_on (slots_of (r.number ∷ [])) [] left new t (λ y two.
      let a : references_of y left ≡ references_of y (swap_remove refs i r) =
      ap {B = ℕ} (references_of y) is in
      let f : one y r ≡ one y (get_or refs i r) = ap {B = ℕ} (one y) e in
      omega (
        arith,
        a,
        f,
        m.covered y two,
        sum_by-swap_remove (one y) refs i r lt,
        names_now t y,
        times-nil y,
        times-slots_of y (r.number ∷ []) two,
        times-cons y r.number [],
      ))

  -- a reference of what a snapshot is of came
  pub peeks_kept : (r : Ref) (more : List Ref) (new : Standing) → IsKept r.number s new
      → more ≡ refs ++ r ∷ [] → IsPeeking more snaps new
  peeks_kept r more new k is = record {
    place = ap (λ (v : View). v.position) k.core ∙ m.place;
    first = ap (λ (v : View). announces (phase_at v 0)) k.core ∙ m.first;
    no_draft = ap (λ (v : View). v.draft) k.core ∙ m.no_draft;
    no_hand = ap (λ (v : View). v.hand) k.core ∙ m.no_hand;
    four_words = ap (λ (v : View). v.sizes.announcements) k.core ∙ m.four_words;
    cells = subst (λ (v : View). 0 < v.sizes.cells) (sym k.core) m.cells;
    covered = subst (λ (v : View). AreCovered more v.held) (sym k.core) (λ y two.
        let a : references_of y more ≡ references_of y (refs ++ r ∷ []) =
        ap {B = ℕ} (references_of y) is in
        omega (
          arith,
          a,
          m.covered y two,
          one_more y r refs,
          times-append y s.known.core.held
              (slots_of (r.number ∷ [])),
          times-slots_of y (r.number ∷ []) two,
          times-cons y r.number [],
          times-nil y,
        ));
    out = still_out new k.snapshots;
    apart = m.apart;
  }

  -- the phase of one word was set
  module _ (k : ℕ) (p : Phase) (new : Standing) (a : IsAt k p s new) (first : k ≡ 0
      → IsQuiet p) (left : List Snapshot)
      (out : (i : ℕ) (q : Snapshot) → get_elem? left i ≡ some q → 2 ≤ q.number
      → IsConfirmed new.known.core q)
      (apart : (i j : ℕ) (q r : Snapshot) → i < j → get_elem? left i ≡ some q → get_elem? left j
      ≡ some r → 2 ≤ q.number → 2 ≤ r.number → q.word ≢ r.word) where
    peeks_set : IsPeeking refs left new
    peeks_set = record {
      place = ap (λ (v : View). v.position) a.core ∙ m.place;
      first = quiet_silent (phase_at new.known.core 0)
          (subst (λ (v : View). IsQuiet (phase_at v 0)) (sym a.core)
          (first_after s.known.core.phases k p first (silent_quiet (phase_at s.known.core 0)
          m.first)));
      no_draft = ap (λ (v : View). v.draft) a.core ∙ m.no_draft;
      no_hand = ap (λ (v : View). v.hand) a.core ∙ m.no_hand;
      four_words = ap (λ (v : View). v.sizes.announcements) a.core ∙ m.four_words;
      cells = subst (λ (v : View). 0 < v.sizes.cells) (sym a.core) m.cells;
      covered = subst (λ (v : View). AreCovered refs v.held) (sym a.core) m.covered;
      out = out;
      apart = apart;
    }

  -- none was taken
  pub peeks_none : (new : Standing) → Passes s new → IsPeeking refs snaps new
  peeks_none new p = peeks_set p.word p.passed.phase new p.passed.stands (λ e. p.passed.quiet) snaps
      (still_out new (passes_keep s new p).0) m.apart

  -- one was taken: by a word that announced nothing, so by another one than those that are out
  module _ (op : Op) (f g : ℕ) (q : Snapshot) (new : Standing) (peeked : IsPeeked op f g q s new)
    where
      other_word : (i : ℕ) (p : Snapshot) → get_elem? snaps i ≡ some p → 2 ≤ p.number → 2 ≤ q.number
          → p.word ≢ q.word
      other_word i p e two many same =
          let free : IsQuiet (phase_at s.known.core q.word) = (peeked.node many).0.2 in
          let is : phase_at s.known.core p.word ≡ Confirmed p.number =
          confirmed_is (phase_at s.known.core p.word) p.number two (m.out i p e two).2 in
          subst (λ (o : Phase). IsQuiet o) (ap (λ (k : ℕ). phase_at s.known.core k) (sym same)
          ∙ is) free

      all_out : (i : ℕ) (p : Snapshot) → get_elem? (snaps ++ q ∷ []) i ≡ some p → 2 ≤ p.number
          → IsConfirmed new.known.core p
      all_out i p e two = ⊎_elim
          (λ t. still_out new (peek_keeps op f g q s new peeked).0 i p t two)
          (λ t. let many : 2 ≤ q.number = subst (λ (o : Snapshot). 2 ≤ o.number) (sym t.1) two in
          subst (λ (o : Snapshot). IsConfirmed new.known.core o) t.1 (is_confirmed new.known.core q
          (is_snapshot new.known.core q (out_now op f g q s new peeked) many)))
          (last_or_before snaps q i p e)

      all_apart : (i j : ℕ) (p r : Snapshot) → i < j → get_elem? (snaps ++ q ∷ []) i ≡ some p
          → get_elem? (snaps ++ q ∷ []) j ≡ some r → 2 ≤ p.number → 2 ≤ r.number → p.word ≢ r.word
      all_apart i j p r lt e h two many = ⊎_elim
          (λ t. ⊎_elim
          (λ u. m.apart i j p r lt t u two many)
          (λ u. subst (λ (o : Snapshot). p.word ≢ o.word) u.1
          (other_word i p t two (subst (λ (o : Snapshot). 2 ≤ o.number) (sym u.1) many)))
          (last_or_before snaps q j r h))
          (λ t. absurd (⊎_elim
          (λ u. let below = at_below snaps j r u in let at = t.0 in omega arith)
          (λ u. let at = t.0 in let too = u.0 in omega arith)
          (last_or_before snaps q j r h)))
          (last_or_before snaps q i p e)

      pub peeks_more : (more : List Snapshot) → more ≡ snaps ++ q ∷ [] → IsPeeking refs more new
      peeks_more more is = subst (λ (l : List Snapshot). IsPeeking refs l new) (sym is)
          (go (dec_le 2 q.number))
        where
          go : Dec (2 ≤ q.number) → IsPeeking refs (snaps ++ q ∷ []) new
          go (yes two) = let n = peeked.node two in
              peeks_set q.word (Confirmed q.number) new n.1 (λ e. absurd (let far = n.0.0 in
              omega arith)) (snaps ++ q ∷ []) all_out all_apart
          go (no n) = let c = peeked.constant (omega arith) in peeks_set c.word c.passed.phase new
              c.passed.stands (λ e. c.passed.quiet) (snaps ++ q ∷ []) all_out all_apart

-- the last one is given back
module _ (refs : List Ref) (snaps left : List Snapshot) (q : Snapshot) (s : Standing)
    (m : IsPeeking refs snaps s) (is : snaps ≡ left ++ q ∷ []) where
  pub last_out : IsOut s.known.core q
  last_out = each_out refs snaps s m (length left) q
      (ap (λ (l : List Snapshot). get_elem? l (length left)) is ∙ at_last left q)

  there : (i : ℕ) (p : Snapshot) → get_elem? left i ≡ some p → get_elem? snaps i ≡ some p
  there i p e = ap (λ (l : List Snapshot). get_elem? l i) is ∙ before_last left q i p e

  left_apart : (i j : ℕ) (p r : Snapshot) → i < j → get_elem? left i ≡ some p → get_elem? left j
      ≡ some r → 2 ≤ p.number → 2 ≤ r.number → p.word ≢ r.word
  left_apart i j p r lt e h = m.apart i j p r lt (there i p e) (there j r h)

  module _ (new : Standing) (still : q.number < 2 → new ≡ s) (gone : 2 ≤ q.number
      → IsAt q.word Idle s new) where
    left_out : 2 ≤ q.number → (i : ℕ) (p : Snapshot) → get_elem? left i ≡ some p → 2 ≤ p.number
        → IsConfirmed new.known.core p
    left_out many i p e two =
        let other : p.word ≢ q.word =
        m.apart i (length left) p q (at_below left i p e) (there i p e)
        (ap (λ (l : List Snapshot). get_elem? l (length left)) is ∙ at_last left q) two many in
        is_confirmed new.known.core p ((gone many).others p.word p.number other
        (is_out s.known.core p two (m.out i p (there i p e) two))).0

    pub peeks_fewer_out : IsPeeking refs left new
    peeks_fewer_out = go (dec_le 2 q.number)
      where
        go : Dec (2 ≤ q.number) → IsPeeking refs left new
        go (yes two) = peeks_set refs snaps s m q.word Idle new (gone two) (λ e. tt) left
            (left_out two) left_apart
        go (no n) = subst (λ (t : Standing). IsPeeking refs left t) (sym (still (omega arith)))
            (record {
              place = m.place;
              first = m.first;
              no_draft = m.no_draft;
              no_hand = m.no_hand;
              four_words = m.four_words;
              cells = m.cells;
              covered = m.covered;
              out = λ i p e two. m.out i p (there i p e) two;
              apart = left_apart;
            })
