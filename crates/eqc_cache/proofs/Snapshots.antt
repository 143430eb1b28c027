-- A snapshot is taken, kept and given back.
use Rattle.std.proofs.Common.{◌≡◌, ◌≢◌, ◌↔◌, ⊎_elim, ℕ, zero, suc, ◌+◌, ◌^◌, ◌<◌, ◌≤◌, ◌⊎◌, List}
use Rattle.std.proofs.Common.{[], ◌∷◌, ◌++◌, set, get_or, length, Bool, IsTrue, nat_eq}
use Rattle.std.proofs.Common.{if◌then◌else◌, Option, Some, None, IfSome, Result, Ok, Err, OnOk}
use Rattle.std.proofs.Common.{append-nil, refl, sym, ap, subst, ◌∙◌, arith, inl, inr}
use Rattle.std.proofs.lemmas.Bool.{lt-ltb, le-ltb}
use mathlib.Core.Option.{some}
use native.Mathlib.Decide.{ℕ_discrete, dec_le}
use lib.ListN.{get_elem?}
use Rattle.eqc_tree.specs.Tree.{Tree, value, SameFunction}
use Rattle.eqc_tree.specs.Operation.{operate}
use Rattle.eqc_tree.specs.declared.operation.Op.{Op}
use Rattle.eqc_tree.specs.declared.operation.Op.TheVariants.{AndNot}
use Rattle.eqc_tree.specs.declared.stopping.Stop.{Stop}
use Rattle.eqc_core.specs.declared.phase.Phase.{Phase}
use Rattle.eqc_core.specs.declared.phase.Phase.TheVariants.{Idle, Seen, Confirmed}
use Rattle.eqc_core.specs.View.{View, Read, phase_at}
use Rattle.eqc_core.specs.Words.{times, result_of, slots_of}
use Rattle.eqc_core.specs.Moves.{IsReady, IsQuiet, with_phase, forget}
use Rattle.eqc_core.specs.Announcing.{MayLook, looked, MayAnnounce, LetsAnnounce, announced}
use Rattle.eqc_core.specs.Announcing.{announced_phase}
use Rattle.eqc_core.specs.Counting.{Knows, upped}
use Rattle.eqc_core.proofs.Lists.{set_here, at_get, at_below}
use Rattle.eqc_core.proofs.Names.{times-append}
use Rattle.eqc_guard.specs.declared.reference.Ref.{Ref}
use Rattle.eqc_guard.specs.Known.{Known, IsHeld, IsKnown, IsNamed, tree_of}
use Rattle.eqc_guard.specs.Snapshots.{IsSnapshot, IsFree, KeepsSnapshots}
use Rattle.eqc_guard.specs.Standing.{Standing, Steps}
use Rattle.eqc_guard.specs.Acquiring.{IsAt, IsAcquired, IsPassed}
use Rattle.eqc_guard.specs.Telling.{IsResult, Looks}
use Rattle.eqc_guard.specs.Copying.{cell_in}
use Rattle.eqc_guard.proofs.Acquiring.{starts, joins, phase_is, constant_trees, held_tree_stays}
use Rattle.eqc_guard.proofs.Acquiring.{result_before}
use Rattle.eqc_guard.proofs.Learning.{held_named, confirmed_named}
use Rattle.eqc_guard.proofs.Sameness.{named, same_named}
use Rattle.eqc_guard.proofs.Snapshots.{all_stay, steps_keep, quiet_keeps}
use Rattle.eqc_guard.proofs.Sweeping.{forget_none}
use Rattle.eqc_cache.specs.declared.peeking.Snapshot.{Snapshot}
use Rattle.eqc_cache.specs.Finding.{IsOrdered}
use Rattle.eqc_cache.specs.Placing.{in_order, place_of, IsEntry, HasResult, HasNone, HasNode}
use Rattle.eqc_cache.specs.Placing.{HasResultAt, HasNoneAt, HasNodeAt}
use Rattle.eqc_cache.specs.Peeking.{IsOut, HasFunction, Passes, IsPeeked, IsKept, HasFreeWord}
use Rattle.eqc_cache.proofs.Hits.{either_way, given_result, some_word}

length_set : (ps : List Phase) (k : ℕ) (p : Phase) → length (set ps k p) ≡ length ps
length_set [] k p = refl
length_set (q ∷ qs) zero p = refl
length_set (q ∷ qs) (suc k) p = ap suc (length_set qs k p)

-- a worker has a phase for each announcement word
phase_there : (k : ℕ) (old mid : Standing) (p : Phase) → k < old.known.core.sizes.announcements
    → IsAt k p old mid → k < length old.known.core.phases
phase_there k old mid p few a =
    let each : length (set old.known.core.phases k p) ≡ old.known.core.sizes.announcements =
    subst (λ (v : View). length v.phases ≡ v.sizes.announcements) a.core a.known.each in
    omega (arith, length_set old.known.core.phases k p)

-- a word that is free, or the first one, may look
pub word_within : (v : View) (k cell : ℕ) → MayLook v 0 cell → (0 < k → IsFree v k)
    → k < v.sizes.announcements
word_within v k cell may free = go (dec_le 1 k)
  where
    go : Dec (1 ≤ k) → k < v.sizes.announcements
    go (yes h) = (free h).1
    go (no n) = let few = may.1 in omega arith

-- a look by a word that announced nothing
module _ (k cell word : ℕ) (old s1 : Standing) (step : Steps old (looked old.known.core k cell word)
    s1) (few : k < old.known.core.sizes.announcements) where
  pub at : IsAt k (Seen cell word) old s1
  at = starts k old s1 (Seen cell word) step

  pub seen_now : phase_at s1.known.core k ≡ Seen cell word
  seen_now = phase_is k old s1 (Seen cell word) (phase_there k old s1 (Seen cell word) few at) at

  -- what was seen may be announced
  pub may_confirm : (x : ℕ) → IsReady old.known.core → 2 ≤ x → x ≡ result_of word
      → MayAnnounce s1.known.core k x
  may_confirm x ready two is = (
    ap (λ (v : View). v.position) at.core ∙ ready,
    subst (λ (v : View). k < v.sizes.announcements) (sym at.core) few,
    subst (λ (p : Phase). LetsAnnounce p x) (sym seen_now) (two, is),
  )

  module _ (quiet : IsQuiet (phase_at old.known.core k)) where
    -- nothing was announced
    pub looks_on : Passes old s1
    looks_on = record {
      word = k;
      was_quiet = quiet;
      passed = record {
        phase = Seen cell word;
        quiet = tt;
        stands = at;
      };
    }

    -- what was announced was withdrawn
    pub misses : (new : Standing) → IsAt k Idle s1 new → Passes old new
    misses new gone = record {
      word = k;
      was_quiet = quiet;
      passed = record {
        phase = Idle;
        quiet =
            tt;
        stands = joins k old s1 new (Seen cell word) Idle at gone;
      };
    }

    module _ (op : Op) (f g x : ℕ) (entry : IsEntry op (f, g) word) (hf : IsHeld old.known.core f)
        (hg : IsHeld old.known.core g) (is : x ≡ result_of word) where
      -- a constant needs no word
      pub peeks_constant : x < 2 → Looks old.known word s1.known
          → IsPeeked op f g (record { number = x; word = 0 }) old s1
      peeks_constant small looks = record {
        function = λ a. given_result op f g word old.known (tree_of old.known (result_of word))
            entry hf hg ((looks (some_word op word entry.0)).constant few_results) a
            ∙ ap (λ (t : Tree). value t a) (same ∙ ap (tree_of s1.known) (sym is));
        constant = λ lt. looks_on;
        node = λ two. absurd (omega arith);
      }
        where
          few_results : result_of word < 2
          few_results = subst (λ (n : ℕ). n < 2) is small

          same : tree_of old.known (result_of word) ≡ tree_of s1.known (result_of word)
          same = constant_trees old.known.trees s1.known.trees (result_of word) few_results
              (ℕ_discrete (result_of word) 0) (ℕ_discrete (result_of word) 1)

      -- a node was confirmed
      pub peeks_node : (new : Standing) → IsAcquired k word s1 new → IsFree old.known.core k → 2 ≤ x
          → IsPeeked op f g (record { number = x; word = k }) old new
      peeks_node new got free two = record {
        function = λ a. given_result op f g word old.known (tree_of new.known x) entry hf hg
            (subst (λ (n : ℕ). IsResult old.known word (tree_of new.known n)) (sym is)
            (result_before k (Seen cell word) old s1 word (tree_of new.known (result_of word)) at
            got.right)) a;
        constant = λ small. absurd (omega arith);
        node = λ h. (
          free,
          subst (λ (n : ℕ). IsAt k (Confirmed n) old new) (sym is)
              (joins k old s1 new (Seen cell word) (Confirmed (result_of word)) at got.confirmed),
        );
      }

-- nothing that was announced, and no snapshot, has changed
pub passes_keep : (old new : Standing) → Passes old new → KeepsSnapshots old.known new.known
    × (new.known.core.held ≡ old.known.core.held)
passes_keep old new p = (
  quiet_keeps p.word old.known new.known p.was_quiet p.passed.stands.others,
  ap (λ (v : View). v.held) p.passed.stands.core,
)

module _ (op : Op) (f g : ℕ) (s : Snapshot) (old new : Standing) (p : IsPeeked op f g s old new)
  where
    pub peek_keeps : KeepsSnapshots old.known new.known × (new.known.core.held ≡ old.known.core.held)
    peek_keeps = go (dec_le 2 s.number)
      where
        go : Dec (2 ≤ s.number) → KeepsSnapshots old.known new.known
            × (new.known.core.held ≡ old.known.core.held)
        go (yes two) = let n = p.node two in (
          quiet_keeps s.word old.known new.known n.0.2 n.1.others,
          ap (λ (v : View). v.held) n.1.core,
        )
        go (no n) = passes_keep old new (p.constant (omega arith))

    -- the snapshot is out
    pub out_now : IsOut new.known.core s
    out_now = go (dec_le 2 s.number)
      where
        go : Dec (2 ≤ s.number) → IsOut new.known.core s
        go (yes two) = let n = p.node two in inr (
          n.0.0,
          two,
          ap (λ (v : View). get_elem? v.phases s.word) n.1.core
              ∙ set_here old.known.core.phases s.word (Confirmed s.number) (phase_there s.word old new
              (Confirmed s.number) n.0.1 n.1),
        )
        go (no n) = inl (omega arith)

    -- what is held has its tree
    pub held_keep : (x : ℕ) → IsHeld old.known.core x → tree_of new.known x ≡ tree_of old.known x
    held_keep x held = go (dec_le 2 s.number)
      where
        go : Dec (2 ≤ s.number) → tree_of new.known x ≡ tree_of old.known x
        go (yes two) = held_tree_stays s.word (Confirmed s.number) old new x (p.node two).1 held
        go (no n) = let q = p.constant (omega arith) in held_tree_stays q.word q.passed.phase old new
            x q.passed.stands held

    -- it was given back: nothing that was announced has changed
    pub given_back : (last : Standing) → (s.number < 2 → last ≡ new)
        → (2 ≤ s.number → IsAt s.word Idle new last) → Passes old last
    given_back last still gone = go (dec_le 2 s.number)
      where
        go : Dec (2 ≤ s.number) → Passes old last
        go (yes two) = let n = p.node two in
            record {
              word = s.word;
              was_quiet = n.0.2;
              passed = record {
                phase = Idle;
                quiet = tt;
                stands = joins s.word old new last (Confirmed s.number) Idle n.1 (gone two);
              };
            }
        go (no n) = subst (λ (t : Standing). Passes old t) (sym (still (omega arith)))
            (p.constant (omega arith))

    pub still_ready : IsReady old.known.core → IsReady new.known.core
    still_ready ready = go (dec_le 2 s.number)
      where
        go : Dec (2 ≤ s.number) → IsReady new.known.core
        go (yes two) = ap (λ (v : View). v.position) (p.node two).1.core ∙ ready
        go (no n) = ap (λ (v : View). v.position) (p.constant (omega arith)).passed.stands.core
            ∙ ready

-- operands the other way round
other_way : (op : Op) (f g : ℕ) (s : Snapshot) (old new : Standing) → op ≢ AndNot
    → IsPeeked op g f s old new → IsPeeked op f g s old new
other_way op f g s old new free p = record {
  function = λ a. either_way op (value (tree_of old.known f) a) (value (tree_of old.known g) a) free
      ∙ p.function a;
  constant = p.constant;
  node = p.node;
}

ordered_peek : (op : Op) (f g m n : ℕ) (p : ℕ × ℕ) (s : Snapshot) (old new : Standing) → m ≡ f
    → n ≡ g → IsOrdered op m n p → IsPeeked op p.0 p.1 s old new → IsPeeked op f g s old new
ordered_peek op f g m n p s old new a b is peeked = ⊎_elim
    (λ e. subst (λ (q : ℕ × ℕ). IsPeeked op q.0 q.1 s old new) (e ∙ (λ i. (a i, b i))) peeked)
    (λ e. other_way op f g s old new e.0 (subst (λ (q : ℕ × ℕ). IsPeeked op q.0 q.1 s old new) (e.1
    ∙ (λ i. (b i, a i))) peeked))
    is

-- what was told of operands in order, told of them as they were given
module _ (op : Op) (f g : ℕ) (old new : Standing) where
  pub peeked_as_given : (m n : ℕ) (p : ℕ × ℕ) (o : Option Snapshot) → m ≡ f → n ≡ g
      → IsOrdered op m n p → IfSome o (λ s. IsPeeked op p.0 p.1 s old new)
      → IfSome o (λ s. IsPeeked op f g s old new)
  peeked_as_given m n p None a b is peeked = tt
  peeked_as_given m n p (Some s) a b is peeked = ordered_peek op f g m n p s old new a b is peeked

  pub outs_now : (o : Option Snapshot) → IfSome o (λ s. IsPeeked op f g s old new)
      → IfSome o (λ s. IsOut new.known.core s)
  outs_now None peeked = tt
  outs_now (Some s) peeked = out_now op f g s old new peeked

  pub all_keep : (o : Option Snapshot) → IfSome o (λ s. IsPeeked op f g s old new)
      → (o ≡ None → Passes old new) → KeepsSnapshots old.known new.known
      × (new.known.core.held ≡ old.known.core.held)
  all_keep None peeked miss = passes_keep old new (miss refl)
  all_keep (Some s) peeked miss = peek_keeps op f g s old new peeked

module _ (op : Op) (f g m n cells cell : ℕ) (p : ℕ × ℕ) (k : Known) (left : m ≡ f) (right : n ≡ g)
    (order : p ≡ in_order op m n)
    (all : cells ≡ k.core.sizes.cells) (at : cell ≡ place_of cells op (p.0, p.1)) where
  abbrev here : ℕ × (ℕ × ℕ)
  here = (place_of k.core.sizes.cells op (in_order op f g), in_order op f g)

  ordered : p ≡ in_order op f g
  ordered = order ∙ (λ i. in_order op (left i) (right i))

  -- the cell and the operands in order
  same : (cell, p) ≡ here
  same = λ i. ((at ∙ (λ j. place_of (all j) op (ordered j))) i, ordered i)

  result_there : (r : ℕ) → HasResultAt op p cell r k → HasResult op f g r k
  result_there r has ws is = subst (λ (t : ℕ × (ℕ × ℕ)). IsEntry op t.1 (cell_in k ws t.0)
      × (result_of (cell_in k ws t.0) ≡ r)) same (has ws is)

  pub results_there : (o : Option Snapshot) → IfSome o (λ s. HasResultAt op p cell s.number k)
      → IfSome o (λ s. HasResult op f g s.number k)
  results_there None has = tt
  results_there (Some s) has = result_there s.number has

  none_there : HasNoneAt op p cell k → HasNone op f g k
  none_there none ws is entry =
      none ws is (subst (λ (t : ℕ × (ℕ × ℕ)). IsEntry op t.1 (cell_in k ws t.0)) (sym same) entry)

  node_there : HasNodeAt cell k → HasNode op f g k
  node_there node ws is = subst (λ (t : ℕ × (ℕ × ℕ)). 2 ≤ result_of (cell_in k ws t.0)) same
      (node ws is)

  pub missed_there : ((HasFreeWord k.core → ⊥) × HasNodeAt cell k) ⊎ HasNoneAt op p cell k
      → ((HasFreeWord k.core → ⊥) × HasNode op f g k) ⊎ HasNone op f g k
  missed_there (inl t) = inl (t.0, node_there t.1)
  missed_there (inr none) = inr (none_there none)

-- of a node the snapshot is a confirmed name
pub is_snapshot : (v : View) (s : Snapshot) → IsOut v s → 2 ≤ s.number
    → IsSnapshot v s.word s.number
is_snapshot v s (inl lt) two = absurd (omega arith)
is_snapshot v s (inr is) two = is

-- what is out has a name whose tree is known
pub out_named : (v : View) (s : Snapshot) → IsOut v s → IsNamed v s.number
out_named v s (inl lt) = inl lt
out_named v s (inr is) = inr (confirmed_named v s.word s.number is.2)

-- equal numbers are equal functions
pub compares : (k : Known) (s : Snapshot) (f n : ℕ) → IsKnown k → IsOut k.core s → IsHeld k.core f
    → n ≡ f → IsTrue (nat_eq s.number n) ↔ SameFunction (tree_of k s.number) (tree_of k f)
compares k s f n known out held is =
    subst (λ (m : ℕ). IsTrue (nat_eq s.number m) ↔ SameFunction (tree_of k s.number) (tree_of k f))
    (sym is)
    (same_named k s.number f known (out_named k.core s out) (named k.core f held))

-- a confirmed name may be counted up
pub knows_snapshot : (v : View) (s : Snapshot) → IsOut v s → 2 ≤ s.number → Knows v s.number
knows_snapshot v s out two = inr (inl (s.word, (is_snapshot v s out two).2))

pub snapshot_there : (k : Known) (s : Snapshot) → IsKnown k → IsOut k.core s → 2 ≤ s.number
    → s.number < k.core.sizes.names
snapshot_there k s known out two = known.below s.number two (confirmed_named k.core s.word s.number
    (is_snapshot k.core s out two).2)

-- a constant is kept without a count
pub keeps_constant : (x : ℕ) (s : Standing) → IsKnown s.known → x < 2 → IsKept x s s
keeps_constant x s known small = record {
  forest = refl;
  core = ap (λ (l : List ℕ). record s.known.core { held = l }) (sym (append-nil s.known.core.held)
      ∙ ap (λ (l : List ℕ). s.known.core.held ++ l) (sym none));
  tree = refl;
  trees = λ y two h. refl;
  snapshots = all_stay s.known;
  copy = λ ws e. (ws, e);
  known = known;
}
  where
    none : slots_of (x ∷ []) ≡ []
    none = ap (λ (b : Bool). if b then [] else x ∷ []) (lt-ltb x 2 small)

-- and a node with one
keeps_node : (s : Snapshot) (old new : Standing) → IsKnown old.known → IsOut old.known.core s
    → 2 ≤ s.number → Steps old (upped old.known.core s.number) new → IsKept s.number old new
keeps_node s old new known out two up = record {
  forest = up.forest;
  core = up.known.core ∙ (λ i. record old.known.core {
    held = old.known.core.held ++ sym one i;
    read = reads i;
  });
  tree = up.known.agrees s.number two (confirmed_named old.known.core s.word s.number is.2)
      (confirmed_named (upped old.known.core s.number) s.word s.number is.2);
  trees = λ y two_y h. up.known.agrees y two_y (held_named old.known.core y h)
      (held_named (upped old.known.core s.number) y
      (omega (arith, times-append y old.known.core.held (s.number ∷ []))));
  snapshots = steps_keep old new (upped old.known.core s.number) up refl;
  copy = up.known.copy;
  known = up.known.known;
}
  where
    is : IsSnapshot old.known.core s.word s.number
    is = is_snapshot old.known.core s out two

    one : slots_of (s.number ∷ []) ≡ s.number ∷ []
    one = ap (λ (b : Bool). if b then [] else s.number ∷ []) (le-ltb s.number 2 two)

    reads : forget (old.known.core.held ++ s.number ∷ []) old.known.core.read ≡ old.known.core.read
    reads = forget_none (old.known.core.held ++ s.number ∷ []) old.known.core.read (λ r e. let h =
        known.read r e in omega (arith, times-append r.name old.known.core.held (s.number ∷ [])))

pub keeps_if : (s : Snapshot) (old new : Standing) (r : Result Ref Stop) → IsKnown old.known
    → IsOut old.known.core s → 2 ≤ s.number → OnOk r (Steps old (upped old.known.core s.number) new)
    →
    OnOk r (IsKept s.number old new)
keeps_if s old new (Ok r) known out two up = keeps_node s old new known out two up
keeps_if s old new (Err e) known out two up = tt

-- a snapshot may be withdrawn
module _ (s : Snapshot) (old : Standing) (known : IsKnown old.known) (out : IsOut old.known.core s)
    (two : 2 ≤ s.number) where
  confirmed : phase_at old.known.core s.word ≡ Confirmed s.number
  confirmed = at_get old.known.core.phases s.word (Confirmed s.number) Idle
      (is_snapshot old.known.core s out two).2

  pub may_unpeek : IsReady old.known.core → MayAnnounce old.known.core s.word 0
  may_unpeek ready =
      let below = at_below old.known.core.phases s.word (Confirmed s.number)
      (is_snapshot old.known.core s out two).2 in
      let each = known.each in
      (ready, omega arith, subst (λ (p : Phase). LetsAnnounce p 0) (sym confirmed) refl)

  pub unpeeks : (new : Standing) → Steps old (announced old.known.core s.word) new
      → IsAt s.word Idle old new
  unpeeks new gone = starts s.word old new Idle
      (subst (λ (p : Phase). Steps old (with_phase old.known.core s.word (announced_phase p)) new)
      confirmed gone)
