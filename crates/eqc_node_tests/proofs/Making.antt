-- What the calls of a worker that makes nodes leave. Helpers of the tests
use Rattle.std.proofs.Common.{◌≡◌, ℕ, zero, suc, ◌+◌, ◌/◌, ◌%◌, ◌^◌, ◌<◌, ◌≤◌, List, [], ◌∷◌, ◌++◌}
use Rattle.std.proofs.Common.{cond, if◌then◌else◌, eqb, sum_by, get_or, set, length, Bool, true}
use Rattle.std.proofs.Common.{false, Result, Ok, Err, IfOk, OnErr, refl, sym, ap, subst, ◌∙◌, arith}
use Rattle.std.proofs.Common.{swap_remove}
use Rattle.std.proofs.lemmas.List.Sums.{sum_by-append, sum_by-cons, sum_by-swap_remove}
use mathlib.Core.Option.{some-injective, some-ne-none}
use Rattle.eqc_tree.specs.Tree.{Tree, Node, False, True, StartsAbove, value}
use Rattle.eqc_tree.specs.Operation.{operate}
use Rattle.eqc_tree.specs.declared.operation.Op.{Op}
use Rattle.eqc_tree.specs.declared.operation.Op.TheVariants.{And}
use Rattle.eqc_tree.specs.declared.stopping.Stop.{Stop}
use Rattle.eqc_core.specs.declared.phase.Phase.{Phase}
use Rattle.eqc_core.specs.declared.phase.Phase.TheVariants.{Idle, Seen, Announced, Confirmed}
use Rattle.eqc_core.specs.declared.phase.Phase.TheVariants.{Missed}
use Rattle.eqc_core.specs.Moves.{IsQuiet}
use Rattle.eqc_core.specs.Announcing.{MayLook}
use Rattle.eqc_core.specs.View.{View}
use Rattle.eqc_core.specs.Words.{times, slots_of, variable_of, low_of, high_of}
use Rattle.eqc_core.specs.Making.{read_node}
use Rattle.eqc_core.specs.Seating.{IsAtRest}
use Rattle.eqc_core.proofs.Names.{times-append, times-cons, times-nil, times-slots_of}
use Rattle.eqc_guard.specs.declared.reference.Ref.{Ref}
use Rattle.eqc_guard.specs.Known.{IsHeld, tree_of}
use Rattle.eqc_guard.specs.Making.{Reads}
use Rattle.eqc_guard.specs.Splitting.{IsAbsorbed}
use Rattle.eqc_guard.specs.Acquiring.{IsAt, IsPassed}
use Rattle.eqc_guard.specs.Standing.{Standing, Steps}
use Rattle.eqc_arena.specs.Changing.{Exchanges}
use Rattle.eqc_cache.specs.Storing.{IsAsBefore}
use Rattle.eqc_cache.specs.Finding.{IsTaken, IsHit}
use Rattle.eqc_arena.specs.Nodes.{MayAsk}
use Rattle.eqc_arena.proofs.Changing.{reads, empties, same_tree, held_still, still, here, names_now}
use Rattle.eqc_arena.proofs.Changing.{lengths_now, one_comes}
use Rattle.eqc_arena.proofs.References.{variable_is, low_is, high_is}
use Rattle.eqc_arena.proofs.Resting.{AreQuiet, rest_begins, rest_now}
use Rattle.eqc_node_tests.specs.Making.{references_of, announces, Rests, IsMaking}

-- the references cover what is held
abbrev pub AreCovered : List Ref → List ℕ → Type 0
AreCovered refs held = (x : ℕ) → 2 ≤ x → references_of x refs ≤ times x held

unfoldable pub one : ℕ → Ref → ℕ
one x r = cond (eqb r.number x) 1 0

pub one_more : (x : ℕ) (r : Ref) (refs : List Ref) → references_of x (refs ++ r ∷ [])
    ≡ references_of x refs + cond (eqb r.number x) 1 0
unfolding one
one_more x r refs = omega (arith, sum_by-append (one x) refs (r ∷ []), sum_by-cons (one x) r [])

-- a node was read whose variable is greater
pub read_above : (x word root var : ℕ) (old new : Standing)
    → Steps old (read_node old.known.core x word) new → IsHeld old.known.core x →
    Reads old.known x word new.known → root ≡ word / 2 ^ 40 % 2 ^ 16 → var < root
    → StartsAbove var (tree_of new.known x)
read_above x word root var old new step held tells is lt =
    subst (λ (t : Tree). StartsAbove var t) (sym (same_tree (reads x word old new step) x held
    ∙ tells.tree)) (let e = variable_is word tells.small in omega arith)

-- two looks at what is held, and then a node may be asked for
module _ (var low high : ℕ) (w0 w1 w2 : Standing) (rest : IsAtRest w0.known.core) (cells : 0
    < w0.known.core.sizes.cells)
    (few : var < w0.known.core.sizes.variables) (room : length w0.known.core.held ≤ 2 ^ 30)
    (low_held : IsHeld w0.known.core low) (high_held : IsHeld w0.known.core high)
    (t : Exchanges [] [] w0 w1) (u : Exchanges [] [] w1 w2) where
  pub both_looks : Exchanges [] [] w0 w2
  both_looks = still t (here t u)

  pub may_ask : StartsAbove var (tree_of w1.known low) → StartsAbove var (tree_of w2.known high)
      → MayAsk w2.known var low high
  unfolding both_looks
  may_ask above_low above_high = record {
    rest = rest_begins (rest_now rest both_looks);
    cells = subst (λ (v : View). 0 < v.sizes.cells) (sym both_looks.core) cells;
    room = omega (arith, lengths_now both_looks);
    few = subst (λ (v : View). var < v.sizes.variables) (sym both_looks.core) few;
    low_held = held_still both_looks low low_held;
    high_held = held_still both_looks high high_held;
    above_low = subst (λ (s : Tree). StartsAbove var s)
        (sym (same_tree u low (held_still t low low_held))) above_low;
    above_high = above_high;
  }

-- a node came, or none
pub made_after : (old mid new : Standing) (o : Result Ref Stop) → Exchanges [] [] old mid →
    IfOk o (λ r. Exchanges [] (slots_of (r.number ∷ [])) mid new)
    → IfOk o (λ r. Exchanges [] (slots_of (r.number ∷ [])) old new)
made_after old mid new (Ok r) t u = one_comes r.number t u
made_after old mid new (Err e) t u = tt

pub none_after : (old mid new : Standing) (o : Result Ref Stop) → Exchanges [] [] old mid
    → OnErr o (Exchanges [] [] mid new) → OnErr o (Exchanges [] [] old new)
none_after old mid new (Ok r) t u = tt
none_after old mid new (Err e) t u = still t (here t u)

-- a phase that announces no name is quiet, and the other way round
pub silent_quiet : (p : Phase) → announces p ≡ 0 → IsQuiet p
silent_quiet Idle e = tt
silent_quiet (Seen c word) e = tt
silent_quiet (Announced c word) e = absurd (omega arith)
silent_quiet (Confirmed x) e = absurd (omega arith)
silent_quiet (Missed x) e = absurd (omega arith)

pub quiet_silent : (p : Phase) → IsQuiet p → announces p ≡ 0
quiet_silent Idle q = refl
quiet_silent (Seen c word) q = refl
quiet_silent (Announced c word) q = absurd q
quiet_silent (Confirmed x) q = absurd q
quiet_silent (Missed x) q = absurd q

are_quiet : (ps : List Phase) → sum_by announces ps ≡ 0 → AreQuiet ps
are_quiet [] e k p at = absurd (some-ne-none p (sym at))
are_quiet (o ∷ ps) e zero p at = subst (λ (q : Phase). IsQuiet q) (some-injective o p at)
    (silent_quiet o (omega (arith, sum_by-cons announces o ps)))
are_quiet (o ∷ ps) e (suc k) p at = are_quiet ps (omega (arith, sum_by-cons announces o ps)) k p at

are_silent : (ps : List Phase) → AreQuiet ps → sum_by announces ps ≡ 0
are_silent [] all = refl
are_silent (o ∷ ps) all = omega (
  arith,
  sum_by-cons announces o ps,
  quiet_silent o (all 0 o refl),
  are_silent ps (λ k p at. all (suc k) p at),
)

-- a worker that is at rest may look at the first cell
pub quiet_first : (ps : List Phase) → sum_by announces ps ≡ 0 → IsQuiet (get_or ps 0 Idle)
quiet_first [] e = tt
quiet_first (o ∷ ps) e = silent_quiet o (omega (arith, sum_by-cons announces o ps))

pub may_look : (v : ℕ) (refs : List Ref) (s : Standing) → IsMaking v refs s
    → MayLook s.known.core 0 0
may_look v refs s m = (
  m.rests.place,
  omega (arith, m.four_words),
  m.cells,
  quiet_first s.known.core.phases m.rests.silent,
)

pub at_rest : (v : View) → Rests v → IsAtRest v
at_rest v r = record {
  ready = r.place;
  quiet = are_quiet v.phases r.silent;
  no_draft = r.no_draft;
  no_hand = r.no_hand;
}

-- at rest also where names came or went
rests_then : {gone came : List ℕ} {old new : Standing} → Rests old.known.core
    → Exchanges gone came old new → Rests new.known.core
rests_then {gone} {came} {old} {new} r t = record {
  place = ap (λ (v : View). v.position) t.core ∙ r.place;
  silent = are_silent new.known.core.phases (rest_now (at_rest old.known.core r) t).quiet;
  no_draft = ap (λ (v : View). v.draft) t.core ∙ r.no_draft;
  no_hand = ap (λ (v : View). v.hand) t.core ∙ r.no_hand;
}

-- nothing came or went
pub makes_still : (v : ℕ) (refs : List Ref) (old new : Standing) → IsMaking v refs old
    → Exchanges [] [] old new → IsMaking v refs new
makes_still v refs old new m t = record {
  rests = rests_then m.rests t;
  four_words = ap (λ (u : View). u.sizes.announcements) t.core ∙ m.four_words;
  cells = subst (λ (u : View). 0 < u.sizes.cells) (sym t.core) m.cells;
  few = subst (λ (u : View). v ≤ u.sizes.variables) (sym t.core) m.few;
  covered = λ y two. omega (arith, m.covered y two, names_now t y);
}

-- a reference came
pub makes_more : (v : ℕ) (r : Ref) (refs more : List Ref) (old new : Standing) → IsMaking v refs old
    → Exchanges [] (slots_of (r.number ∷ [])) old new → more ≡ refs ++ r ∷ [] → IsMaking v more new
makes_more v r refs more old new m t is = record {
  rests = rests_then m.rests t;
  four_words = ap (λ (u : View). u.sizes.announcements) t.core ∙ m.four_words;
  cells = subst (λ (u : View). 0 < u.sizes.cells) (sym t.core) m.cells;
  few = subst (λ (u : View). v ≤ u.sizes.variables) (sym t.core) m.few;
  covered = λ y two.
      let a : references_of y more ≡ references_of y (refs ++ r ∷ []) =
      ap {B = ℕ} (references_of y) is in
      omega (
        arith,
        a,
        m.covered y two,
        one_more y r refs,
        names_now t y,
        times-nil y,
        times-slots_of y (r.number ∷ []) two,
        times-cons y r.number [],
      );
}

-- a reference went
pub makes_fewer : (v i : ℕ) (r : Ref) (refs left : List Ref) (old new : Standing)
    → IsMaking v refs old →
    Exchanges (slots_of (r.number ∷ [])) [] old new → i < length refs → r ≡ get_or refs i r
    → left ≡ swap_remove refs i r → IsMaking v left new
unfolding one
makes_fewer v i r refs left old new m t lt e is = record {
  rests = rests_then m.rests t;
  four_words = ap (λ (u : View). u.sizes.announcements) t.core ∙ m.four_words;
  cells = subst (λ (u : View). 0 < u.sizes.cells) (sym t.core) m.cells;
  few = subst (λ (u : View). v ≤ u.sizes.variables) (sym t.core) m.few;
  covered = λ y two.
      let a : references_of y left ≡ references_of y (swap_remove refs i r) =
      ap {B = ℕ} (references_of y) is in
      let f : one y r ≡ one y (get_or refs i r) = ap {B = ℕ} (one y) e in
      omega (
        arith,
        a,
        f,
        m.covered y two,
        sum_by-swap_remove (one y) refs i r lt,
        names_now t y,
        times-nil y,
        times-slots_of y (r.number ∷ []) two,
        times-cons y r.number [],
      );
}

-- another worker was taken in
module _ (v : ℕ) (refs others : List Ref) (old other new : Standing) (m : IsMaking v refs old)
    (t : IsAbsorbed old other new) where
  rests_both : Rests new.known.core
  rests_both = record {
    place = ap (λ (u : View). u.position) t.core;
    silent = ap (λ (u : View). sum_by announces u.phases) t.core ∙ m.rests.silent;
    no_draft = ap (λ (u : View). u.draft) t.core ∙ m.rests.no_draft;
    no_hand = ap (λ (u : View). u.hand) t.core ∙ m.rests.no_hand;
  }

  held_now : (y : ℕ) → times y new.known.core.held ≡ times y old.known.core.held
      + times y other.known.core.held
  held_now y = ap (λ (u : View). times y u.held) t.core ∙ t.names y

  with_covered : (all : List Ref) → AreCovered all new.known.core.held → IsMaking v all new
  with_covered all covered = record {
    rests = rests_both;
    four_words = ap (λ (u : View). u.sizes.announcements) t.core ∙ m.four_words;
    cells = subst (λ (u : View). 0 < u.sizes.cells) (sym t.core) m.cells;
    few = subst (λ (u : View). v ≤ u.sizes.variables) (sym t.core) m.few;
    covered = covered;
  }

  pub makes_both : (all : List Ref) (w : ℕ) → IsMaking w others other → all ≡ refs ++ others
      → IsMaking v all new
  makes_both all w n is = with_covered all (λ y two.
      let a : references_of y all ≡ references_of y (refs ++ others) =
      ap {B = ℕ} (references_of y) is in
      omega (
        arith,
        a,
        held_now y,
        m.covered y two,
        n.covered y two,
        sum_by-append (λ (r : Ref). cond {A = ℕ} (eqb r.number y) 1 0) refs others,
      ))

-- the cells are others
pub makes_before : (v : ℕ) (refs : List Ref) (old new : Standing) → IsMaking v refs old
    → IsAsBefore old new → IsMaking v refs new
makes_before v refs old new m before = makes_still v refs old new m (empties old new before)

-- a phase was set to a silent one
silent_set : (ps : List Phase) (p : Phase) → IsQuiet p → sum_by announces ps ≡ 0
    → sum_by announces (set ps 0 p) ≡ 0
silent_set [] p q e = e
silent_set (o ∷ ps) p q e = omega (
  arith,
  sum_by-cons announces o ps,
  sum_by-cons announces p ps,
  quiet_silent p q,
)

-- a lookup found nothing, or something
pub makes_passed : (v : ℕ) (refs : List Ref) (old new : Standing) → IsMaking v refs old
    → IsPassed 0 old new → IsMaking v refs new
makes_passed v refs old new m p = record {
  rests = record {
    place = ap (λ (u : View). u.position) p.stands.core ∙ m.rests.place;
    silent = ap (λ (u : View). sum_by announces u.phases) p.stands.core
        ∙ silent_set old.known.core.phases p.phase p.quiet m.rests.silent;
    no_draft = ap (λ (u : View). u.draft) p.stands.core ∙ m.rests.no_draft;
    no_hand = ap (λ (u : View). u.hand) p.stands.core ∙ m.rests.no_hand;
  };
  four_words = ap (λ (u : View). u.sizes.announcements) p.stands.core ∙ m.four_words;
  cells = subst (λ (u : View). 0 < u.sizes.cells) (sym p.stands.core) m.cells;
  few = subst (λ (u : View). v ≤ u.sizes.variables) (sym p.stands.core) m.few;
  covered = subst (λ (u : View). AreCovered refs u.held) (sym p.stands.core) m.covered;
}

pub makes_hit : (v f g : ℕ) (op : Op) (r : Ref) (refs more : List Ref) (old new : Standing)
    → IsMaking v refs old → IsHit op f g r.number old new → more ≡ refs ++ r ∷ []
    → IsMaking v more new
makes_hit v f g op r refs more old new m h is = record {
  rests = record {
    place = ap (λ (u : View). u.position) h.core ∙ m.rests.place;
    silent = ap (λ (u : View). sum_by announces u.phases) h.core
        ∙ silent_set old.known.core.phases h.phase h.quiet m.rests.silent;
    no_draft = ap (λ (u : View). u.draft) h.core ∙ m.rests.no_draft;
    no_hand = ap (λ (u : View). u.hand) h.core ∙ m.rests.no_hand;
  };
  four_words = ap (λ (u : View). u.sizes.announcements) h.core ∙ m.four_words;
  cells = subst (λ (u : View). 0 < u.sizes.cells) (sym h.core) m.cells;
  few = subst (λ (u : View). v ≤ u.sizes.variables) (sym h.core) m.few;
  covered = subst (λ (u : View). AreCovered more u.held) (sym h.core) (λ y two.
      let a : references_of y more ≡ references_of y (refs ++ r ∷ []) =
      ap {B = ℕ} (references_of y) is in
      omega (
        arith,
        a,
        m.covered y two,
        one_more y r refs,
        times-append y old.known.core.held
            (slots_of (r.number ∷ [])),
        times-slots_of y (r.number ∷ []) two,
        times-cons y r.number [],
        times-nil y,
      ));
}

-- the result of a word that was seen was counted up
pub makes_taken : (v cell word : ℕ) (r : Ref) (refs more : List Ref) (old mid new : Standing)
    → IsMaking v refs old →
    IsAt 0 (Seen cell word) old mid → IsTaken r.number mid new → more ≡ refs ++ r ∷ []
    → IsMaking v more new
makes_taken v cell word r refs more old mid new m looks t is =
    let n : IsMaking v refs mid = makes_passed v refs old mid m (record {
      phase = Seen cell word;
      quiet = tt;
      stands = looks;
    }) in
    record {
      rests = record {
        place = ap (λ (u : View). u.position) t.core ∙ n.rests.place;
        silent = ap (λ (u : View). sum_by announces u.phases) t.core
            ∙ silent_set mid.known.core.phases Idle tt n.rests.silent;
        no_draft = ap (λ (u : View). u.draft) t.core ∙ n.rests.no_draft;
        no_hand = ap (λ (u : View). u.hand) t.core ∙ n.rests.no_hand;
      };
      four_words = ap (λ (u : View). u.sizes.announcements) t.core ∙ n.four_words;
      cells = subst (λ (u : View). 0 < u.sizes.cells) (sym t.core) n.cells;
      few = subst (λ (u : View). v ≤ u.sizes.variables) (sym t.core) n.few;
      covered = subst (λ (u : View). AreCovered more u.held) (sym t.core) (λ y two.
          let a : references_of y more ≡ references_of y (refs ++ r ∷ []) =
          ap {B = ℕ} (references_of y) is in
          omega (
            arith,
            a,
            n.covered y two,
            one_more y r refs,
            times-append y mid.known.core.held
                (r.number ∷ []),
            times-cons y r.number [],
            times-nil y,
          ));
    }

-- a node was read, and has these parts
pub reads_node : (x word var low high : ℕ) (p : ℕ × ℕ × ℕ) (old new : Standing)
    → Reads old.known x word new.known →
    p ≡ (word / 2 ^ 40 % 2 ^ 16, word / 2 ^ 20 % 2 ^ 20, word % 2 ^ 20) → p.0 ≡ var → p.1 ≡ low
    → p.2 ≡ high
    → tree_of old.known x ≡ Node var (tree_of new.known low) (tree_of new.known high)
reads_node x word var low high p old new tells is a b c =
    let root : variable_of word ≡ var = sym (variable_is word tells.small)
    ∙ (sym (ap {B = ℕ} (λ (q : ℕ × ℕ × ℕ). q.0) is) ∙ a) in
    let first : low_of word ≡ low = low_is word ∙ (sym (ap {B = ℕ} (λ (q : ℕ × ℕ × ℕ). q.1) is) ∙ b)
    in
    let second : high_of word ≡ high = high_is word ∙ (sym (ap {B = ℕ} (λ (q : ℕ × ℕ × ℕ). q.2) is)
    ∙ c) in
    tells.tree ∙ (λ i. Node (root i) (tree_of new.known (first i)) (tree_of new.known (second i)))

-- a literal and a function have the node over false and the function as their and
and_is : (var : ℕ) (s : Tree) (a : ℕ → Bool) → operate And (value (Node var False True) a)
    (value s a) ≡ value (Node var False s) a
and_is var s a = elim (a var) as (λ (b : Bool). operate And (if b then true else false) (value s a)
    ≡ (if b then value s a else false)) [ true ↦ refl | false ↦ refl ]

pub right_and : (var f g r : ℕ) (w0 w1 w2 : Standing) → IsHeld w0.known.core f
    → IsHeld w0.known.core g → Exchanges [] [] w0 w1 →
    Exchanges [] [] w1 w2 → tree_of w0.known f ≡ Node var (tree_of w1.known 0) (tree_of w1.known 1)
    → tree_of w1.known r ≡ Node var (tree_of w2.known 0) (tree_of w2.known g)
    → IsHeld w0.known.core r → (a : ℕ → Bool) →
    operate And (value (tree_of w2.known f) a) (value (tree_of w2.known g) a)
    ≡ value (tree_of w2.known r) a
right_and var f g r w0 w1 w2 held_f held_g t u is_f is_r held_r a =
    let first : tree_of w2.known f ≡ Node var False True = same_tree u f (held_still t f held_f)
    ∙ (same_tree t f held_f ∙ is_f) in
    let last : tree_of w2.known r ≡ Node var False (tree_of w2.known g) =
    same_tree u r (held_still t r held_r) ∙ is_r in
    (λ i. operate And (value (first i) a) (value (tree_of w2.known g) a))
    ∙ (and_is var (tree_of w2.known g) a ∙ (λ i. value (sym last i) a))
