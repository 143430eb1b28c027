-- The steps of a lookup.
use Rattle.std.proofs.Common.{◌≡◌, ◌≢◌, ⊎_elim, ℕ, zero, suc, ◌^◌, ◌<◌, ◌≤◌, List, [], ◌∷◌, ◌++◌}
use Rattle.std.proofs.Common.{set, get_or, length, Bool, true, false, if◌then◌else◌, nat_eq, Option}
use Rattle.std.proofs.Common.{Some, None, IfSome, append-nil, refl, sym, ap, subst, ◌∙◌, arith, inl}
use Rattle.std.proofs.Common.{inr}
use Rattle.std.proofs.lemmas.Bool.{lt-ltb, le-ltb}
use mathlib.Core.Option.{some}
use native.Mathlib.Decide.{ℕ_discrete}
use lib.ListN.{get_elem?}
use Rattle.eqc_tree.specs.Tree.{Tree, value}
use Rattle.eqc_tree.specs.Operation.{operate, tag_of}
use Rattle.eqc_tree.specs.declared.operation.Op.{Op}
use Rattle.eqc_tree.specs.declared.operation.Op.TheVariants.{And, Or, Xor, AndNot}
use Rattle.eqc_core.specs.declared.phase.Phase.{Phase}
use Rattle.eqc_core.specs.declared.phase.Phase.TheVariants.{Idle, Seen, Confirmed}
use Rattle.eqc_core.specs.View.{View, Read, phase_at}
use Rattle.eqc_core.specs.Words.{times, operation_of, first_of, second_of, result_of, slots_of}
use Rattle.eqc_core.specs.Moves.{IsReady, with_phase, forget}
use Rattle.eqc_core.specs.Announcing.{LetsAnnounce, MayAnnounce, announced, announced_phase}
use Rattle.eqc_core.specs.Counting.{Knows, upped}
use Rattle.eqc_core.proofs.Lists.{set_here}
use Rattle.eqc_core.proofs.Names.{times-append, times-same}
use Rattle.eqc_guard.specs.declared.reference.Ref.{Ref}
use Rattle.eqc_guard.specs.Known.{Known, IsHeld, IsKnown, tree_of, names_of}
use Rattle.eqc_guard.specs.Standing.{Standing, Steps}
use Rattle.eqc_guard.specs.Acquiring.{IsAt, IsAcquired}
use Rattle.eqc_guard.specs.Telling.{IsResult, Shown}
use Rattle.eqc_guard.proofs.Acquiring.{set_twice, seen_as, goes_on, constant_trees, result_before}
use Rattle.eqc_guard.proofs.Learning.{held_named, confirmed_named, keeps_on}
use Rattle.eqc_guard.proofs.Snapshots.{snapshots_on, steps_keep, first_keeps, first_all}
use Rattle.eqc_guard.proofs.Sweeping.{forget_none}
use Rattle.eqc_cache.specs.Finding.{IsOrdered, IsTaken, IsHit}
use Rattle.eqc_cache.specs.Placing.{IsEntry}

-- a worker has a first announcement word, and its phase there is the one that was set
pub length_set : (ps : List Phase) (p : Phase) → length (set ps 0 p) ≡ length ps
length_set [] p = refl
length_set (q ∷ qs) p = refl

pub first_set : (ps : List Phase) (p : Phase) → 0 < length ps → get_or (set ps 0 p) 0 Idle ≡ p
first_set [] p some_words = absurd (omega arith)
first_set (q ∷ qs) p some_words = refl

some_phases : (old mid : Standing) (p : Phase) → IsAt 0 p old mid → 0 < length old.known.core.phases
some_phases old mid p a = let n : 0 < length (set old.known.core.phases 0 p) =
    subst (λ (v : View). 0 < length v.phases) a.core a.known.word in
    omega (arith, length_set old.known.core.phases p)

pub phase_now : (old mid : Standing) (p : Phase) → IsAt 0 p old mid → phase_at mid.known.core 0 ≡ p
phase_now old mid p a = ap (λ (v : View). phase_at v 0) a.core
    ∙ first_set old.known.core.phases p (some_phases old mid p a)

phase_there : (old mid : Standing) (p : Phase) → IsAt 0 p old mid
    → get_elem? mid.known.core.phases 0 ≡ some p
phase_there old mid p a = ap (λ (v : View). get_elem? v.phases 0) a.core
    ∙ set_here old.known.core.phases 0 p (some_phases old mid p a)

-- what may be announced is the result of the word that was seen
module _ (old s1 : Standing) (x : ℕ) (may : MayAnnounce old.known.core 0 x) (two : 2 ≤ x)
    (yes_it_is : (c word : ℕ) → phase_at old.known.core 0 ≡ Seen c word → IsAcquired 0 word old s1)
  where
    seen : (c : ℕ) × (word : ℕ) × (phase_at old.known.core 0 ≡ Seen c word) × (x ≡ result_of word)
    seen = seen_as (phase_at old.known.core 0) x may.2 two

    got : IsAcquired 0 seen.1 old s1
    got = yes_it_is seen.0 seen.1 seen.2

    pub confirmed_at : IsAt 0 (Confirmed x) old s1
    confirmed_at = subst (λ (n : ℕ). IsAt 0 (Confirmed n) old s1) (sym seen.3) got.confirmed

    pub knows_it : Knows s1.known.core x
    knows_it = inr (inl (0, phase_there old s1 (Confirmed x) confirmed_at))

    pub there : x < s1.known.core.sizes.names
    there = confirmed_at.known.below x two (confirmed_named s1.known.core 0 x
        (phase_there old s1 (Confirmed x) confirmed_at))

    pub ready : IsReady s1.known.core
    ready = ap (λ (v : View). v.position) confirmed_at.core ∙ may.0

    -- what is confirmed may be withdrawn
    pub may_release : MayAnnounce s1.known.core 0 0
    may_release = (
      ready,
      subst (λ (v : View). 0 < v.sizes.announcements) (sym confirmed_at.core) may.1,
      subst (λ (p : Phase). LetsAnnounce p 0) (sym (phase_now old s1 (Confirmed x) confirmed_at))
          refl,
    )

    -- where the limit of references forbids the count, nothing is announced then, and no name more is
    -- held
    pub let_go : (s2 s3 : Standing) → s2 ≡ s1 → Steps s2 (announced s2.known.core 0) s3
        → IsAt 0 Idle old s3
    let_go s2 s3 same gone =
        goes_on 0 old s1 s3 (Confirmed x) Idle confirmed_at
        (subst (λ (p : Phase). Steps s1 (with_phase s1.known.core 0 (announced_phase p)) s3)
        (phase_now old s1 (Confirmed x) confirmed_at)
        (subst (λ (s : Standing). Steps s (announced s.known.core 0) s3) same gone))

    module _ (s2 : Standing) (up : Steps s1 (upped s1.known.core x) s2) where
      pub may_release_after : MayAnnounce s2.known.core 0 0
      may_release_after = subst (λ (v : View). MayAnnounce v 0 0) (sym up.known.core) may_release

      module _ (s3 : Standing) (gone : Steps s2 (announced s2.known.core 0) s3) where
        phase_two : phase_at s2.known.core 0 ≡ Confirmed x
        phase_two = ap (λ (v : View). phase_at v 0) up.known.core
            ∙ phase_now old s1 (Confirmed x) confirmed_at

        reads : forget (old.known.core.held ++ x ∷ []) old.known.core.read ≡ old.known.core.read
        reads = forget_none (old.known.core.held ++ x ∷ []) old.known.core.read (λ r e.
            let h : 0 < times r.name old.known.core.held = subst (λ (v : View). (r : Read)
            → v.read ≡ Some r → 0 < times r.name v.held) confirmed_at.core confirmed_at.known.read r
            e in
            omega (arith, times-append r.name old.known.core.held (x ∷ [])))

        core : s3.known.core ≡ record old.known.core {
          held = old.known.core.held ++ x ∷ [];
          phases =
              set old.known.core.phases 0 Idle;
        }
        core =
            gone.known.core
            ∙ (ap (λ (p : Phase). with_phase s2.known.core 0 (announced_phase p)) phase_two
            ∙ (ap (λ (v : View). with_phase v 0 Idle) up.known.core
            ∙ (ap (λ (v : View). with_phase (upped v x) 0 Idle) confirmed_at.core
            ∙ ((λ i. record old.known.core {
              held = old.known.core.held ++ x ∷ [];
              read = reads i;
              phases = set_twice old.known.core.phases (Confirmed x) Idle i;
            })))))

        -- what is named before the count and held after it keeps its tree
        later : (y : ℕ) → 2 ≤ y → 0 < times y (names_of s1.known.core)
            → 0 < times y (upped s1.known.core x).held → tree_of s3.known y ≡ tree_of s1.known y
        later y two_y named held =
            let two_held : 0 < times y s2.known.core.held = subst (λ (v : View). 0 < times y v.held)
            (sym up.known.core) held in
            gone.known.agrees y two_y (held_named s2.known.core y two_held)
            (held_named (announced s2.known.core 0) y two_held)
            ∙ up.known.agrees y two_y named (held_named (upped s1.known.core x) y held)

        pub taken : IsTaken x old s3
        taken = record {
          forest = gone.forest ∙ (up.forest ∙ confirmed_at.forest);
          core = core;
          trees = λ y two_y h.
              let one : 0 < times y s1.known.core.held = subst (λ (v : View). 0 < times y v.held)
              (sym confirmed_at.core) h in
              later y two_y (held_named s1.known.core y one)
              (omega (arith, times-append y s1.known.core.held (x ∷ [])))
              ∙ confirmed_at.trees y two_y h;
          right = λ c word is.
              let a = yes_it_is c word is in
              let l = subst (λ (p : Phase). LetsAnnounce p x) is may.2 in
              let mine : tree_of s3.known x ≡ tree_of s1.known x =
              later x two (confirmed_named s1.known.core 0 x (phase_there old s1 (Confirmed x)
              confirmed_at)) (omega (
                arith,
                times-append x s1.known.core.held (x ∷ []),
                times-same x x [] refl,
              )) in
              subst (λ (t : Tree). IsResult old.known word t) (ap (tree_of s1.known) (sym l.1)
              ∙ sym mine) a.right;
          snapshots = snapshots_on old.known s1.known s3.known (first_all old.known s1.known
              confirmed_at.others) (snapshots_on s1.known s2.known s3.known
              (steps_keep s1 s2 (upped s1.known.core x) up refl)
              (first_keeps s2 s3 (announced s2.known.core 0) gone
              (announced_phase (phase_at s2.known.core 0)) refl));
          copy = keeps_on old.known s1.known s3.known confirmed_at.copy (keeps_on s1.known s2.known
              s3.known up.known.copy gone.known.copy);
          known = gone.known.known;
        }

-- an operation that does not tell its operands apart gives the same both ways
pub either_way : (o : Op) (a b : Bool) → o ≢ AndNot → operate o a b ≡ operate o b a
either_way And true true n = refl
either_way And true false n = refl
either_way And false true n = refl
either_way And false false n = refl
either_way Or true true n = refl
either_way Or true false n = refl
either_way Or false true n = refl
either_way Or false false n = refl
either_way Xor true true n = refl
either_way Xor true false n = refl
either_way Xor false true n = refl
either_way Xor false false n = refl
either_way AndNot a b n = absurd (n refl)

-- the result of an entry's word is the operation's of its operands
pub given_result : (op : Op) (f g word : ℕ) (k : Known) (t : Tree) → IsEntry op (f, g) word
    → IsHeld k.core f → IsHeld k.core g → IsResult k word t
    → (a : ℕ → Bool) → operate op (value (tree_of k f) a) (value (tree_of k g) a) ≡ value t a
given_result op f g word k t entry hf hg is a =
    (λ i. operate op (value (tree_of k (sym entry.1 i)) a) (value (tree_of k (sym entry.2 i)) a))
    ∙ is (subst (λ (n : ℕ). IsHeld k.core n) (sym entry.1) hf) (subst (λ (n : ℕ). IsHeld k.core n)
    (sym entry.2) hg) op entry.0 a

-- what a look leaves, and a count after it
module _ (op : Op) (f g x cell word : ℕ) (old s1 : Standing) (looks : IsAt 0 (Seen cell word) old
    s1) (tag : operation_of word ≡ tag_of op)
    (first : first_of word ≡ f) (second : second_of word ≡ g) (f_held : IsHeld old.known.core f)
    (g_held : IsHeld old.known.core g) where
  -- the word's result, told of the operands
  as_given : (t : Tree) → IsResult old.known word t → (a : ℕ → Bool)
      → operate op (value (tree_of old.known f) a) (value (tree_of old.known g) a) ≡ value t a
  as_given t is a = given_result op f g word old.known t (tag, first, second) f_held g_held is a

  -- a constant needs no count
  pub finds_constant : (r : ℕ) → r ≡ result_of word → result_of word < 2 → Shown old.known word
      → IsHit op f g r old s1
  finds_constant r is small shown = record {
    forest = looks.forest;
    phase = Seen cell word;
    quiet = tt;
    core = looks.core
        ∙ ap (λ (l : List ℕ). record old.known.core {
          held = l;
          phases =
              set old.known.core.phases 0 (Seen cell word);
        })
        (sym (append-nil old.known.core.held) ∙ ap (λ (l : List ℕ). old.known.core.held ++ l)
        (sym none));
    result = λ a. as_given (tree_of old.known (result_of word)) (shown.constant small) a
        ∙ ap (λ (t : Tree). value t a) (same ∙ ap (tree_of s1.known) (sym is));
    trees = looks.trees;
    snapshots = first_all old.known s1.known looks.others;
    copy = looks.copy;
    known = looks.known;
  }
    where
      none : slots_of (r ∷ []) ≡ []
      none = ap (λ (b : Bool). if b then [] else r ∷ []) (lt-ltb r 2 (omega (arith, is)))

      same : tree_of old.known (result_of word) ≡ tree_of s1.known (result_of word)
      same = constant_trees old.known.trees s1.known.trees (result_of word) small
          (ℕ_discrete (result_of word) 0) (ℕ_discrete (result_of word) 1)

  -- a node was counted up
  pub finds_node : (new : Standing) → 2 ≤ x → IsTaken x s1 new → IsHit op f g x old new
  finds_node new two taken = record {
    forest = taken.forest ∙ looks.forest;
    phase = Idle;
    quiet = tt;
    core = taken.core
        ∙ (ap (λ (v : View). record v { held = v.held ++ x ∷ []; phases = set v.phases 0 Idle })
        looks.core
        ∙ (λ i. record old.known.core {
          held = old.known.core.held ++ sym one i;
          phases =
              set_twice old.known.core.phases (Seen cell word) Idle i;
        }));
    result = λ a. as_given (tree_of new.known x) (result_before 0 (Seen cell word) old s1 word
        (tree_of new.known x) looks (taken.right cell word (phase_now old s1 (Seen cell word)
        looks))) a;
    trees = λ y two_y h. taken.trees y two_y (subst (λ (v : View). 0 < times y v.held)
        (sym looks.core) h) ∙ looks.trees y two_y h;
    snapshots = snapshots_on old.known s1.known new.known (first_all old.known s1.known
        looks.others) taken.snapshots;
    copy = keeps_on old.known s1.known new.known looks.copy taken.copy;
    known = taken.known;
  }
    where
      one : slots_of (x ∷ []) ≡ x ∷ []
      one = ap (λ (b : Bool). if b then [] else x ∷ []) (le-ltb x 2 two)

  -- what was counted up is a hit
  pub hits : (new : Standing) → 2 ≤ x → (o : Option Ref) → IfSome o (λ r. r.number ≡ x)
      → IfSome o (λ r. IsTaken x s1 new) → IfSome o (λ r. IsHit op f g r.number old new)
  hits new two None n t = tt
  hits new two (Some r) n t = subst (λ (k : ℕ). IsHit op f g k old new) (sym n)
      (finds_node new two t)

-- operands in order are held, and a hit of them is one of the operands as they were given
pub ordered_held : (op : Op) (f g m n : ℕ) (p : ℕ × ℕ) (v : View) → m ≡ f → n ≡ g → IsHeld v f
    → IsHeld v g → IsOrdered op m n p → IsHeld v p.0 × IsHeld v p.1
ordered_held op f g m n p v a b first second is = ⊎_elim
    (λ e. subst (λ (q : ℕ × ℕ). IsHeld v q.0 × IsHeld v q.1) (sym (e ∙ (λ i. (a i, b i)))) (
      first,
      second,
    ))
    (λ e. subst (λ (q : ℕ × ℕ). IsHeld v q.0 × IsHeld v q.1) (sym (e.1 ∙ (λ i. (b i, a i))))
    (second, first))
    is

other_way : (op : Op) (f g r : ℕ) (old new : Standing) → op ≢ AndNot → IsHit op g f r old new
    → IsHit op f g r old new
other_way op f g r old new free hit = record {
  forest = hit.forest;
  phase = hit.phase;
  quiet = hit.quiet;
  core = hit.core;
  result = λ a. either_way op (value (tree_of old.known f) a) (value (tree_of old.known g) a) free
      ∙ hit.result a;
  trees = hit.trees;
  snapshots = hit.snapshots;
  copy = hit.copy;
  known = hit.known;
}

pub ordered_hit : (op : Op) (f g m n r : ℕ) (p : ℕ × ℕ) (old new : Standing) → m ≡ f → n ≡ g
    → IsOrdered op m n p → IsHit op p.0 p.1 r old new → IsHit op f g r old new
ordered_hit op f g m n r p old new a b is hit = ⊎_elim
    (λ e. subst (λ (q : ℕ × ℕ). IsHit op q.0 q.1 r old new) (e ∙ (λ i. (a i, b i))) hit)
    (λ e. other_way op f g r old new e.0 (subst (λ (q : ℕ × ℕ). IsHit op q.0 q.1 r old new) (e.1
    ∙ (λ i. (b i, a i))) hit))
    is

-- names that are held fit their fields of a word, in whatever order
pub small_name : (x : ℕ) (k : Known) → IsKnown k → IsHeld k.core x → x < 2 ^ 20
small_name x k known (inl lt) = omega arith
small_name x k known (inr h) = let b = known.below x (known.slots x h) (held_named k.core x h) in
    let l = known.limit in omega arith

pub small_operands : (op : Op) (f g m n : ℕ) (p : ℕ × ℕ) (k : Known) → IsKnown k → IsHeld k.core f
    → IsHeld k.core g → m ≡ f → n ≡ g → IsOrdered op m n p → (p.0 < 2 ^ 20) × (p.1 < 2 ^ 20)
small_operands op f g m n p k known first second a b is = ⊎_elim
    (λ e. subst (λ (q : ℕ × ℕ). (q.0 < 2 ^ 20) × (q.1 < 2 ^ 20)) (sym e) (one, two))
    (λ e. subst (λ (q : ℕ × ℕ). (q.0 < 2 ^ 20) × (q.1 < 2 ^ 20)) (sym e.1) (two, one))
    is
  where
    one : m < 2 ^ 20
    one = subst (λ (x : ℕ). x < 2 ^ 20) (sym a) (small_name f k known first)

    two : n < 2 ^ 20
    two = subst (λ (x : ℕ). x < 2 ^ 20) (sym b) (small_name g k known second)

-- an empty word has no operation
pub some_word : (op : Op) (word : ℕ) → operation_of word ≡ tag_of op → word ≢ 0
unfolding operation_of
some_word And word is e = omega arith
some_word Or word is e = omega arith
some_word Xor word is e = omega arith
some_word AndNot word is e = omega arith

pub constant_number : (n : ℕ) → n < 2 → (if nat_eq n 1 then 1 else 0) ≡ n
constant_number zero lt = refl
constant_number (suc zero) lt = refl
constant_number (suc (suc n)) lt = absurd (omega arith)

-- what was seen may be announced
pub may_announce : (old s1 : Standing) (cell word x : ℕ) → IsAt 0 (Seen cell word) old s1
    → IsReady old.known.core →
    0 < old.known.core.sizes.announcements → 2 ≤ x → x ≡ result_of word
    → MayAnnounce s1.known.core 0 x
may_announce old s1 cell word x at ready some_words two is = (
  ap (λ (v : View). v.position) at.core ∙ ready,
  subst (λ (v : View). 0 < v.sizes.announcements) (sym at.core) some_words,
  subst (λ (p : Phase). LetsAnnounce p x) (sym (phase_now old s1 (Seen cell word) at)) (two, is),
)
