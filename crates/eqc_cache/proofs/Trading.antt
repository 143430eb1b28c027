-- Names come and go while a worker stores, step by step.
use Rattle.std.proofs.Common.{◌≡◌, ℕ, ◌+◌, ◌*◌, ◌^◌, ◌<◌, ◌≤◌, List, [], ◌∷◌, ◌++◌, set, get_or}
use Rattle.std.proofs.Common.{length, Bool, if◌then◌else◌, Option, Some, None, length-append, refl}
use Rattle.std.proofs.Common.{sym, ap, subst, ◌∙◌, arith, inl, inr}
use Rattle.std.proofs.lemmas.Bool.{lt-ltb, le-ltb}
use native.Mathlib.Decide.{ℕ_discrete, dec_le}
use Rattle.eqc_tree.specs.Tree.{Tree, value}
use Rattle.eqc_tree.specs.Operation.{operate}
use Rattle.eqc_tree.specs.declared.operation.Op.{Op}
use Rattle.eqc_core.specs.declared.phase.Phase.{Phase}
use Rattle.eqc_core.specs.declared.phase.Phase.TheVariants.{Idle}
use Rattle.eqc_core.specs.View.{View, phase_at}
use Rattle.eqc_core.specs.Words.{times, slots_of, operands, first_of, second_of, result_of}
use Rattle.eqc_core.specs.Words.{cell_names, announced_words}
use Rattle.eqc_core.specs.Moves.{IsReady, IsQuiet, AreHeld, forget, without, without_each}
use Rattle.eqc_core.specs.Counting.{upped, downed}
use Rattle.eqc_core.specs.Caching.{swapped}
use Rattle.eqc_core.proofs.Names.{times-append, times-nil, times-same, times-other, times-without}
use Rattle.eqc_core.proofs.Names.{times-without_other, times_without_le, length-without_one}
use Rattle.eqc_core.proofs.Names.{times-without_each, times-slots_of, slots_of_slots, times_more}
use Rattle.eqc_core.proofs.Names.{two_cases}
use Rattle.eqc_guard.specs.Known.{Known, IsHeld, IsKnown, tree_of}
use Rattle.eqc_guard.specs.Standing.{Standing, Steps}
use Rattle.eqc_guard.specs.Sweeping.{IsScanned}
use Rattle.eqc_guard.specs.Filling.{MaySwap, HasEntry, word_of, entry_names}
use Rattle.eqc_guard.specs.declared.filled.Filled.{Filled}
use Rattle.eqc_guard.proofs.Filling.{are_small, may_fill, word_names, no_operands}
use Rattle.eqc_guard.proofs.Acquiring.{set_twice, constant_trees}
use Rattle.eqc_guard.proofs.Counts.{length-without_all}
use Rattle.eqc_guard.proofs.Learning.{held_named, keeps_on}
use Rattle.eqc_guard.proofs.Copying.{keeps_copy}
use Rattle.eqc_guard.proofs.Snapshots.{all_stay, snapshots_on, steps_keep, first_keeps}
use Rattle.eqc_guard.proofs.Sweeping.{forget_none, forget_twice}
use Rattle.eqc_cache.specs.Finding.{IsOrdered}
use Rattle.eqc_cache.specs.Storing.{Trades, IsAsBefore, IsRight, MayReplace}
use Rattle.eqc_cache.proofs.Hits.{first_set, length_set, either_way}

-- a phase that is set to itself
set_same : (ps : List Phase) → set ps 0 (get_or ps 0 Idle) ≡ ps
set_same [] = refl
set_same (p ∷ ps) = refl

no_names : (xs : List ℕ) → length xs ≤ 0 → xs ≡ []
no_names [] few = refl
no_names (x ∷ xs) few = absurd (omega arith)

-- of a name in front, and of the others
pub slots_times : (y x : ℕ) (xs : List ℕ) → times y (slots_of (x ∷ xs))
    ≡ times y (slots_of (x ∷ [])) + times y (slots_of xs)
slots_times y x xs = elim (two_cases x) [
  | inl t ↦ rw t.0 (omega (arith, times-nil y))
  | inr t ↦ rw t.0 (omega (arith, times-append y (x ∷ []) (slots_of xs)))
]

pub slots_length : (x : ℕ) (xs : List ℕ) → length (slots_of (x ∷ xs)) ≡ length (slots_of (x ∷ []))
    + length (slots_of xs)
slots_length x xs = elim (two_cases x) [
  | inl t ↦ rw t.0 (omega arith)
  | inr t ↦
      rw t.0 (omega arith)
]

-- nothing came or went
pub stays : (s : Standing) → IsKnown s.known → IsQuiet (phase_at s.known.core 0) → Trades [] [] s s
stays s known quiet = record {
  forest = refl;
  held = s.known.core.held;
  retired = s.known.core.retired;
  phase = phase_at s.known.core 0;
  quiet = quiet;
  core = λ i. record s.known.core {
    read =
        sym (forget_none s.known.core.held s.known.core.read known.read) i;
    phases =
        sym (set_same s.known.core.phases) i;
  };
  enough = λ x. omega (arith, times-nil x);
  names = λ x. refl;
  lengths = refl;
  trees = λ x two h. refl;
  snapshots = all_stay s.known;
  copy = λ ws e. (ws, e);
  known = known;
}

-- a scan
pub scanned : (old new : Standing) → IsKnown old.known → IsReady old.known.core
    → IsQuiet (phase_at old.known.core 0) → IsScanned old new → Trades [] [] old new
scanned old new known ready quiet s = record {
  forest = s.forest;
  held = s.held;
  retired = s.retired;
  phase = phase_at old.known.core 0;
  quiet = quiet;
  core = s.core ∙ (λ i. record old.known.core {
    held = s.held;
    read = sym reads i;
    position = sym ready i;
    noted = sym noted i;
    retired = s.retired;
    phases = sym (set_same old.known.core.phases) i;
  });
  enough = λ x. omega (arith, times-nil x);
  names = λ x. omega (arith, s.same x);
  lengths = omega (arith, s.lengths);
  trees = λ x two h. s.trees x two (omega (arith, times-nil x));
  snapshots = s.snapshots;
  copy = keeps_copy old.known new.known s.copy;
  known = s.known;
}
  where
    reads : forget s.held old.known.core.read ≡ old.known.core.read
    reads = forget_none s.held old.known.core.read (λ r e. let h = known.read r e in
        omega (arith, s.same r.name))

    noted : old.known.core.noted ≡ []
    noted = no_names old.known.core.noted (let n = known.noted in omega arith)

-- a name was counted up
pub counted : (x : ℕ) (old new : Standing) → IsKnown old.known → IsQuiet (phase_at old.known.core 0)
    → Steps old (upped old.known.core x) new → Trades [] (x ∷ []) old new
counted x old new known quiet s = record {
  forest = s.forest;
  held = old.known.core.held ++ x ∷ [];
  retired = old.known.core.retired;
  phase = phase_at old.known.core 0;
  quiet = quiet;
  core = s.known.core ∙ (λ i. record (upped old.known.core x) {
    phases =
        sym (set_same old.known.core.phases) i;
  });
  enough = λ y. omega (arith, times-nil y);
  names = λ y. omega (arith, times-append y old.known.core.held (x ∷ []), times-nil y);
  lengths = omega (arith, length-append old.known.core.held (x ∷ []));
  trees = λ y two h.
      let was : 0 < times y old.known.core.held = omega arith in
      s.known.agrees y two (held_named old.known.core y was) (held_named (upped old.known.core x) y
      (omega (arith, times-append y old.known.core.held (x ∷ []))));
  snapshots = steps_keep old new (upped old.known.core x) s refl;
  copy = s.known.copy;
  known = s.known.known;
}

-- a cell was swapped
pub swaps : (found word : ℕ) (old new : Standing) → AreHeld (cell_names word) old.known.core.held →
    Steps old (swapped old.known.core found word) new
    → Trades (slots_of (cell_names word)) (slots_of (operands found)) old new
swaps found word old new may s = record {
  forest = s.forest;
  held = without_each (slots_of (cell_names word)) old.known.core.held ++ slots_of (operands found);
  retired = old.known.core.retired ++ slots_of (result_of found ∷ []);
  phase = Idle;
  quiet = tt;
  core = s.known.core;
  enough = enough;
  names = names;
  lengths =
      omega (
        arith,
        length-without_all (slots_of (cell_names word)) old.known.core.held enough,
        length-append (without_each (slots_of (cell_names word)) old.known.core.held)
            (slots_of (operands found)),
      );
  trees = λ x two h.
      let was : 0 < times x old.known.core.held = omega arith in
      s.known.agrees x two (held_named old.known.core x was)
      (held_named (swapped old.known.core found word) x (omega (arith, names x)));
  snapshots = first_keeps old new (swapped old.known.core found word) s Idle refl;
  copy = s.known.copy;
  known = s.known.known;
}
  where
    enough : (x : ℕ) → times x (slots_of (cell_names word)) ≤ times x old.known.core.held
    enough x = go (dec_le 2 x) (dec_le 1 (times x (slots_of (cell_names word))))
      where
        go : Dec (2 ≤ x) → Dec (1 ≤ times x (slots_of (cell_names word)))
            → times x (slots_of (cell_names word)) ≤ times x old.known.core.held
        go (yes two) d = let h = may x two in omega (arith, times-slots_of x (cell_names word) two)
        go (no n) (yes h) = absurd (n (slots_of_slots x (cell_names word) h))
        go (no n) (no m) = omega arith

    names : (x : ℕ) →
        times x (without_each (slots_of (cell_names word)) old.known.core.held
        ++ slots_of (operands found)) + times x
        (slots_of (cell_names word)) ≡ times x old.known.core.held
        + times x (slots_of (operands found))
    names x =
        omega (
          arith,
          times-without_each x (slots_of (cell_names word)) old.known.core.held (enough x),
          times-append x (without_each (slots_of (cell_names word)) old.known.core.held)
              (slots_of (operands found)),
        )

-- what is known after names came
module _ (gone came : List ℕ) (old mid : Standing) (t : Trades gone came old mid) where
  pub ready_now : IsReady old.known.core → IsReady mid.known.core
  ready_now ready = ap (λ (v : View). v.position) t.core ∙ ready

  some_phases : 0 < length old.known.core.phases
  some_phases = let n : 0 < length (set old.known.core.phases 0 t.phase) =
      subst (λ (v : View). 0 < length v.phases) t.core t.known.word in
      omega (arith, length_set old.known.core.phases t.phase)

  pub quiet_now : IsQuiet (phase_at mid.known.core 0)
  quiet_now = subst (λ (p : Phase). IsQuiet p) (sym (ap (λ (v : View). phase_at v 0) t.core
      ∙ first_set old.known.core.phases t.phase some_phases)) t.quiet

  pub names_now : (x : ℕ) → times x mid.known.core.held + times x gone ≡ times x old.known.core.held
      + times x came
  names_now x = subst (λ (v : View). times x v.held + times x gone ≡ times x old.known.core.held
      + times x came) (sym t.core) (t.names x)

  pub lengths_now : length mid.known.core.held + length gone ≡ length old.known.core.held
      + length came
  lengths_now = subst (λ (v : View). length v.held + length gone ≡ length old.known.core.held
      + length came) (sym t.core) t.lengths

-- what was held is held, where nothing went
module _ (came : List ℕ) (old mid : Standing) (t : Trades [] came old mid) where
  pub still_held : (x : ℕ) → IsHeld old.known.core x → IsHeld mid.known.core x
  still_held x (inl lt) = inl lt
  still_held x (inr h) = inr (omega (arith, names_now [] came old mid t x, times-nil x))

  pub same_tree : (x : ℕ) → IsHeld old.known.core x → tree_of mid.known x ≡ tree_of old.known x
  same_tree x (inl lt) = constant_trees mid.known.trees old.known.trees x lt (ℕ_discrete x 0)
      (ℕ_discrete x 1)
  same_tree x (inr h) = go (dec_le 2 x)
    where
      go : Dec (2 ≤ x) → tree_of mid.known x ≡ tree_of old.known x
      go (yes two) = t.trees x two (omega (arith, times-nil x))
      go (no n) = constant_trees mid.known.trees old.known.trees x (omega arith) (ℕ_discrete x 0)
          (ℕ_discrete x 1)

  pub right_still : (op : Op) (f g r : ℕ) → IsHeld old.known.core f → IsHeld old.known.core g
      → IsHeld old.known.core r → IsRight old.known op f g r → IsRight mid.known op f g r
  right_still op f g r a b c right y =
      ap (λ (s : Tree). operate op (value s y) (value (tree_of mid.known g) y)) (same_tree f a)
      ∙ (ap (λ (s : Tree). operate op (value (tree_of old.known f) y) (value s y)) (same_tree g b)
      ∙ (right y ∙ ap (λ (s : Tree). value s y) (sym (same_tree r c))))

-- first names came, then others went and came: together these went and came
module _ (came went more gone all : List ℕ) (old mid new : Standing) (t : Trades [] came old mid)
    (u : Trades went more mid new) (known : IsKnown old.known)
    (balance : (x : ℕ) → times x gone + (times x more + times x came) ≡ times x went + times x all)
    (weights : length gone + (length more + length came) ≡ length went + length all)
    (covers : (x : ℕ) → times x went ≤ times x gone + times x came)
    (enough : (x : ℕ) → times x gone ≤ times x old.known.core.held) where
  pub together : Trades gone all old new
  together = record {
    forest = u.forest ∙ t.forest;
    held = u.held;
    retired = u.retired;
    phase = u.phase;
    quiet = u.quiet;
    core = u.core ∙ (ap (λ (v : View). record v {
      held = u.held;
      read = forget u.held v.read;
      retired = u.retired;
      phases = set v.phases 0 u.phase;
    }) t.core
        ∙ (λ i. record old.known.core {
          held = u.held;
          read = forget u.held (reads i);
          retired =
              u.retired;
          phases = set_twice old.known.core.phases t.phase u.phase i;
        }));
    enough = enough;
    names = λ x. omega (arith, u.names x, names_now [] came old mid t x, balance x, times-nil x);
    lengths = omega (arith, u.lengths, lengths_now [] came old mid t, weights);
    trees = λ x two h.
        u.trees x two (omega (arith, names_now [] came old mid t x, covers x, times-nil x))
        ∙ t.trees x two (omega (arith, times-nil x));
    snapshots = snapshots_on old.known mid.known new.known t.snapshots u.snapshots;
    copy = keeps_on old.known mid.known new.known t.copy u.copy;
    known = u.known;
  }
    where
      reads : forget t.held old.known.core.read ≡ old.known.core.read
      reads = forget_none t.held old.known.core.read (λ r e. let h = known.read r e in
          omega (arith, t.names r.name, times-nil r.name))

-- a name that came is given back
module _ (gone came : List ℕ) (x : ℕ) (old mid next : Standing) (t : Trades gone (x ∷ came) old mid)
    (s : Steps mid (downed mid.known.core x) next) where
  mine : mid.known.core.held ≡ t.held
  mine = ap (λ (v : View). v.held) t.core

  there : 0 < times x t.held
  there = let e = t.enough x in omega (arith, t.names x, times-same x x came refl)

  left : (y : ℕ) → Dec (x ≡ y) → times y (without x t.held) + times y gone
      ≡ times y old.known.core.held + times y came
  left y (yes e) =
      let w : 1 + times y (without x t.held) ≡ times y t.held =
      subst (λ (k : ℕ). 1 + times k (without x t.held) ≡ times k t.held) e
      (times-without x t.held there) in
      omega (arith, t.names y, times-same y x came e)
  left y (no n) = omega (arith, t.names y, times-without_other y x t.held n, times-other y x came n)

  pub returned : Trades gone came old next
  returned = record {
    forest = s.forest ∙ t.forest;
    held = without x t.held;
    retired = t.retired;
    phase = t.phase;
    quiet = t.quiet;
    core = s.known.core
        ∙ (ap (λ (v : View). downed v x) t.core
        ∙ (λ i.
        record old.known.core {
          held = without x t.held;
          read = forget_twice t.held (without x t.held) old.known.core.read (λ y. times_without_le y
              x t.held) i;
          retired = t.retired;
          phases = set old.known.core.phases 0 t.phase;
        }));
    enough = t.enough;
    names = λ y. left y (ℕ_discrete x y);
    lengths = omega (arith, t.lengths, length-without_one x t.held there);
    trees = λ y two h.
        let is : 0 < times y (without x t.held) = omega (arith, left y (ℕ_discrete x y)) in
        let was : 0 < times y t.held = omega (arith, times_without_le y x t.held) in
        let here : 0 < times y mid.known.core.held = subst (λ (l : List ℕ). 0 < times y l)
        (sym mine) was in
        let after : 0 < times y (downed mid.known.core x).held =
        subst (λ (l : List ℕ). 0 < times y (without x l)) (sym mine) is in
        s.known.agrees y two (held_named mid.known.core y here)
        (held_named (downed mid.known.core x) y after) ∙ t.trees y two h;
    snapshots = snapshots_on old.known mid.known next.known t.snapshots
        (steps_keep mid next (downed mid.known.core x) s refl);
    copy = keeps_on old.known mid.known next.known t.copy s.known.copy;
    known = s.known.known;
  }

-- so is a name that may be a constant, which takes no step
pub gives_back : (gone came : List ℕ) (x : ℕ) (old mid next : Standing)
    → Trades gone (slots_of (x ∷ came)) old mid → (x < 2 → next ≡ mid) →
    (2 ≤ x → Steps mid (downed mid.known.core x) next) → Trades gone (slots_of came) old next
gives_back gone came x old mid next t same step = elim (two_cases x) [
  | inl c ↦ subst (λ (s : Standing). Trades gone (slots_of came) old s) (sym (same c.1))
      (subst (λ (b : Bool). Trades gone (if b then slots_of came else x ∷ slots_of came) old mid) c.0
      t)
  | inr c ↦ returned gone (slots_of came) x old mid next
      (subst (λ (b : Bool). Trades gone (if b then slots_of came else x ∷ slots_of came) old mid) c.0
      t) (step c.1)
]

-- what came is held, or a constant
pub came_held : (gone came : List ℕ) (x : ℕ) (old mid : Standing)
    → Trades gone (slots_of (x ∷ came)) old mid → IsHeld mid.known.core x
came_held gone came x old mid t = elim (two_cases x) [
  | inl c ↦ inl c.1
  | inr c ↦ inr (
      let u : Trades gone (x ∷ slots_of came) old mid =
      subst (λ (b : Bool). Trades gone (if b then slots_of came else x ∷ slots_of came) old mid)
      c.0 t in
      let e = u.enough x in
      omega (
        arith,
        names_now gone (x ∷ slots_of came) old mid u x,
        times-same x x (slots_of came)
            refl,
      ))
]

-- in the end
pub as_before : (old new : Standing) → IsKnown old.known → Trades [] [] old new → IsAsBefore old new
as_before old new known t = record {
  forest = t.forest;
  held = t.held;
  retired = t.retired;
  phase = t.phase;
  quiet = t.quiet;
  core = t.core ∙ (λ i. record old.known.core {
    held = t.held;
    read = reads i;
    retired = t.retired;
    phases = set old.known.core.phases 0 t.phase;
  });
  names = λ x. omega (arith, t.names x);
  lengths = omega (arith, t.lengths);
  trees = λ x two h. t.trees x two (omega (arith, times-nil x));
  snapshots = t.snapshots;
  copy = t.copy;
  known = t.known;
}
  where
    reads : forget t.held old.known.core.read ≡ old.known.core.read
    reads = forget_none t.held old.known.core.read (λ r e. let h = known.read r e in
        omega (arith, t.names r.name))

-- a result that is right is right of the operands in order
pub right_in_order : (op : Op) (f g r : ℕ) (p : ℕ × ℕ) (s : Standing) → IsOrdered op f g p
    → IsRight s.known op f g r → IsRight s.known op p.0 p.1 r
right_in_order op f g r p s (inl e) right a =
    ap (λ (k : ℕ × ℕ). operate op (value (tree_of s.known k.0) a) (value (tree_of s.known k.1) a)) e
    ∙ right a
right_in_order op f g r p s (inr q) right a =
    ap (λ (k : ℕ × ℕ). operate op (value (tree_of s.known k.0) a) (value (tree_of s.known k.1) a))
    q.1
    ∙ (either_way op (value (tree_of s.known g) a) (value (tree_of s.known f) a) q.0 ∙ right a)

pub first_in_order : (op : Op) (f g : ℕ) (p : ℕ × ℕ) (s : Standing) → IsOrdered op f g p
    → IsHeld s.known.core f → IsHeld s.known.core g → IsHeld s.known.core p.0
    × IsHeld s.known.core p.1
first_in_order op f g p s (inl e) a b = (
  subst (λ (k : ℕ × ℕ). IsHeld s.known.core k.0) (sym e) a,
  subst (λ (k : ℕ × ℕ). IsHeld s.known.core k.1) (sym e) b,
)
first_in_order op f g p s (inr q) a b = (
  subst (λ (k : ℕ × ℕ). IsHeld s.known.core k.0) (sym q.1) b,
  subst (λ (k : ℕ × ℕ). IsHeld s.known.core k.1) (sym q.1) a,
)

-- a held name that is no constant is below the number of names
pub below : (s : Standing) (x : ℕ) → IsKnown s.known → 2 ≤ x → IsHeld s.known.core x
    → x < s.known.core.sizes.names
below s x known two (inl lt) = absurd (omega arith)
below s x known two (inr h) = known.below x two (held_named s.known.core x h)

-- a constant is copied without a count, and another name with one
pub copies_constant : (x : ℕ) (s : Standing) → x < 2 → IsKnown s.known
    → IsQuiet (phase_at s.known.core 0) → Trades [] (slots_of (x ∷ [])) s s
copies_constant x s lt known quiet = subst (λ (b : Bool). Trades [] (if b then [] else x ∷ []) s s)
    (sym (lt-ltb x 2 lt)) (stays s known quiet)

pub copies_name : (x : ℕ) (old new : Standing) → 2 ≤ x → IsKnown old.known
    → IsQuiet (phase_at old.known.core 0) → Steps old (upped old.known.core x) new
    → Trades [] (slots_of (x ∷ [])) old new
copies_name x old new two known quiet s = subst (λ (b : Bool). Trades [] (if b then [] else x ∷ [])
    old new) (sym (le-ltb x 2 two)) (counted x old new known quiet s)

-- one name more came
pub and_one : (x : ℕ) (xs : List ℕ) (old mid new : Standing) → IsKnown old.known
    → Trades [] (slots_of xs) old mid → Trades [] (slots_of (x ∷ [])) mid new
    → Trades [] (slots_of (x ∷ xs)) old new
and_one x xs old mid new known t u =
    together (slots_of xs) [] (slots_of (x ∷ [])) [] (slots_of (x ∷ xs)) old mid new t u known
    (λ y. omega (arith, slots_times y x xs))
    (omega (arith, slots_length x xs))
    (λ y. omega (arith, times-nil y))
    (λ y. omega (arith, times-nil y))

-- the operands and the result came
pub entry_came : (f g r : ℕ) (old mid new : Standing) → IsKnown old.known
    → Trades [] (slots_of (g ∷ f ∷ [])) old mid →
    Trades [] (slots_of (r ∷ [])) mid new → Trades [] (slots_of (r ∷ f ∷ g ∷ [])) old new
entry_came f g r old mid new known t u =
    together (slots_of (g ∷ f ∷ [])) [] (slots_of (r ∷ [])) [] (slots_of (r ∷ f ∷ g ∷ [])) old mid
    new t u known
    (λ y. omega (
      arith,
      slots_times y r (f ∷ g ∷ []),
      slots_times y f (g ∷ []),
      slots_times y g (f ∷ []),
    ))
    (omega (arith, slots_length r (f ∷ g ∷ []), slots_length f (g ∷ []), slots_length g (f ∷ [])))
    (λ y. omega (arith, times-nil y))
    (λ y. omega (arith, times-nil y))

-- and are an entry to give
pub has_entry : (op : Op) (f g r : ℕ) (old new : Standing)
    → Trades [] (slots_of (r ∷ f ∷ g ∷ [])) old new → IsHeld old.known.core f →
    IsHeld old.known.core g → IsHeld old.known.core r → IsRight old.known op f g r
    → AreHeld (r ∷ f ∷ g ∷ []) new.known.core.held × IsRight new.known op f g r
has_entry op f g r old new t a b c right = (
  λ x two. omega (
    arith,
    names_now [] (slots_of (r ∷ f ∷ g ∷ [])) old new t x,
    times-slots_of x (r ∷ f ∷ g ∷ []) two,
    times-nil x,
  ),
  right_still (slots_of (r ∷ f ∷ g ∷ [])) old new t op f g r a b c right,
)

-- what an entry has is held, or a constant
one_held : (x : ℕ) (names : List ℕ) (s : Standing) → AreHeld names s.known.core.held
    → 0 < times x names → IsHeld s.known.core x
one_held x names s held there = go (dec_le 2 x)
  where
    go : Dec (2 ≤ x) → IsHeld s.known.core x
    go (yes two) = inr (let h = held x two in omega arith)
    go (no n) = inl (omega arith)

-- an entry is one still where names stayed
pub entry_stays : (filled : Option Filled) (old mid : Standing) → Trades [] [] old mid
    → HasEntry old.known filled → HasEntry mid.known filled
entry_stays None old mid t entry = tt
entry_stays (Some e) old mid t entry =
    let names : List ℕ = e.r.number ∷ e.f.number ∷ e.g.number ∷ [] in
    let f : IsHeld old.known.core e.f.number =
    one_held e.f.number (e.r.number ∷ e.f.number ∷ e.g.number ∷ []) old entry.0
    (times_more e.f.number e.r.number (e.f.number ∷ e.g.number ∷ [])
    (omega (arith, times-same e.f.number e.f.number (e.g.number ∷ []) refl))) in
    let g : IsHeld old.known.core e.g.number =
    one_held e.g.number (e.r.number ∷ e.f.number ∷ e.g.number ∷ []) old entry.0
    (times_more e.g.number e.r.number (e.f.number ∷ e.g.number ∷ []) (times_more e.g.number
    e.f.number (e.g.number ∷ []) (omega (arith, times-same e.g.number e.g.number [] refl)))) in
    let r : IsHeld old.known.core e.r.number =
    one_held e.r.number (e.r.number ∷ e.f.number ∷ e.g.number ∷ []) old entry.0
    (omega (arith, times-same e.r.number e.r.number (e.f.number ∷ e.g.number ∷ []) refl)) in (
      λ x two. let h = entry.0 x two in omega (arith, names_now [] [] old mid t x),
      right_still [] old mid t e.op e.f.number e.g.number e.r.number f g r entry.1,
    )

-- with room for one more retired name the cell may be swapped
pub may_swap : (c : ℕ) (filled : Option Filled) (old mid : Standing) → MayReplace old.known c filled
    → Trades [] [] old mid →
    length mid.known.core.retired < 2 * announced_words mid.known.core.sizes
    → MaySwap mid.known c filled
may_swap c filled old mid may t few = record {
  ready = ready_now [] [] old mid t may.ready;
  there = subst (λ (v : View). c < v.sizes.cells) (sym t.core) may.there;
  quiet = quiet_now [] [] old mid t;
  entry = entry_stays filled old mid t may.entry;
  few = few;
  room = let r = may.room in omega (arith, lengths_now [] [] old mid t);
}

-- the swap takes the entry's names and gives the operands that the cell had
pub swap_trades : (c found : ℕ) (filled : Option Filled) (old new : Standing) → IsKnown old.known
    → MaySwap old.known c filled →
    Steps old (swapped old.known.core found (word_of filled)) new
    → Trades (entry_names filled) (slots_of (operands found)) old new
swap_trades c found filled old new known may s =
    let small = are_small old.known c filled known known.limit may in
    subst (λ (l : List ℕ). Trades l (slots_of (operands found)) old new) (word_names filled small)
    (swaps found (word_of filled) old new (may_fill old.known c filled small may).held s)

-- so where it had these operands, and where it was empty
pub swap_gives : (c found f g : ℕ) (filled : Option Filled) (old new : Standing) → IsKnown old.known
    → MaySwap old.known c filled →
    Steps old (swapped old.known.core found (word_of filled)) new → f ≡ first_of found
    → g ≡ second_of found
    → Trades (entry_names filled) (slots_of (f ∷ g ∷ [])) old new
swap_gives c found f g filled old new known may s a b =
    subst (λ (l : List ℕ). Trades (entry_names filled) (slots_of l) old new) (λ i. sym a i ∷ sym b i
    ∷ []) (swap_trades c found filled old new known may s)

pub swap_gives_none : (c found : ℕ) (filled : Option Filled) (old new : Standing)
    → IsKnown old.known → MaySwap old.known c filled →
    Steps old (swapped old.known.core found (word_of filled)) new → found ≡ 0
    → Trades (entry_names filled) [] old new
swap_gives_none c found filled old new known may s zero =
    subst (λ (l : List ℕ). Trades (entry_names filled) l old new)
    (ap (λ (n : ℕ). slots_of (operands n)) zero ∙ no_operands) (swap_trades c found filled old
    new known may s)

-- names went after room was made
pub after_room : (names : List ℕ) (old mid new : Standing) → IsKnown old.known
    → Trades [] [] old mid → Trades names [] mid new → Trades names [] old new
after_room names old mid new known t u =
    together [] names [] names [] old mid new t u known
    (λ x. omega (arith, times-nil x))
    (omega arith)
    (λ x. omega (arith, times-nil x))
    (λ x. omega (arith, u.enough x, names_now [] [] old mid t x, times-nil x))

-- what came went
pub came_and_went : (names : List ℕ) (old mid new : Standing) → IsKnown old.known
    → Trades [] names old mid → Trades names [] mid new → Trades [] [] old new
came_and_went names old mid new known t u =
    together names names [] [] [] old mid new t u known
    (λ x. omega (arith, times-nil x))
    (omega arith)
    (λ x. omega (arith, times-nil x))
    (λ x. omega (arith, times-nil x))

-- once the entry's names came, the cell may be changed
pub may_replace : (c : ℕ) (filled : Option Filled) (came : List ℕ) (old mid : Standing)
    → IsReady old.known.core →
    c < old.known.core.sizes.cells → Trades [] came old mid → HasEntry mid.known filled
    → length mid.known.core.held ≤ 2 ^ 39 →
    MayReplace mid.known c filled
may_replace c filled came old mid ready there t entry room = record {
  known = t.known;
  ready = ready_now [] came old mid t ready;
  there = subst (λ (v : View). c < v.sizes.cells) (sym t.core) there;
  quiet = quiet_now [] came old mid t;
  entry = entry;
  room = room;
}

-- what is right of some numbers is right of the same
pub right_of : (k : Known) (op : Op) (f g r a b c : ℕ) → f ≡ a → g ≡ b → r ≡ c → IsRight k op a b c
    → IsRight k op f g r
right_of k op f g r a b c x y z is = subst (λ (n : ℕ). IsRight k op n g r) (sym x)
    (subst (λ (n : ℕ). IsRight k op a n r) (sym y) (subst (λ (n : ℕ). IsRight k op a b n) (sym z)
    is))
