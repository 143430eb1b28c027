-- The steps of a counted load, one after the other.
use Rattle.std.proofs.Common.{◌≡◌, ◌≢◌, ℕ, zero, suc, ◌<◌, ◌≤◌, List, [], ◌∷◌, length, inl, inr}
use Rattle.std.proofs.Common.{set, get_or, eq-eqb, ne_eqb, Some, ◌+◌, refl, sym, ap, subst, ◌∙◌}
use Rattle.std.proofs.Common.{arith}
use Rattle.std.proofs.lemmas.List.{get_or-set_same}
use native.Mathlib.Decide.{ℕ_discrete, dec_le}
use Rattle.eqc_tree.specs.Tree.{Tree, value}
use Rattle.eqc_tree.specs.Operation.{operate}
use Rattle.eqc_core.specs.declared.phase.Phase.{Phase}
use Rattle.eqc_core.specs.declared.phase.Phase.TheVariants.{Idle, Seen, Announced, Confirmed}
use Rattle.eqc_core.specs.declared.phase.Phase.TheVariants.{Missed}
use Rattle.eqc_core.specs.View.{View, phase_at}
use Rattle.eqc_core.specs.Words.{times, first_of, second_of, result_of}
use Rattle.eqc_core.specs.Moves.{IsReady, with_phase}
use Rattle.eqc_core.specs.Announcing.{announced_cell, MayAnnounce, LetsAnnounce, MayRecheck}
use Rattle.eqc_core.specs.Announcing.{IsAnnounced, announced, announced_phase, rechecked}
use Rattle.eqc_core.specs.Announcing.{rechecked_phase}
use Rattle.eqc_guard.specs.Acquiring.{IsAt, IsAcquired}
use Rattle.eqc_guard.specs.Known.{Known, IsHeld, IsKnown, tree_of, tree_in}
use Rattle.eqc_guard.specs.Standing.{Standing, Steps}
use Rattle.eqc_guard.specs.Telling.{IsResult, Rechecks, HasFound, Copies}
use Rattle.eqc_guard.specs.Rule.{cells_from}
use Rattle.eqc_guard.specs.Copying.{cell_in, KeepsCells}
use Rattle.eqc_guard.proofs.Learning.{held_named, keeps_on}
use Rattle.eqc_guard.proofs.Snapshots.{others_keep, others_on}

-- a phase that is set twice is what was set last
pub set_over : (ps : List Phase) (k : ℕ) (p q : Phase) → set (set ps k p) k q ≡ set ps k q
set_over [] k p q = refl
set_over (r ∷ rs) zero p q = refl
set_over (r ∷ rs) (suc k) p q = ap (λ (l : List Phase). r ∷ l) (set_over rs k p q)

pub set_twice : (ps : List Phase) (p q : Phase) → set (set ps 0 p) 0 q ≡ set ps 0 q
set_twice ps p q = set_over ps 0 p q

-- the first step
pub starts : (k : ℕ) (old new : Standing) (p : Phase) → Steps old (with_phase old.known.core k p)
    new → IsAt k p old new
starts k old new p s = record {
  forest = s.forest;
  core = s.known.core;
  trees = λ x two h. s.known.agrees x two (held_named old.known.core x h)
      (held_named (with_phase old.known.core k p) x h);
  others = others_keep old new (with_phase old.known.core k p) s k p refl;
  copy = s.known.copy;
  known = s.known.known;
}

-- and a further one
pub goes_on : (k : ℕ) (old mid new : Standing) (p q : Phase) → IsAt k p old mid
    → Steps mid (with_phase mid.known.core k q) new → IsAt k q old new
goes_on k old mid new p q a s = record {
  forest = s.forest ∙ a.forest;
  core = s.known.core ∙ (ap (λ (v : View). with_phase v k q) a.core
      ∙ ap (λ (ps : List Phase). record old.known.core { phases = ps })
      (set_over old.known.core.phases k p q));
  trees = λ x two h.
      let there : 0 < times x mid.known.core.held = subst (λ (v : View). 0 < times x v.held)
      (sym a.core) h in
      s.known.agrees x two (held_named mid.known.core x there)
      (held_named (with_phase mid.known.core k q) x there) ∙ a.trees x two h;
  others = others_on k old.known mid.known new.known a.others
      (others_keep mid new (with_phase mid.known.core k q) s k q refl);
  copy = keeps_on old.known mid.known new.known a.copy s.known.copy;
  known = s.known.known;
}

-- a worker has a phase for each announcement word
pub word_there : (k : Known) (j : ℕ) → IsKnown k → j < k.core.sizes.announcements
    → j < length k.core.phases
word_there k j known word = let each = known.each in omega arith

-- the announcement word has that phase
pub phase_is : (k : ℕ) (old new : Standing) (q : Phase) → k < length old.known.core.phases
    → IsAt k q old new → phase_at new.known.core k ≡ q
phase_is k old new q there a = ap (λ (v : View). phase_at v k) a.core
    ∙ get_or-set_same old.known.core.phases k q Idle there

-- what may be announced was seen
pub seen_as : (p : Phase) (x : ℕ) → LetsAnnounce p x → 2 ≤ x → (c : ℕ) × (word : ℕ)
    × (p ≡ Seen c word) × (x ≡ result_of word)
seen_as Idle x l two = absurd l
seen_as (Seen c word) x l two = (c, word, refl, l.1)
seen_as (Announced c word) x l two = absurd (omega arith)
seen_as (Confirmed y) x l two = absurd (omega arith)
seen_as (Missed y) x l two = absurd (omega arith)

-- the word of a phase
abbrev word_in : Phase → ℕ
word_in Idle = 0
word_in (Seen c word) = word
word_in (Announced c word) = word
word_in (Confirmed y) = 0
word_in (Missed y) = 0

pub constant_trees : (ps qs : List (ℕ × Tree)) (x : ℕ) → x < 2 → Dec (x ≡ 0) → Dec (x ≡ 1)
    → tree_in ps x ≡ tree_in qs x
constant_trees ps qs x lt (yes e) d = rw (eq-eqb x 0 e) refl
constant_trees ps qs x lt (no n) (yes e) = rw (ne_eqb x 0 n, eq-eqb x 1 e) refl
constant_trees ps qs x lt (no n) (no m) = absurd (omega arith)

-- what is held, a constant or a name, has its tree
pub held_tree_stays : (k : ℕ) (p : Phase) (old new : Standing) (x : ℕ) → IsAt k p old new
    → IsHeld old.known.core x → tree_of new.known x ≡ tree_of old.known x
held_tree_stays k p old new x a (inl lt) = constant_trees new.known.trees old.known.trees x lt
    (ℕ_discrete x 0) (ℕ_discrete x 1)
held_tree_stays k p old new x a (inr h) = go (dec_le 2 x)
  where
    go : Dec (2 ≤ x) → tree_of new.known x ≡ tree_of old.known x
    go (yes two) = a.trees x two h
    go (no n) = constant_trees new.known.trees old.known.trees x (omega arith) (ℕ_discrete x 0)
        (ℕ_discrete x 1)

pub held_stays : (k : ℕ) (p : Phase) (old new : Standing) (x : ℕ) → IsAt k p old new
    → IsHeld old.known.core x → IsHeld new.known.core x
held_stays k p old new x a h = subst (λ (v : View). IsHeld v x) (sym a.core) h

-- a result that is right of the trees known before
pub result_before : (k : ℕ) (p : Phase) (old mid : Standing) (word : ℕ) (t : Tree)
    → IsAt k p old mid → IsResult mid.known word t → IsResult old.known word t
result_before k p old mid word t at is first second op tag a =
    ap (λ (s : Tree). operate op (value s a) (value (tree_of old.known (second_of word)) a))
    (sym (held_tree_stays k p old mid (first_of word) at first))
    ∙ (ap (λ (s : Tree). operate op (value (tree_of mid.known (first_of word)) a) (value s a))
    (sym (held_tree_stays k p old mid (second_of word) at second))
    ∙ is (held_stays k p old mid (first_of word) at first) (held_stays k p old mid (second_of word)
    at second) op tag a)

module _ (k : ℕ) (old s1 : Standing) (c word x : ℕ) (there : k < length old.known.core.phases)
    (seen : phase_at old.known.core k ≡ Seen c word) (says : Steps old (announced old.known.core k)
    s1) where
  announces_it : IsAt k (Announced c word) old s1
  announces_it = starts k old s1 (Announced c word)
      (subst (λ (p : Phase). Steps old (with_phase old.known.core k (announced_phase p)) s1) seen
      says)

  pub phase_then : phase_at s1.known.core k ≡ Announced c word
  phase_then = phase_is k old s1 (Announced c word) there announces_it

  -- so the cell may be looked at again
  pub may_recheck : IsReady old.known.core → k < old.known.core.sizes.announcements
      → MayRecheck s1.known.core k
  may_recheck ready few = (
    ap (λ (v : View). v.position) announces_it.core ∙ ready,
    subst (λ (v : View). k < v.sizes.announcements) (sym announces_it.core) few,
    subst (λ (p : Phase). IsAnnounced p) (sym phase_then) tt,
  )

  module _ (s2 : Standing) (found : ℕ) (looks : Steps s1 (rechecked s1.known.core k found) s2) where
    second_look : (p : Phase) → rechecked_phase (Announced c word) found ≡ p → IsAt k p old s2
    second_look p is = goes_on k old s1 s2 (Announced c word) p announces_it
        (subst (λ (r : Phase). Steps s1 (with_phase s1.known.core k r) s2)
        (ap (λ (r : Phase). rechecked_phase r found) phase_then ∙ is) looks)

    pub confirmed : 2 ≤ result_of word → Rechecks s1.known k found s2.known
        → HasFound (phase_at s1.known.core k) found → IsAcquired k word old s2
    confirmed slot tells has =
        let e : found ≡ word = has c word phase_then in
        record {
          slot = slot;
          confirmed = second_look (Confirmed (result_of word)) (rw (eq-eqb found word e) refl);
          right = result_before k (Announced c word) old s1 word (tree_of s2.known (result_of word))
              announces_it (tells c word phase_then e);
        }

    -- what was announced may be withdrawn, whatever was found
    pub may_withdraw : IsReady old.known.core → k < old.known.core.sizes.announcements
        → MayAnnounce s2.known.core k 0
    may_withdraw ready few = go (ℕ_discrete found word)
      where
        lets : (p : Phase) → LetsAnnounce p 0 → rechecked_phase (Announced c word) found ≡ p
            → MayAnnounce s2.known.core k 0
        lets p l is =
            let a = second_look p is in (
              ap (λ (v : View). v.position) a.core ∙ ready,
              subst (λ (v : View). k < v.sizes.announcements) (sym a.core) few,
              subst (λ (q : Phase). LetsAnnounce q 0) (sym (phase_is k old s2 p there a)) l,
            )

        go : Dec (found ≡ word) → MayAnnounce s2.known.core k 0
        go (yes e) = lets (Confirmed (result_of word)) refl (rw (eq-eqb found word e) refl)
        go (no n) = lets (Missed (result_of word)) refl (rw (ne_eqb found word n) refl)

    has_found : found ≡ word → HasFound (phase_at s1.known.core k) found
    has_found e d text is = e ∙ ap word_in (sym phase_then ∙ is)

    -- a worker that is alone finds the word that its copy has
    pub found_alone : KeepsCells old.known s1.known
        → Copies s1.known (cells_from s1.known.core.sizes
        + announced_cell (phase_at s1.known.core k)) found found s2.known
        → (ws : List ℕ) → old.known.copy ≡ Some ws → cell_in old.known ws c ≡ word
        → HasFound (phase_at s1.known.core k) found
    found_alone keeps copies ws e is =
        let t = keeps ws e in
        let sizes : s1.known.core.sizes ≡ old.known.core.sizes =
        ap (λ (v : View). v.sizes) says.known.core in
        let here : announced_cell (phase_at s1.known.core k) ≡ c =
        ap {B = ℕ} announced_cell phase_then in
        let place : cells_from s1.known.core.sizes + announced_cell (phase_at s1.known.core k)
        ≡ cells_from old.known.core.sizes + c = λ i. cells_from (sizes i) + here i in
        has_found (sym (copies.seen t.0 t.1) ∙ (ap (λ (n : ℕ). get_or t.0 n 0) place
        ∙ (t.2 c ∙ is)))

    pub withdrawn : (s3 : Standing) → (HasFound (phase_at s1.known.core k) found → ⊥)
        → Steps s2 (announced s2.known.core k) s3 → IsAt k Idle old s3
    withdrawn s3 other says' =
        let n : found ≢ word = λ e. other (has_found e) in
        let a : IsAt k (Missed (result_of word)) old s2 = second_look (Missed (result_of word))
        (rw (ne_eqb found word n) refl) in
        let p : phase_at s2.known.core k ≡ Missed (result_of word) =
        phase_is k old s2 (Missed (result_of word)) there a in
        goes_on k old s2 s3 (Missed (result_of word)) Idle a
        (subst (λ (r : Phase). Steps s2 (with_phase s2.known.core k (announced_phase r)) s3) p
        says')

pub joins : (k : ℕ) (old mid new : Standing) (p q : Phase) → IsAt k p old mid → IsAt k q mid new
    → IsAt k q old new
joins k old mid new p q a b = record {
  forest = b.forest ∙ a.forest;
  core = b.core ∙ (ap (λ (v : View). with_phase v k q) a.core
      ∙ ap (λ (ps : List Phase). record old.known.core { phases = ps })
      (set_over old.known.core.phases k p q));
  trees = λ x two h. b.trees x two (subst (λ (v : View). 0 < times x v.held) (sym a.core) h)
      ∙ a.trees x two h;
  others = others_on k old.known mid.known new.known a.others b.others;
  copy = keeps_on old.known mid.known new.known a.copy b.copy;
  known = b.known;
}

-- after a look
pub looked_at : (k : ℕ) (old s1 s2 : Standing) (word : ℕ) (c : ℕ) → IsAt k (Seen c word) old s1
    → IsAcquired k word s1 s2 → IsAcquired k word old s2
looked_at k old s1 s2 word c a is = record {
  slot = is.slot;
  confirmed = joins k old s1 s2 (Seen c word) (Confirmed (result_of word)) a is.confirmed;
  right = result_before k (Seen c word) old s1 word (tree_of s2.known (result_of word)) a is.right;
}
