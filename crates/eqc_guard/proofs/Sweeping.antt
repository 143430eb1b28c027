-- A whole scan, step by step.
use Rattle.std.proofs.Common.{◌≡◌, ℕ, ◌+◌, ◌*◌, ◌-◌, ◌<◌, ◌≤◌, List, [], ◌∷◌, ◌++◌, length, Bool}
use Rattle.std.proofs.Common.{if◌then◌else◌, Option, Some, None, length-append, refl, sym, ap}
use Rattle.std.proofs.Common.{subst, ◌∙◌, arith, inl, inr}
use Rattle.std.proofs.lemmas.Bool.{lt-ltb, le-ltb}
use Rattle.eqc_core.specs.View.{View, Read, phase_at}
use Rattle.eqc_core.specs.Words.{times, announced_words}
use Rattle.eqc_core.specs.Moves.{IsReady, IsQuiet, with_held, without, note, forget}
use Rattle.eqc_core.specs.Scanning.{kept, ejected, scan_on, scan_end, scanned}
use Rattle.eqc_core.specs.Counting.{downed}
use Rattle.eqc_core.proofs.Names.{times-append, times-nil, times-same, times-other, times-without}
use Rattle.eqc_core.proofs.Names.{times-without_other, times_without_le, length-without_one}
use Rattle.eqc_core.proofs.Bounds.{kept_few}
use Rattle.eqc_core.proofs.Scanning.{some_cases, length_note, kept_ejected}
use native.Mathlib.Decide.{ℕ_discrete}
use Rattle.eqc_guard.specs.Known.{Known, IsKnown, names_of, tree_of}
use Rattle.eqc_guard.specs.Standing.{Standing, Steps}
use Rattle.eqc_guard.specs.Sweeping.{IsSilent, AreNone, scanning, IsScanning, IsSwept, IsLetting}
use Rattle.eqc_guard.specs.Sweeping.{IsScanned}
use Rattle.eqc_guard.proofs.Announced.{none_announced}
use Rattle.eqc_guard.proofs.Learning.{held_named}
use Rattle.eqc_guard.proofs.Snapshots.{all_stay, snapshots_on, steps_keep}
use Rattle.eqc_guard.specs.Copying.{KeepsCells}
use Rattle.eqc_guard.specs.Telling.{Copies}
use Rattle.eqc_guard.proofs.Copying.{cells_stay, cells_on, load_keeps}

-- what was read last stays while its name is held
pub forget_none : (held : List ℕ) (o : Option Read) → ((r : Read) → o ≡ Some r
    → 0 < times r.name held) → forget held o ≡ o
forget_none held None is = refl
forget_none held (Some r) is = rw (lt-ltb 0 (times r.name held) (is r refl)) refl

no_length : (xs : List ℕ) → length xs ≤ 0 → xs ≡ []
no_length [] few = refl
no_length (x ∷ xs) few = absurd (omega arith)

pub begins : (s : Standing) → IsKnown s.known → IsReady s.known.core → IsScanning s s
begins s known ready = record {
  forest = refl;
  position = s.known.core.position;
  noted = s.known.core.noted;
  core = refl;
  alone = λ silent ws e. no_length s.known.core.noted (let n = known.noted in omega arith);
  trees = λ x two h. refl;
  snapshots = all_stay s.known;
  copy = cells_stay s.known;
  known = known;
}

-- the scan of a worker that is alone, and announces nothing, reads no name
pub reads_none : (old mid next : Standing) (name : ℕ) → IsScanning old mid
    → IsQuiet (phase_at old.known.core 0) → Copies mid.known (2 * mid.known.core.position) name name
    next.known
    → IsSilent old.known.core → (ws : List ℕ) → old.known.copy ≡ Some ws → name ≡ 0
reads_none old mid next name m quiet copies silent ws e =
    let t = m.copy ws e in
    let first : IsQuiet (phase_at mid.known.core 0) = subst (λ (v : View). IsQuiet (phase_at v 0))
    (sym m.core) quiet in
    let others : IsSilent mid.known.core = subst (λ (v : View). IsSilent v) (sym m.core) silent in
    sym (copies.seen t.0 t.1) ∙ none_announced mid.known t.0 mid.known.core.position m.known first
    others t.1 m.known.place

-- so it notes none
notes_none : (k : Known) (name : ℕ) (noted : List ℕ) → AreNone k noted
    → (IsSilent k.core → (ws : List ℕ) → k.copy ≡ Some ws → name ≡ 0) → AreNone k (note name noted)
notes_none k name noted none zero silent ws e = λ i. note (zero silent ws e i) (none silent ws e i)

-- and keeps none
kept_none : (xs : List ℕ) → kept [] xs ≡ []
kept_none [] = refl
kept_none (x ∷ xs) = rw (le-ltb 0 (times x []) (omega (arith, times-nil x))) (kept_none xs)

module _ (old mid next : Standing) (name : ℕ) (m : IsScanning old mid)
    (s : Steps mid (scanned mid.known.core name) next)
    (copies : Copies mid.known (2 * mid.known.core.position) name name next.known)
    (zero : IsSilent old.known.core → (ws : List ℕ) → old.known.copy ≡ Some ws → name ≡ 0) where
  there : (x : ℕ) → 0 < times x old.known.core.held → 0 < times x mid.known.core.held
  there x h = subst (λ (v : View). 0 < times x v.held) (sym m.core) h

  module _ (more : mid.known.core.position + 1 < announced_words mid.known.core.sizes) where
    on : scanned mid.known.core name ≡ scan_on mid.known.core name
    on = ap (λ (b : Bool). if b then scan_on mid.known.core name else scan_end mid.known.core name)
        (lt-ltb (mid.known.core.position + 1) (announced_words mid.known.core.sizes) more)

    pub further : IsScanning old next
    further = record {
      forest = s.forest ∙ m.forest;
      position = m.position + 1;
      noted = note name m.noted;
      core = s.known.core ∙ (on ∙ ap (λ (v : View). scan_on v name) m.core);
      alone = notes_none old.known name m.noted m.alone zero;
      trees = λ x two h.
          s.known.agrees x two (held_named mid.known.core x (there x h)) (subst (λ (v : View). 0
          < times x (names_of v)) (sym on) (held_named (scan_on mid.known.core name) x
          (there x h)))
          ∙ m.trees x two h;
      snapshots = snapshots_on old.known mid.known next.known m.snapshots
          (steps_keep mid next (scanned mid.known.core name) s (ap (λ (v : View). v.phases) on));
      copy = cells_on old.known mid.known next.known (ap (λ (v : View). v.sizes) m.core) m.copy
          (load_keeps mid.known next.known (2 * mid.known.core.position) name copies);
      known = s.known.known;
    }

    pub nearer : announced_words next.known.core.sizes - next.known.core.position
        < announced_words mid.known.core.sizes - mid.known.core.position
    nearer = subst (λ (v : View). announced_words v.sizes - v.position
        < announced_words mid.known.core.sizes - mid.known.core.position) (sym (s.known.core ∙ on))
        (omega arith)

abbrev tail : List ℕ → List ℕ
tail [] = []
tail (x ∷ xs) = xs

cancel : (a b c : List ℕ) → a ++ b ≡ a ++ c → b ≡ c
cancel [] b c e = e
cancel (x ∷ a) b c e = cancel a b c (ap tail e)

module _ (old mid next : Standing) (name : ℕ) (m : IsScanning old mid)
    (s : Steps mid (scanned mid.known.core name) next)
    (copies : Copies mid.known (2 * mid.known.core.position) name name next.known)
    (zero : IsSilent old.known.core → (ws : List ℕ) → old.known.copy ≡ Some ws → name ≡ 0)
    (end : announced_words mid.known.core.sizes ≤ mid.known.core.position + 1) where
  off : scanned mid.known.core name ≡ scan_end mid.known.core name
  off = ap (λ (b : Bool). if b then scan_on mid.known.core name else scan_end mid.known.core name)
      (le-ltb (mid.known.core.position + 1) (announced_words mid.known.core.sizes) end)

  last : next.known.core ≡ scan_end (scanning old.known.core m.position m.noted) name
  last = s.known.core ∙ (off ∙ ap (λ (v : View). scan_end v name) m.core)

  pub ends : (go : List ℕ) → next.known.core.held ≡ mid.known.core.held ++ go → IsSwept go old next
  ends go held =
      let mine : mid.known.core.held ≡ old.known.core.held = ap (λ (v : View). v.held) m.core in
      let same : go ≡ ejected (note name m.noted) old.known.core.retired =
      cancel old.known.core.held go (ejected (note name m.noted) old.known.core.retired)
      (ap (λ (l : List ℕ). l ++ go) (sym mine) ∙ (sym held ∙ ap (λ (v : View). v.held) last)) in
      let reads : (r : Read) → old.known.core.read ≡ Some r → 0 < times r.name old.known.core.held =
      subst (λ (v : View). (r : Read) → v.read ≡ Some r → 0 < times r.name v.held) m.core
      m.known.read in
      let stays : forget (old.known.core.held ++ go) old.known.core.read ≡ old.known.core.read =
      forget_none (old.known.core.held ++ go) old.known.core.read (λ r e. let h = reads r e in
      omega (arith, times-append r.name old.known.core.held go)) in
      let noted : length m.noted ≤ m.position = subst (λ (v : View). length v.noted ≤ v.position)
      m.core m.known.noted in
      let place : m.position < announced_words old.known.core.sizes =
      subst (λ (v : View). v.position < announced_words v.sizes) m.core m.known.place in
      record {
        forest = s.forest ∙ m.forest;
        retired = kept (note name m.noted) old.known.core.retired;
        core = last
            ∙ (ap (λ (l : List ℕ). record (with_held old.known.core (old.known.core.held ++ l)) {
              position = 0;
              noted = [];
              retired = kept (note name m.noted) old.known.core.retired;
            }) (sym same)
            ∙ ap (λ (o : Option Read). record old.known.core {
              held = old.known.core.held ++ go;
              read = o;
              position = 0;
              noted = [];
              retired =
                  kept (note name m.noted) old.known.core.retired;
            })
            stays);
        names = λ x. omega (
          arith,
          kept_ejected x (note name m.noted) old.known.core.retired,
          ap (λ (l : List ℕ). times x l) same,
        );
        few = omega (
          arith,
          kept_few (note name m.noted) old.known.core.retired,
          length_note name m.noted,
        );
        alone = λ silent ws e. ap (λ (l : List ℕ). kept l old.known.core.retired)
            (notes_none old.known name m.noted m.alone zero silent ws e)
            ∙ kept_none old.known.core.retired;
        trees = λ x two h.
            let was : 0 < times x mid.known.core.held = subst (λ (v : View). 0 < times x v.held)
            (sym m.core) h in
            let is : 0 < times x (scan_end mid.known.core name).held =
            omega (
              arith,
              times-append x mid.known.core.held
                  (ejected (note name mid.known.core.noted) mid.known.core.retired),
            ) in
            s.known.agrees x two (held_named mid.known.core x was) (subst (λ (v : View). 0
            < times x (names_of v)) (sym off) (held_named (scan_end mid.known.core name) x is))
            ∙ m.trees x two h;
        snapshots = snapshots_on old.known mid.known next.known m.snapshots
            (steps_keep mid next (scanned mid.known.core name) s (ap (λ (v : View). v.phases) off));
        copy = cells_on old.known mid.known next.known (ap (λ (v : View). v.sizes) m.core) m.copy
            (load_keeps mid.known next.known (2 * mid.known.core.position) name copies);
        known = s.known.known;
      }

-- what is forgotten by fewer names is forgotten
pub forget_twice : (a b : List ℕ) (o : Option Read) → ((x : ℕ) → times x b ≤ times x a)
    → forget b (forget a o) ≡ forget b o
forget_twice a b None fewer = refl
forget_twice a b (Some r) fewer = elim (some_cases (times r.name a)) [
  | inl t ↦ rw t.0 refl
  | inr t ↦ rw (t.0, le-ltb 0 (times r.name b) (let f = fewer r.name in omega arith)) refl
]

-- giving back begins
pub lets_all : (gone : List ℕ) (s : Standing) → IsKnown s.known → IsLetting gone gone s s
lets_all gone s known = record {
  forest = refl;
  held = s.known.core.held;
  core = ap (λ (o : Option Read). record s.known.core { read = o })
      (sym (forget_none s.known.core.held s.known.core.read known.read));
  names = λ x. refl;
  lengths = refl;
  trees = λ x two h. refl;
  snapshots = all_stay s.known;
  copy = cells_stay s.known;
  known = known;
}

module _ (gone rest : List ℕ) (x : ℕ) (swept mid next : Standing) (m : IsLetting gone (x ∷ rest)
    swept mid)
    (s : Steps mid (downed mid.known.core x) next) (there : 0 < times x m.held)
    (keeps : KeepsCells mid.known next.known) where
  mine : mid.known.core.held ≡ m.held
  mine = ap (λ (v : View). v.held) m.core

  left : (y : ℕ) → Dec (x ≡ y) → times y (without x m.held) + times y gone
      ≡ times y swept.known.core.held + times y rest
  left y (yes e) =
      let t : 1 + times y (without x m.held) ≡ times y m.held =
      subst (λ (k : ℕ). 1 + times k (without x m.held) ≡ times k m.held) e
      (times-without x m.held there) in
      omega (arith, m.names y, times-same y x rest e)
  left y (no n) = omega (arith, m.names y, times-without_other y x m.held n, times-other y x rest n)

  -- a name that is held still was held, and has its tree
  let_tree : (y : ℕ) → 2 ≤ y → 0 < times y (without x m.held) → tree_of next.known y
      ≡ tree_of swept.known y
  let_tree y two h =
      let was : 0 < times y m.held = omega (arith, times_without_le y x m.held) in
      let here : 0 < times y mid.known.core.held = subst (λ (l : List ℕ). 0 < times y l) (sym mine)
      was in
      let after : 0 < times y (downed mid.known.core x).held =
      subst (λ (l : List ℕ). 0 < times y (without x l)) (sym mine) h in
      s.known.agrees y two (held_named mid.known.core y here) (held_named (downed mid.known.core x)
      y after) ∙ m.trees y two was

  pub lets_one : IsLetting gone rest swept next
  lets_one = record {
    forest = s.forest ∙ m.forest;
    held = without x m.held;
    core = s.known.core
        ∙ (ap (λ (v : View). downed v x) m.core
        ∙ ap (λ (o : Option Read). record swept.known.core { held = without x m.held; read = o })
        (forget_twice m.held (without x m.held) swept.known.core.read (λ y. times_without_le y x
        m.held)));
    names = λ y. left y (ℕ_discrete x y);
    lengths = omega (arith, m.lengths, length-without_one x m.held there);
    trees = let_tree;
    snapshots = snapshots_on swept.known mid.known next.known m.snapshots
        (steps_keep mid next (downed mid.known.core x) s refl);
    copy = cells_on swept.known mid.known next.known (ap (λ (v : View). v.sizes) m.core) m.copy
        keeps;
    known = s.known.known;
  }

-- what came out of a scan is held, as often as it came out
module _ (gone rest : List ℕ) (x : ℕ) (old swept mid : Standing) (w : IsSwept gone old swept)
    (m : IsLetting gone (x ∷ rest) swept mid) where
  pub let_held : 0 < times x m.held
  let_held =
      let h : times x swept.known.core.held ≡ times x (old.known.core.held ++ gone) =
      ap (λ (v : View). times x v.held) w.core in
      omega (arith, m.names x, h, times-append x old.known.core.held gone, times-same x x rest refl)

  pub let_there : 0 < times x mid.known.core.held
  let_there = subst (λ (v : View). 0 < times x v.held) (sym m.core) let_held

  pub let_ready : mid.known.core.position ≡ 0
  let_ready = ap (λ (v : View). v.position) m.core ∙ ap (λ (v : View). v.position) w.core

-- all that came out was given back
pub scans : (gone : List ℕ) (old swept new : Standing) → IsKnown old.known → IsSwept gone old swept
    → IsLetting gone [] swept new → IsScanned old new
scans gone old swept new known w m =
    let same : (x : ℕ) → times x m.held ≡ times x old.known.core.held =
    λ x. let h : times x swept.known.core.held ≡ times x (old.known.core.held ++ gone) =
    ap (λ (v : View). times x v.held) w.core in
    omega (arith, m.names x, times-append x old.known.core.held gone, times-nil x) in
    let stays : forget m.held old.known.core.read ≡ old.known.core.read =
    forget_none m.held old.known.core.read (λ r e. let h = known.read r e in
    omega (arith, same r.name)) in
    record {
      forest = m.forest ∙ w.forest;
      held = m.held;
      retired = w.retired;
      core = m.core
          ∙ (ap (λ (v : View). record v { held = m.held; read = forget m.held v.read }) w.core
          ∙ ap (λ (o : Option Read). record old.known.core {
            held = m.held;
            read = o;
            position = 0;
            noted = [];
            retired = w.retired;
          }) stays);
      same = same;
      lengths = let h : length swept.known.core.held ≡ length (old.known.core.held ++ gone) =
          ap (λ (v : View). length v.held) w.core in
          omega (arith, m.lengths, length-append old.known.core.held gone);
      names = λ x. omega (arith, w.names x);
      few = w.few;
      alone = w.alone;
      trees = λ x two h. m.trees x two (omega (arith, same x)) ∙ w.trees x two h;
      snapshots = snapshots_on old.known swept.known new.known w.snapshots m.snapshots;
      copy = cells_on old.known swept.known new.known (ap (λ (v : View). v.sizes) w.core) w.copy
          m.copy;
      known = m.known;
    }
