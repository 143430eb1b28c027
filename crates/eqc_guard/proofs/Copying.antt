-- What steps leave of the cells and the boxes in a copy of the words.
use Rattle.std.proofs.Common.{◌≡◌, ℕ, ◌+◌, ◌*◌, ◌<◌, ◌≤◌, List, get_or, set, length, Option, refl}
use Rattle.std.proofs.Common.{sym, ap, subst, ◌∙◌, arith}
use Rattle.std.proofs.lemmas.List.{get_or-set_same, get_or-set_other}
use Rattle.eqc_core.specs.declared.sizes.Sizes.{Sizes}
use Rattle.eqc_core.specs.View.{View}
use Rattle.eqc_core.specs.Words.{times, word_at}
use Rattle.eqc_core.proofs.Places.{below as word_there}
use Rattle.eqc_guard.specs.Known.{Known, IsKnown, KeepsCopy}
use Rattle.atomic_table.specs.Seated.{TableId}
use Rattle.eqc_guard.specs.Rule.{counts_from, cells_from, boxes_from, all_words, IsWorker}
use Rattle.eqc_guard.specs.Standing.{Standing, Steps}
use Rattle.eqc_guard.specs.Copying.{cell_in, KeepsCells, SetsCell, box_in, SetsBox}
use Rattle.eqc_guard.specs.Telling.{Copies, copied}
use Rattle.eqc_guard.proofs.Closing.{read_stays}
use Rattle.eqc_guard.proofs.Learning.{held_named}
use Rattle.eqc_guard.proofs.Stocking.{flat_length}

pub cells_stay : (k : Known) → KeepsCells k k
cells_stay k ws e = (ws, e, λ c. refl)

-- cells that stay are a copy that stays
pub keeps_copy : (k after : Known) → KeepsCells k after → KeepsCopy k after
keeps_copy k after keeps ws e = let t = keeps ws e in (t.0, t.1)

-- two steps, one after the other
pub cells_on : (a b c : Known) → b.core.sizes ≡ a.core.sizes → KeepsCells a b → KeepsCells b c
    → KeepsCells a c
cells_on a b c same first then ws e =
    let t = first ws e in
    let u = then t.0 t.1 in (
      u.0,
      u.1,
      λ n. let r : cell_in a u.0 n ≡ cell_in a t.0 n =
          subst (λ (z : Sizes). get_or u.0 (cells_from z + n) 0 ≡ get_or t.0 (cells_from z + n) 0)
          same (u.2 n) in r ∙ t.2 n,
    )

-- a word before the cells is set
pub set_keeps : (k after : Known) (i left : ℕ) → i < cells_from k.core.sizes
    → after.copy ≡ copied k.copy i left → KeepsCells k after
set_keeps k after i left before is ws e = (
  set ws i left,
  is ∙ ap (λ (o : Option (List ℕ)). copied o i left) e,
  λ n. get_or-set_other ws i
      (cells_from k.core.sizes + n) left 0 (λ q. absurd (omega arith)),
)

-- a load
pub load_keeps : (k after : Known) (i found : ℕ) → Copies k i found found after → KeepsCells k after
load_keeps k after i found c ws e = let r = read_stays k after i found ws c e in
    (ws, r.0, λ n. refl)

-- a count, of a name that is there
pub count_keeps : (k after : Known) (x found left : ℕ) → x < k.core.sizes.names
    → Copies k (counts_from k.core.sizes + x) found left after → KeepsCells k after
count_keeps k after x found left there c = set_keeps k after (counts_from k.core.sizes + x) left
    (omega arith) c.copy

pub below : (k : Known) (x : ℕ) → IsKnown k → 2 ≤ x → 0 < times x k.core.held
    → x < k.core.sizes.names
below k x known two h = known.below x two (held_named k.core x h)

-- a cell is set
pub cell_sets : (k after : Known) (c found word : ℕ) → IsKnown k → c < k.core.sizes.cells
    → Copies k (cells_from k.core.sizes + c) found word after → SetsCell c word k after
cell_sets k after c found word known there is ws e =
    let state = known.state ws e in
    let lengths : length ws ≡ all_words k.core.sizes = ap {B = ℕ} (λ (l : List ℕ). length l)
    state.laid ∙ flat_length k.core.sizes state.words state.homes state.views state.lawful.sized
    in (
      set ws (cells_from k.core.sizes + c) word,
      is.copy ∙ ap (λ (o : Option (List ℕ)). copied o (cells_from k.core.sizes + c) word) e,
      get_or-set_same ws (cells_from k.core.sizes + c) word 0 (omega arith),
      λ d other. get_or-set_other ws (cells_from k.core.sizes + c) (cells_from k.core.sizes + d)
          word 0 (λ q. other (omega arith)),
    )

-- a box is set
pub box_sets : (k after : Known) (b found word : ℕ) → IsKnown k → b < 16 * k.core.sizes.workers
    → Copies k (boxes_from k.core.sizes + b) found word after → SetsBox b word k after
box_sets k after b found word known there is ws e =
    let state = known.state ws e in
    let lengths : length ws ≡ all_words k.core.sizes = ap {B = ℕ} (λ (l : List ℕ). length l)
    state.laid ∙ flat_length k.core.sizes state.words state.homes state.views state.lawful.sized
    in (
      set ws (boxes_from k.core.sizes + b) word,
      is.copy ∙ ap (λ (o : Option (List ℕ)). copied o (boxes_from k.core.sizes + b) word) e,
      get_or-set_same ws (boxes_from k.core.sizes + b) word 0 (omega arith),
      λ d other. get_or-set_other ws (boxes_from k.core.sizes + b) (boxes_from k.core.sizes + d)
          word 0 (λ q. other (omega arith)),
    )

-- the boxes lie behind the cells: what keeps all cells keeps all boxes
pub keeps_box : (k : Known) (ws left : List ℕ) → ((c : ℕ) → cell_in k left c ≡ cell_in k ws c)
    → (b : ℕ) → box_in k left b ≡ box_in k ws b
keeps_box k ws left same b =
    let place : boxes_from k.core.sizes + b ≡ cells_from k.core.sizes + (k.core.sizes.cells + b) =
    omega arith in
    ap (λ (i : ℕ). get_or left i 0) place ∙ (same (k.core.sizes.cells + b)
    ∙ ap (λ (i : ℕ). get_or ws i 0) (sym place))

-- a box is set, and then cells and boxes stay
pub box_set_stays : (a b c : Known) (n word : ℕ) → b.core.sizes ≡ a.core.sizes → SetsBox n word a b
    → KeepsCells b c → SetsBox n word a c
box_set_stays a b c n word same first then ws e =
    let t = first ws e in
    let u = then t.0 t.1 in
    let on : (d : ℕ) → box_in a u.0 d ≡ box_in a t.0 d =
    λ d. subst (λ (z : Sizes). get_or u.0 (boxes_from z + d) 0 ≡ get_or t.0 (boxes_from z + d)
    0) same (keeps_box b t.0 u.0 u.2 d) in (
      u.0,
      u.1,
      on n ∙ t.2,
      λ d other. on d ∙ t.3 d other,
    )

-- cells stay, then one is set, and then they stay
pub sets_after : (a b c : Known) (n word : ℕ) → b.core.sizes ≡ a.core.sizes → KeepsCells a b
    → SetsCell n word b c → SetsCell n word a c
sets_after a b c n word same first then ws e =
    let t = first ws e in
    let u = then t.0 t.1 in (
      u.0,
      u.1,
      subst (λ (z : Sizes). get_or u.0 (cells_from z + n) 0 ≡ word) same u.2,
      λ d other. subst (λ (z : Sizes). get_or u.0 (cells_from z + d) 0 ≡ get_or t.0 (cells_from z
          + d) 0) same (u.3 d other) ∙ t.2 d,
    )

pub stays_set : (a b c : Known) (n word : ℕ) → b.core.sizes ≡ a.core.sizes → SetsCell n word a b
    → KeepsCells b c → SetsCell n word a c
stays_set a b c n word same first then ws e =
    let t = first ws e in
    let u = then t.0 t.1 in
    let on : (d : ℕ) → cell_in a u.0 d ≡ cell_in a t.0 d =
    λ d. subst (λ (z : Sizes). get_or u.0 (cells_from z + d) 0 ≡ get_or t.0 (cells_from z + d)
    0) same (u.2 d) in (
      u.0,
      u.1,
      on n ∙ t.2,
      λ d other. on d ∙ t.3 d other,
    )

-- an announcement word stands before the cells
pub word_before : (z : Sizes) (number k : ℕ) → k < z.announcements → number < z.workers
    → 2 * word_at z number k < cells_from z
word_before z number k lt there = let b = word_there z number k there lt in omega arith

pub number_there : {T : Type 0} (id : TableId) (z : Sizes) (me : Known × List T) → IsWorker id z me
    → me.0.core.number < me.0.core.sizes.workers
number_there id z me w = subst (λ (s : Sizes). me.0.core.number < s.workers) (sym w.sizes) w.number

-- a second look leaves the cells
pub look_on : (old s1 s2 : Standing) (i found : ℕ) (v u : View) → Steps old v s1
    → v.sizes ≡ old.known.core.sizes → Steps s1 u s2 → u.sizes ≡ s1.known.core.sizes
    → KeepsCells old.known s1.known →
    Copies s1.known i found found s2.known → KeepsCells old.known s2.known
    × (s2.known.core.sizes ≡ old.known.core.sizes)
look_on old s1 s2 i found v u first same second more keeps copies =
    let mid : s1.known.core.sizes ≡ old.known.core.sizes =
    ap (λ (w : View). w.sizes) first.known.core ∙ same in (
      cells_on old.known s1.known s2.known mid keeps (load_keeps s1.known s2.known i found copies),
      ap (λ (w : View). w.sizes) second.known.core ∙ (more ∙ mid),
    )
