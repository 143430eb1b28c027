use Rattle.std.proofs.Common.{◌≡◌, ◌<◌, ◌≤◌, ◌+◌, ℕ, get_or, true, false, refl, sym, ap, subst, ◌∙◌}
use Rattle.std.proofs.Common.{arith, inl, inr}
use Rattle.eqc_core.specs.declared.sizes.Sizes.{Sizes}
use Rattle.eqc_core.specs.View.{View}
use Rattle.eqc_core.specs.Words.{result_of}
use Rattle.eqc_guard.specs.Rule.{cells_from}
use Rattle.eqc_guard.proofs.Closing.{read_stays}
use Rattle.eqc_guard.proofs.Copying.{load_keeps, cells_on}
use Rattle.eqc_cache.specs.Placing.{IsEntry}
use Rattle.eqc_cache.proofs.Snapshots.{word_within, seen_now, may_confirm, looks_on, misses}
use Rattle.eqc_cache.proofs.Snapshots.{peeks_constant, peeks_node}
use Rattle.eqc_cache.proofs.peeking.seek.Goals as goal

pub look-word-requires : goal.look-word-requires
look-word-requires c = (
  c.requires.may.0,
  word_within c.args.worker.now.known.core c.word_for-k.result c.args.cell c.requires.may
      c.word_for-k.ensures.free,
  c.requires.may.2,
  c.word_for-k.ensures.quiet,
)

pub returns-in_err-found-clause-miss : goal.returns-in_err-found-clause-miss
returns-in_err-found-clause-miss c = λ e.
    let few = word_within c.args.worker.now.known.core c.word_for-k.result c.args.cell
    c.requires.may c.word_for-k.ensures.free in
    looks_on c.word_for-k.result c.args.cell c.look-word.result c.args.worker.now
    c.look-word.new.self c.look-word.ensures.step few c.word_for-k.ensures.quiet

pub returns-in_err-found-clause-cells : goal.returns-in_err-found-clause-cells
returns-in_err-found-clause-cells c = load_keeps c.args.worker.now.known c.look-word.new.self.known
    _ c.look-word.result c.look-word.ensures.copies

-- a word that is no entry is what the copy has
pub returns-in_err-found-clause-missed : goal.returns-in_err-found-clause-missed
returns-in_err-found-clause-missed c =
    λ e. inr (λ ws has entry. c.in_err-found.ensures.other refl
    (subst (λ (w : ℕ). IsEntry c.args.op (c.args.first, c.args.second) w)
    (c.look-word.ensures.copies.seen ws has) entry))

-- a constant
pub returns-then-found-lt2-clause-peeked : goal.returns-then-found-lt2-clause-peeked
unfolding result_of
returns-then-found-lt2-clause-peeked c =
    let few = word_within c.args.worker.now.known.core c.word_for-k.result c.args.cell
    c.requires.may c.word_for-k.ensures.free in
    peeks_constant c.word_for-k.result c.args.cell c.look-word.result c.args.worker.now
    c.look-word.new.self c.look-word.ensures.step few c.word_for-k.ensures.quiet
    c.args.op c.args.first c.args.second c.in_ok-found.found c.in_ok-found.ensures.entry.0
    c.requires.first_held c.requires.second_held
    c.in_ok-found.ensures.entry.1 c.if-found-lt2.true c.look-word.ensures.tells

pub returns-then-found-lt2-clause-cells : goal.returns-then-found-lt2-clause-cells
returns-then-found-lt2-clause-cells c = load_keeps c.args.worker.now.known
    c.look-word.new.self.known _ c.look-word.result c.look-word.ensures.copies

pub returns-then-found-lt2-clause-found : goal.returns-then-found-lt2-clause-found
unfolding result_of
returns-then-found-lt2-clause-found c = λ ws has.
    let seen = c.look-word.ensures.copies.seen ws has in
    let found : c.in_ok-found.found ≡ result_of c.look-word.result = c.in_ok-found.ensures.entry.1
    in (
      subst (λ (w : ℕ). IsEntry c.args.op (c.args.first, c.args.second) w) (sym seen)
          c.in_ok-found.ensures.entry.0,
      ap {B = ℕ} (λ (w : ℕ). result_of w) seen ∙ sym found,
    )

-- no word is free
pub returns-then-k-eq0-clause-miss : goal.returns-then-k-eq0-clause-miss
returns-then-k-eq0-clause-miss c = λ e.
    let few = word_within c.args.worker.now.known.core c.word_for-k.result c.args.cell
    c.requires.may c.word_for-k.ensures.free in
    looks_on c.word_for-k.result c.args.cell c.look-word.result c.args.worker.now
    c.look-word.new.self c.look-word.ensures.step few c.word_for-k.ensures.quiet

pub returns-then-k-eq0-clause-cells : goal.returns-then-k-eq0-clause-cells
returns-then-k-eq0-clause-cells c = load_keeps c.args.worker.now.known c.look-word.new.self.known _
    c.look-word.result c.look-word.ensures.copies

pub returns-then-k-eq0-clause-missed : goal.returns-then-k-eq0-clause-missed
unfolding result_of
returns-then-k-eq0-clause-missed c =
    let found : c.in_ok-found.found ≡ result_of c.look-word.result = c.in_ok-found.ensures.entry.1
    in
    let many : 2 ≤ result_of c.look-word.result = (let n = c.if-found-lt2.false in omega arith) in
    λ e. inl (
      c.word_for-k.ensures.none c.if-k-eq0.true,
      λ ws has. subst (λ (w : ℕ). 2
          ≤ result_of w) (sym (c.look-word.ensures.copies.seen ws has)) many,
    )

-- a node
pub confirm-requires-clause-may : goal.confirm-requires-clause-may
unfolding result_of
confirm-requires-clause-may c =
    let few = word_within c.args.worker.now.known.core c.word_for-k.result c.args.cell
    c.requires.may c.word_for-k.ensures.free in
    may_confirm c.word_for-k.result c.args.cell c.look-word.result c.args.worker.now
    c.look-word.new.self c.look-word.ensures.step few
    c.in_ok-found.found c.requires.may.0 (let n = c.if-found-lt2.false in omega arith)
    c.in_ok-found.ensures.entry.1

pub returns-then-confirm-clause-peeked : goal.returns-then-confirm-clause-peeked
unfolding result_of
returns-then-confirm-clause-peeked c =
    let few = word_within c.args.worker.now.known.core c.word_for-k.result c.args.cell
    c.requires.may c.word_for-k.ensures.free in
    let seen = seen_now c.word_for-k.result c.args.cell c.look-word.result c.args.worker.now
    c.look-word.new.self c.look-word.ensures.step few in
    let free = c.word_for-k.ensures.free (let n = c.if-k-eq0.false in omega arith) in
    peeks_node c.word_for-k.result c.args.cell c.look-word.result c.args.worker.now
    c.look-word.new.self c.look-word.ensures.step few c.word_for-k.ensures.quiet
    c.args.op c.args.first c.args.second c.in_ok-found.found c.in_ok-found.ensures.entry.0
    c.requires.first_held c.requires.second_held
    c.in_ok-found.ensures.entry.1 c.confirm.new.self (c.confirm.ensures.yes c.if-confirm.true
    c.args.cell c.look-word.result seen) free
    (let n = c.if-found-lt2.false in omega arith)

pub returns-then-confirm-clause-cells : goal.returns-then-confirm-clause-cells
returns-then-confirm-clause-cells c =
    cells_on c.args.worker.now.known c.look-word.new.self.known c.confirm.new.self.known
    (ap (λ (v : View). v.sizes) c.look-word.ensures.step.known.core)
    (load_keeps c.args.worker.now.known c.look-word.new.self.known _ c.look-word.result
    c.look-word.ensures.copies) c.confirm.ensures.cells

pub returns-then-confirm-clause-found : goal.returns-then-confirm-clause-found
unfolding result_of
returns-then-confirm-clause-found c = λ ws has.
    let seen = c.look-word.ensures.copies.seen ws has in
    let found : c.in_ok-found.found ≡ result_of c.look-word.result = c.in_ok-found.ensures.entry.1
    in (
      subst (λ (w : ℕ). IsEntry c.args.op (c.args.first, c.args.second) w) (sym seen)
          c.in_ok-found.ensures.entry.0,
      ap {B = ℕ} (λ (w : ℕ). result_of w) seen ∙ sym found,
    )

pub returns-else-confirm-clause-miss : goal.returns-else-confirm-clause-miss
returns-else-confirm-clause-miss c = λ e.
    let few = word_within c.args.worker.now.known.core c.word_for-k.result c.args.cell
    c.requires.may c.word_for-k.ensures.free in
    misses c.word_for-k.result c.args.cell c.look-word.result c.args.worker.now c.look-word.new.self
    c.look-word.ensures.step few c.word_for-k.ensures.quiet
    c.confirm.new.self (c.confirm.ensures.no c.if-confirm.false)

pub returns-else-confirm-clause-cells : goal.returns-else-confirm-clause-cells
returns-else-confirm-clause-cells c =
    cells_on c.args.worker.now.known c.look-word.new.self.known c.confirm.new.self.known
    (ap (λ (v : View). v.sizes) c.look-word.ensures.step.known.core)
    (load_keeps c.args.worker.now.known c.look-word.new.self.known _ c.look-word.result
    c.look-word.ensures.copies) c.confirm.ensures.cells

-- a second look by a worker that is alone finds what the first one found
pub returns-else-confirm-clause-missed : goal.returns-else-confirm-clause-missed
returns-else-confirm-clause-missed c = λ e. inr (λ ws has entry.
    let few = word_within c.args.worker.now.known.core c.word_for-k.result c.args.cell
    c.requires.may c.word_for-k.ensures.free in
    let seen = seen_now c.word_for-k.result c.args.cell c.look-word.result c.args.worker.now
    c.look-word.new.self c.look-word.ensures.step few in
    let read = read_stays c.args.worker.now.known c.look-word.new.self.known _ c.look-word.result ws
    c.look-word.ensures.copies has in
    let sizes : c.look-word.new.self.known.core.sizes ≡ c.args.worker.now.known.core.sizes =
    ap (λ (v : View). v.sizes) c.look-word.ensures.step.known.core in
    let yes = c.confirm.ensures.alone ws read.0 c.args.cell c.look-word.result seen
    (ap {B = ℕ} (λ (z : Sizes). get_or ws (cells_from z + c.args.cell) 0) sizes ∙ read.1) in
    let no = c.if-confirm.false in
    absurd (let q : false ≡ true = sym no ∙ yes in cc))
