use Rattle.std.proofs.Common.{◌≡◌, ◌<◌, ◌+◌, sym, ap, subst, ◌∙◌, arith, ℕ, get_or, length, refl}
use Rattle.std.proofs.Common.{inl, inr, ⊎_elim}
use Rattle.eqc_core.specs.declared.sizes.Sizes.{Sizes}
use Rattle.eqc_guard.specs.Rule.{cells_from}
use Rattle.eqc_guard.proofs.Closing.{read_stays}
use Rattle.eqc_cache.specs.Placing.{IsEntry}
use Rattle.eqc_cache.proofs.Cells.{found_taken}
use Rattle.eqc_tree.specs.Operation.{tag_of}
use Rattle.eqc_core.specs.declared.phase.Phase.TheVariants.{Idle, Seen}
use Rattle.eqc_core.specs.Words.{operation_of, first_of, second_of, result_of}
use Rattle.eqc_core.specs.View.{View}
use Rattle.eqc_guard.proofs.Acquiring.{starts, joins}
use Rattle.eqc_guard.proofs.Copying.{load_keeps, cells_on}
use Rattle.eqc_cache.proofs.Hits.{phase_now, finds_constant, hits, some_word, constant_number}
use Rattle.eqc_cache.proofs.Hits.{may_announce}
use Rattle.eqc_cache.proofs.finding.seek.Goals as goal

pub returns-in_err-found-clause-miss : goal.returns-in_err-found-clause-miss
returns-in_err-found-clause-miss c = λ e.
    record {
      phase = Seen c.args.cell c.look-word.result;
      quiet = tt;
      stands =
          starts 0 c.args.worker.now c.look-word.new.self (Seen c.args.cell c.look-word.result)
          c.look-word.ensures.step;
    }

pub returns-then-found-lt2-clause-hit : goal.returns-then-found-lt2-clause-hit
unfolding result_of
returns-then-found-lt2-clause-hit c =
    let old = c.args.worker.now in
    let s1 = c.look-word.new.self in
    let word = c.look-word.result in
    let cell = c.args.cell in
    let at = starts 0 c.args.worker.now c.look-word.new.self (Seen c.args.cell c.look-word.result)
    c.look-word.ensures.step in
    let is = c.in_ok-found.ensures.entry.0 in
    let tag : operation_of c.look-word.result ≡ tag_of c.args.op = is.0 in
    let first : first_of c.look-word.result ≡ c.args.first = is.1 in
    let second : second_of c.look-word.result ≡ c.args.second = is.2 in
    let found : c.in_ok-found.found ≡ result_of c.look-word.result = c.in_ok-found.ensures.entry.1
    in
    let small : result_of c.look-word.result < 2 =
    subst (λ (n : ℕ). n < 2) found c.if-found-lt2.true in
    let r : c.constant.result.number ≡ result_of c.look-word.result = c.constant.ensures
    ∙ (constant_number c.in_ok-found.found c.if-found-lt2.true ∙ found) in
    finds_constant c.args.op c.args.first c.args.second 0 cell word old s1 at tag first second
    c.requires.first_held c.requires.second_held
    c.constant.result.number r small (c.look-word.ensures.tells
    (some_word c.args.op c.look-word.result tag))

pub take-requires-clause-may : goal.take-requires-clause-may
unfolding result_of
take-requires-clause-may c =
    let at = starts 0 c.args.worker.now c.look-word.new.self (Seen c.args.cell c.look-word.result)
    c.look-word.ensures.step in
    may_announce c.args.worker.now c.look-word.new.self c.args.cell c.look-word.result
    c.in_ok-found.found at c.requires.may.0 c.requires.may.1
    (let n = c.if-found-lt2.false in omega arith) c.in_ok-found.ensures.entry.1

pub returns-clause-hit : goal.returns-clause-hit
unfolding result_of
returns-clause-hit c =
    let old = c.args.worker.now in
    let s1 = c.look-word.new.self in
    let word = c.look-word.result in
    let cell = c.args.cell in
    let at = starts 0 c.args.worker.now c.look-word.new.self (Seen c.args.cell c.look-word.result)
    c.look-word.ensures.step in
    let is = c.in_ok-found.ensures.entry.0 in
    let tag : operation_of c.look-word.result ≡ tag_of c.args.op = is.0 in
    let first : first_of c.look-word.result ≡ c.args.first = is.1 in
    let second : second_of c.look-word.result ≡ c.args.second = is.2 in
    let found : c.in_ok-found.found ≡ result_of c.look-word.result = c.in_ok-found.ensures.entry.1
    in
    hits c.args.op c.args.first c.args.second c.in_ok-found.found cell word old s1 at tag first
    second c.requires.first_held
    c.requires.second_held c.take.new.worker (let n = c.if-found-lt2.false in omega arith)
    c.take.result c.take.ensures.name c.take.ensures.hit

pub returns-clause-miss : goal.returns-clause-miss
returns-clause-miss c = λ e.
    let at = starts 0 c.args.worker.now c.look-word.new.self (Seen c.args.cell c.look-word.result)
    c.look-word.ensures.step in
    record {
      phase = Idle;
      quiet = tt;
      stands = joins 0 c.args.worker.now c.look-word.new.self
          c.take.new.worker (Seen c.args.cell c.look-word.result) Idle at (c.take.ensures.miss e);
    }

-- what the look leaves of the cells
pub returns-in_err-found-clause-cells : goal.returns-in_err-found-clause-cells
returns-in_err-found-clause-cells c = load_keeps c.args.worker.now.known c.look-word.new.self.known
    _ c.look-word.result c.look-word.ensures.copies

pub returns-then-found-lt2-clause-cells : goal.returns-then-found-lt2-clause-cells
returns-then-found-lt2-clause-cells c = load_keeps c.args.worker.now.known
    c.look-word.new.self.known _ c.look-word.result c.look-word.ensures.copies

pub returns-clause-cells : goal.returns-clause-cells
returns-clause-cells c =
    cells_on c.args.worker.now.known c.look-word.new.self.known c.take.new.worker.known
    (ap (λ (v : View). v.sizes) c.look-word.ensures.step.known.core)
    (load_keeps c.args.worker.now.known c.look-word.new.self.known _ c.look-word.result
    c.look-word.ensures.copies) c.take.ensures.cells

-- a word that is no entry is what the copy has
pub returns-in_err-found-clause-missed : goal.returns-in_err-found-clause-missed
returns-in_err-found-clause-missed c =
    λ e. inr (λ ws has entry. c.in_err-found.ensures.other refl
    (subst (λ (w : ℕ). IsEntry c.args.op (c.args.first, c.args.second) w)
    (c.look-word.ensures.copies.seen ws has) entry))

pub returns-then-found-lt2-clause-found : goal.returns-then-found-lt2-clause-found
unfolding result_of
returns-then-found-lt2-clause-found c = λ ws has.
    let seen = c.look-word.ensures.copies.seen ws has in
    let found : c.in_ok-found.found ≡ result_of c.look-word.result = c.in_ok-found.ensures.entry.1
    in (
      subst (λ (w : ℕ). IsEntry c.args.op (c.args.first, c.args.second) w) (sym seen)
          c.in_ok-found.ensures.entry.0,
      ap {B = ℕ} (λ (w : ℕ). result_of w) seen
          ∙ (sym found ∙ sym (c.constant.ensures
          ∙ constant_number c.in_ok-found.found c.if-found-lt2.true)),
    )

pub returns-clause-found : goal.returns-clause-found
unfolding result_of
returns-clause-found c = found_taken c.args.op (c.args.first, c.args.second) c.args.cell
    c.in_ok-found.found c.args.worker.now.known c.take.result c.take.ensures.name (λ ws has.
    let seen = c.look-word.ensures.copies.seen ws has in
    let found : c.in_ok-found.found ≡ result_of c.look-word.result = c.in_ok-found.ensures.entry.1
    in (
      subst (λ (w : ℕ). IsEntry c.args.op (c.args.first, c.args.second) w) (sym seen)
          c.in_ok-found.ensures.entry.0,
      ap {B = ℕ} (λ (w : ℕ). result_of w) seen ∙ sym found,
    ))

-- a count that was refused was at the limit, and a second look by a worker that is alone finds what
-- the first one found
pub returns-clause-missed : goal.returns-clause-missed
returns-clause-missed c = λ none. ⊎_elim
    (λ limit. let held : length c.look-word.new.self.known.core.held
    ≡ length c.args.worker.now.known.core.held = ap {B = ℕ} (λ (v : View). length v.held)
    c.look-word.ensures.step.known.core in
    inl (omega arith))
    (λ other. inr (λ ws has entry.
    let at = starts 0 c.args.worker.now c.look-word.new.self (Seen c.args.cell c.look-word.result)
    c.look-word.ensures.step in
    let read = read_stays c.args.worker.now.known c.look-word.new.self.known _ c.look-word.result ws
    c.look-word.ensures.copies has in
    let sizes : c.look-word.new.self.known.core.sizes ≡ c.args.worker.now.known.core.sizes =
    ap (λ (v : View). v.sizes) c.look-word.ensures.step.known.core in
    other ws read.0 c.args.cell c.look-word.result (phase_now c.args.worker.now c.look-word.new.self
    (Seen c.args.cell c.look-word.result) at)
    (ap {B = ℕ} (λ (z : Sizes). get_or ws (cells_from z + c.args.cell) 0) sizes ∙ read.1)))
    (c.take.ensures.alone none)
