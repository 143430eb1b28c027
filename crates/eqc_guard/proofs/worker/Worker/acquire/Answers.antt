use Rattle.std.proofs.Common.{length, ◌≡◌, ◌<◌, ◌+◌, ℕ, true, false, get_or, sym, ap, subst, ◌∙◌}
use Rattle.std.proofs.Common.{arith}
use Rattle.eqc_core.specs.declared.phase.Phase.{Phase}
use Rattle.eqc_core.specs.declared.phase.Phase.TheVariants.{Idle, Seen}
use Rattle.eqc_core.specs.View.{View}
use Rattle.eqc_core.specs.Words.{result_of}
use Rattle.eqc_core.specs.Announcing.{LetsAnnounce}
use Rattle.eqc_core.specs.declared.sizes.Sizes.{Sizes}
use Rattle.eqc_guard.specs.Rule.{cells_from}
use Rattle.eqc_guard.specs.Standing.{Standing}
use Rattle.eqc_guard.proofs.Closing.{read_stays}
use Rattle.eqc_guard.proofs.Acquiring.{starts, phase_is, joins, looked_at}
use Rattle.eqc_guard.proofs.worker.Worker.acquire.Goals as goal

pub returns-then-found-lt2-clause-none : goal.returns-then-found-lt2-clause-none
returns-then-found-lt2-clause-none c =
    λ e. record {
      phase = Seen c.args.cell c.look-word.result;
      quiet = tt;
      stands =
          starts 0 c.args.self.now c.look-word.new.self (Seen c.args.cell c.look-word.result)
          c.look-word.ensures.step;
    }

pub confirm-requires-clause-may : goal.confirm-requires-clause-may
unfolding result_of
confirm-requires-clause-may c =
    let at = starts 0 c.args.self.now c.look-word.new.self (Seen c.args.cell c.look-word.result)
    c.look-word.ensures.step in
    let some_word : 0 < length c.args.self.now.known.core.phases =
    subst (λ (s : Standing). 0 < length s.known.core.phases) c.self.view_is
    c.self.invariant.worker.known.word in
    let seen = phase_is 0 c.args.self.now c.look-word.new.self (Seen c.args.cell c.look-word.result)
    some_word at in
    let found : c.unpack_cell-found.result.3 ≡ result_of c.look-word.result =
    λ i. (c.unpack_cell-found.ensures.fields i).3 in
    let many = c.if-found-lt2.false in (
      subst (λ (v : View). v.position ≡ 0) (sym at.core) c.requires.0,
      subst (λ (v : View). 0 < v.sizes.announcements) (sym at.core) c.requires.1,
      subst (λ (p : Phase). LetsAnnounce p c.unpack_cell-found.result.3) (sym seen) (
        omega arith,
        found,
      ),
    )

pub returns-then-confirm-clause-some : goal.returns-then-confirm-clause-some
returns-then-confirm-clause-some c =
    let at = starts 0 c.args.self.now c.look-word.new.self (Seen c.args.cell c.look-word.result)
    c.look-word.ensures.step in
    let some_word : 0 < length c.args.self.now.known.core.phases =
    subst (λ (s : Standing). 0 < length s.known.core.phases) c.self.view_is
    c.self.invariant.worker.known.word in
    let seen = phase_is 0 c.args.self.now c.look-word.new.self (Seen c.args.cell c.look-word.result)
    some_word at in
    looked_at 0 c.args.self.now c.look-word.new.self c.confirm.new.self c.look-word.result
    c.args.cell at (c.confirm.ensures.yes c.if-confirm.true c.args.cell c.look-word.result seen)

pub returns-else-confirm-clause-none : goal.returns-else-confirm-clause-none
returns-else-confirm-clause-none c = λ e.
    let at = starts 0 c.args.self.now c.look-word.new.self (Seen c.args.cell c.look-word.result)
    c.look-word.ensures.step in
    record {
      phase = Idle;
      quiet = tt;
      stands = joins 0 c.args.self.now c.look-word.new.self
          c.confirm.new.self (Seen c.args.cell c.look-word.result) Idle at
          (c.confirm.ensures.no c.if-confirm.false);
    }

-- the word is the one that the copy has
pub returns-then-confirm-clause-found : goal.returns-then-confirm-clause-found
returns-then-confirm-clause-found c = λ ws has. sym (c.look-word.ensures.copies.seen ws has)

pub returns-then-found-lt2-clause-missed : goal.returns-then-found-lt2-clause-missed
unfolding result_of
returns-then-found-lt2-clause-missed c = λ e ws has.
    let found : c.unpack_cell-found.result.3 ≡ result_of c.look-word.result =
    λ i. (c.unpack_cell-found.ensures.fields i).3 in
    let few : result_of c.look-word.result < 2 = subst (λ (n : ℕ). n < 2) found c.if-found-lt2.true
    in
    subst (λ (w : ℕ). result_of w < 2) (sym (c.look-word.ensures.copies.seen ws has)) few

-- and a worker that is alone finds it again
pub returns-else-confirm-clause-missed : goal.returns-else-confirm-clause-missed
returns-else-confirm-clause-missed c = λ e ws has.
    let at = starts 0 c.args.self.now c.look-word.new.self (Seen c.args.cell c.look-word.result)
    c.look-word.ensures.step in
    let some_word : 0 < length c.args.self.now.known.core.phases =
    subst (λ (s : Standing). 0 < length s.known.core.phases) c.self.view_is
    c.self.invariant.worker.known.word in
    let seen = phase_is 0 c.args.self.now c.look-word.new.self (Seen c.args.cell c.look-word.result)
    some_word at in
    let read = read_stays c.args.self.now.known c.look-word.new.self.known _ c.look-word.result ws
    c.look-word.ensures.copies has in
    let sizes : c.look-word.new.self.known.core.sizes ≡ c.args.self.now.known.core.sizes =
    ap (λ (v : View). v.sizes) c.look-word.ensures.step.known.core in
    let yes = c.confirm.ensures.alone ws read.0 c.args.cell c.look-word.result seen
    (ap {B = ℕ} (λ (z : Sizes). get_or ws (cells_from z + c.args.cell) 0) sizes ∙ read.1) in
    let no = c.if-confirm.false in
    absurd (let q : false ≡ true = sym no ∙ yes in cc)
