use Rattle.std.proofs.Common.{ℕ, ◌<◌, ◌≤◌, sym, subst, ◌∙◌, arith}
use Rattle.eqc_core.specs.Counting.{upped}
use Rattle.eqc_guard.specs.Standing.{Standing, Steps}
use Rattle.eqc_guard.specs.Copying.{KeepsCells}
use Rattle.eqc_guard.proofs.Copying.{cells_stay, count_keeps}
use Rattle.eqc_cache.proofs.Hits.{constant_number}
use Rattle.eqc_cache.proofs.Trading.{below, copies_constant, copies_name}
use Rattle.eqc_cache.proofs.storing.copy.Goals as goal

pub returns-then-x-lt2-clause-copied : goal.returns-then-x-lt2-clause-copied
returns-then-x-lt2-clause-copied c =
    let small : c.constant.result.number < 2 = subst (λ (n : ℕ). n < 2) (sym (c.constant.ensures
    ∙ constant_number c.args.x c.if-x-lt2.true)) c.if-x-lt2.true in
    copies_constant c.constant.result.number c.args.worker.now small c.requires.known
    c.requires.quiet

pub up-requires-clause-there : goal.up-requires-clause-there
up-requires-clause-there c = below c.args.worker.now c.args.x c.requires.known (let n =
    c.if-x-lt2.false in omega arith) c.requires.held

pub returns-in-Ok-clause-copied : goal.returns-in-Ok-clause-copied
returns-in-Ok-clause-copied c =
    let is = sym c.in-Ok.ensures.name in
    let two = subst (λ (n : ℕ). 2 ≤ n) is (let n = c.if-x-lt2.false in omega arith) in
    copies_name c.in-Ok.reference.number c.args.worker.now c.up.new.self two c.requires.known
    c.requires.quiet
    (subst (λ (n : ℕ). Steps c.args.worker.now (upped c.args.worker.now.known.core n) c.up.new.self)
    is c.in-Ok.ensures.step)

pub returns-then-x-lt2-clause-cells : goal.returns-then-x-lt2-clause-cells
returns-then-x-lt2-clause-cells c = cells_stay c.args.worker.now.known

pub returns-in-Ok-clause-cells : goal.returns-in-Ok-clause-cells
returns-in-Ok-clause-cells c =
    let two : 2 ≤ c.args.x = let n = c.if-x-lt2.false in omega arith in
    count_keeps c.args.worker.now.known c.up.new.self.known c.args.x c.in-Ok.ensures.copies.0 _
    (below c.args.worker.now c.args.x c.requires.known two c.requires.held)
    c.in-Ok.ensures.copies.1

pub returns-in-Err-clause-cells : goal.returns-in-Err-clause-cells
returns-in-Err-clause-cells c = subst (λ (s : Standing). KeepsCells c.args.worker.now.known s.known)
    (sym c.in-Err.ensures.still) (cells_stay c.args.worker.now.known)
