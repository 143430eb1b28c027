use Rattle.std.proofs.Common.{◌<◌, ◌≤◌, ◌∙◌, length, ap, refl, arith}
use Rattle.eqc_core.specs.View.{View}
use Rattle.eqc_core.proofs.Stored.{view_is}
use Rattle.eqc_core.proofs.StoredSeats.{beyond_stored, owns_nothing}
use Rattle.eqc_core.proofs.machine.Machine.active.Goals as goal

pub returns-then-place-len-clause-none : goal.returns-then-place-len-clause-none
returns-then-place-len-clause-none c = λ _.
    let m = c.args.self.now in
    let past : length m.workers.items ≤ c.args.id = let h = c.if-place-len.true in let l =
    c.len.ensures in omega arith in
    let is = beyond_stored m c.args.id past in
    (ap (λ (v : View). v.held) is, ap (λ (v : View). v.retired) is)

pub returns-then-not-worker-clause-none : goal.returns-then-not-worker-clause-none
returns-then-not-worker-clause-none c = λ _.
    let m = c.args.self.now in
    let there : c.args.id < length m.workers.items = let h = c.if-place-len.false in let l =
    c.len.ensures in omega arith in
    owns_nothing m c.args.id c.index-worker.result.now there c.index-worker.ensures
    c.if-not-worker.true

pub returns-clause-some : goal.returns-clause-some
returns-clause-some c =
    let m = c.args.self.now in
    let there : c.args.id < length m.workers.items = let h = c.if-place-len.false in let l =
    c.len.ensures in omega arith in
    view_is m.sizes m.workers.items c.args.id c.index-worker.result.now there c.index-worker.ensures
    ∙ rw c.if-not-worker.false refl
