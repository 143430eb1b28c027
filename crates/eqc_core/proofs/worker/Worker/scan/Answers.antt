use Rattle.std.proofs.Common.{◌≡◌, ◌+◌, false, ap, ◌∙◌, arith, ltb}
use Rattle.std.proofs.lemmas.Bool.{le-ltb}
use Rattle.eqc_core.specs.View.{View}
use Rattle.eqc_core.specs.Words.{announced_words}
use Rattle.eqc_core.specs.Moves.{with_held}
use Rattle.eqc_core.specs.Machine.{active_view, sorted_out}
use Rattle.eqc_core.proofs.worker.Worker.scan.Goals as goal

pub returns-clause-view : goal.returns-clause-view
returns-clause-view c =
    let z = c.args.sizes in
    let v = active_view z c.args.self.now in
    let last : ltb (c.args.self.now.position + 1) (announced_words z) ≡ false =
    le-ltb (c.args.self.now.position + 1) (announced_words z) (let a = c.announced_words.ensures in
    let b = c.if-self-announced_words.false in omega arith) in
    rw last
    (c.forget.ensures.view z
    ∙ (ap (λ (u : View). with_held u u.held) (c.in_ok-sort_out.ensures.view z)
    ∙ ap (λ n. with_held (sorted_out (record v { noted = n }))
    (sorted_out (record v { noted = n })).held) c.in_ok-add_note.ensures))
