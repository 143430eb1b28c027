use Rattle.std.proofs.Common.{refl}
use Rattle.std.proofs.lemmas.Result.{IfOk-weaker}
use Rattle.eqc_words.proofs.WordLemmas.{arg_added}
use Rattle.eqc_words.proofs.command_line.with_files.Goals as goal

pub returns : goal.returns
returns c =
    let explain = arg_added _ _ _ _ _ c.in_ok-arg.ensures c.flag.ensures.own refl
    c.flag.ensures.rule in
    let locate = arg_added _ _ _ _ _ c.in_ok-arg-2.ensures c.flag-2.ensures.own explain
    c.flag-2.ensures.rule in
    let progress = arg_added _ _ _ _ _ c.in_ok-arg-3.ensures c.flag-3.ensures.own locate
    c.flag-3.ensures.rule in
    let first = arg_added _ _ _ _ _ c.in_ok-arg-4.ensures c.path.ensures.own progress
    c.path.ensures.rule in
    IfOk-weaker c.arg-5.result _ _ (λ r adds. arg_added _ _ _ _ _ adds c.path-2.ensures.own first
    c.path-2.ensures.rule) c.arg-5.ensures
