use Rattle.std.proofs.Common.{refl}
use Rattle.std.proofs.lemmas.Result.{IfOk-weaker}
use Rattle.eqc_words.proofs.WordLemmas.{arg_added}
use Rattle.eqc_words.proofs.command_line.with_numbers.Goals as goal

pub returns : goal.returns
returns c =
    let workers = arg_added _ _ _ _ _ c.in_ok-arg.ensures c.number.ensures.own refl
    c.number.ensures.rule in
    let nodes = arg_added _ _ _ _ _ c.in_ok-arg-2.ensures c.number-2.ensures.own workers
    c.number-2.ensures.rule in
    let cells = arg_added _ _ _ _ _ c.in_ok-arg-3.ensures c.number-3.ensures.own nodes
    c.number-3.ensures.rule in
    let forks = arg_added _ _ _ _ _ c.in_ok-arg-4.ensures c.number-4.ensures.own cells
    c.number-4.ensures.rule in
    let conflicts = arg_added _ _ _ _ _ c.in_ok-arg-5.ensures c.number-5.ensures.own forks
    c.number-5.ensures.rule in
    let inputs = arg_added _ _ _ _ _ c.in_ok-arg-6.ensures c.number-6.ensures.own conflicts
    c.number-6.ensures.rule in
    IfOk-weaker c.arg-7.result _ _ (λ r adds. arg_added _ _ _ _ _ adds c.number-7.ensures.own inputs
    c.number-7.ensures.rule) c.arg-7.ensures
