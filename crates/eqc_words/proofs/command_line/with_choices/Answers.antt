use Rattle.std.proofs.Common.{refl}
use Rattle.std.proofs.lemmas.Result.{IfOk-weaker}
use Rattle.eqc_words.proofs.WordLemmas.{arg_added}
use Rattle.eqc_words.proofs.command_line.with_choices.Goals as goal

pub returns : goal.returns
returns c =
    let order = arg_added _ _ _ _ _ c.in_ok-arg.ensures c.text.ensures.own refl c.text.ensures.rule
    in
    let assume = arg_added _ _ _ _ _ c.in_ok-arg-2.ensures c.text-2.ensures.own order
    c.text-2.ensures.rule in
    let every = arg_added _ _ _ _ _ c.in_ok-arg-3.ensures c.flag.ensures.own assume
    c.flag.ensures.rule in
    let outputs = arg_added _ _ _ _ _ c.in_ok-arg-4.ensures c.names.ensures.own every
    c.names.ensures.rule in
    let first_model = arg_added _ _ _ _ _ c.in_ok-arg-5.ensures c.text-3.ensures.own outputs
    c.text-3.ensures.rule in
    IfOk-weaker c.arg-6.result _ _ (λ r adds. arg_added _ _ _ _ _ adds c.text-4.ensures.own
    first_model c.text-4.ensures.rule) c.arg-6.ensures
