use Rattle.std.proofs.Common.{◌∷◌, [], arith}
use Rattle.std.proofs.lemmas.List.{length-append}
use Rattle.eqc_literals.proofs.LiteralLaws.{equal_more, kept_more}
use Rattle.eqc_literals.proofs.marks.outputs_of_one_literal.Goals as goal

pub loop-output-preserved : goal.loop-output-preserved
loop-output-preserved c =
    let p = c.args.steps.now.pair in
    let i = c.loop-output.invariant in
    rw c.in_ok-push.ensures.items (
      omega (arith, i.0, length-append c.loop-output.more.items (c.is_known_equal.result ∷ [])),
      equal_more p c.loop-output.more.items c.is_known_equal.result c.loop-output.output i.0 i.1
          c.is_known_equal.ensures.equal,
      kept_more c.args.marks.now c.loop-output.more.items c.is_known_equal.result
          c.loop-output.output i.0 i.2 c.is_known_equal.ensures.kept,
    )
