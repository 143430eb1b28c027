use Rattle.std.proofs.Common.{◌∙◌, ap, get_or, arith}
use Rattle.eqc_xag.specs.Graph.{literal_value, differ}
use Rattle.eqc_witness.proofs.CopyLemmas.{copy_in}
use Rattle.eqc_witness.proofs.copying.copy_of.Goals as goal

pub returns : goal.returns
returns c old new variables copies =
    let table = c.args.copies.now in
    let place = c.in_ok-place.place in
    copy_in old new variables c.args.below.now.nodes.items table c.args.literal c.negated_if.result
    place copies
    (omega (arith, c.if-place-copies.false)) (c.in_ok-place.ensures.node ∙ c.node_of.ensures)
    c.negated_if.ensures.node
    (λ nodes a. c.negated_if.ensures.value nodes a
    ∙ ap (λ b. differ b (literal_value nodes a (get_or table place 0))) c.is_negated.ensures)
