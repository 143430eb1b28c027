use Rattle.std.proofs.Common.{◌∙◌, ap, sym}
use Rattle.eqc_xag.specs.Graph.{literal_value}
use Rattle.eqc_literals.proofs.LiteralLaws.{asked_equal}
use Rattle.eqc_fraig.proofs.outputs.is_shown.Goals as goal

pub returns : goal.returns
returns c _ =
    let nodes = c.args.sweep.now in
    asked_equal c.args.steps.now nodes c.args.literals.now c.roots-roots.result c.args.twins.place
    c.in-Some.x c.in-Some-literal_of.y
    c.requires.inside c.requires.output c.roots-roots.ensures (sym c.in-Some.ensures)
    (sym c.in-Some-literal_of.ensures)
    (λ a. ap (literal_value nodes a) c.if-x-twins.false ∙ (c.requires.equal.equal.value a
    ∙ ap (literal_value nodes a) (sym c.if-y-twins.false)))
