use Rattle.eqc_tree.specs.Holding.{says}
use Rattle.eqc_build.proofs.PairLaws.{variables_distinct}
use Rattle.eqc_compare.proofs.InputLemmas.{variables_below, depends_on, least_found}
use Rattle.eqc_compare.proofs.least.least_assignment.Goals as goal

pub least_over-requires-clause-within : goal.least_over-requires-clause-within
least_over-requires-clause-within g c = rw c.variables.ensures.each (variables_below c.args.pair.now
    _ c.variables.ensures.lawful c.requires.variables)

pub least_over-requires-clause-distinct : goal.least_over-requires-clause-distinct
least_over-requires-clause-distinct g c =
    rw c.variables.ensures.each (variables_distinct c.args.pair.now c.variables.ensures.lawful)

pub least_over-requires-clause-depends : goal.least_over-requires-clause-depends
least_over-requires-clause-depends g c =
    rw c.variables.ensures.each (depends_on c.args.pair.now
    (says (g.D.References.entry c.args.f.now)) c.variables.ensures.lawful c.requires.depends)

pub returns-clause-least : goal.returns-clause-least
returns-clause-least g c =
    least_found c.args.pair.now (says (g.D.References.entry c.args.f.now)) c.variables.result.now
    c.least_over.result c.variables.ensures.lawful
    c.variables.ensures.each c.requires.depends c.least_over.ensures.least
