use Rattle.std.proofs.Common.{sym, ◌∙◌}
use Rattle.eqc_tree.specs.Holding.{says}
use Rattle.eqc_build.proofs.PairLaws.{variables_distinct}
use Rattle.eqc_compare.proofs.InputLemmas.{variables_below}
use Rattle.eqc_compare.proofs.DifferenceLaws.{differs_depends, least_is, none_is, kept_lost}
use Rattle.eqc_cover.proofs.HeldLaws.{kept_held}
use Rattle.eqc_compare.proofs.compare.least_of_difference.Goals as goal

pub returns-then-is_false-clause-found : goal.returns-then-is_false-clause-found
returns-then-is_false-clause-found g c =
    sym (none_is c.args.pair.now c.args.output (says (g.D.References.entry c.args.difference))
    c.recall_laws.ensures c.requires.output c.requires.function
    (c.is_false.ensures.0 c.if-is_false.true))

pub least_over-least-requires-clause-within : goal.least_over-least-requires-clause-within
least_over-least-requires-clause-within g c =
    rw c.variables.ensures.each (variables_below c.args.pair.now _ c.recall_laws.ensures
    c.requires.variables)

pub least_over-least-requires-clause-distinct : goal.least_over-least-requires-clause-distinct
least_over-least-requires-clause-distinct g c =
    rw c.variables.ensures.each (variables_distinct c.args.pair.now c.recall_laws.ensures)

pub least_over-least-requires-clause-depends : goal.least_over-least-requires-clause-depends
least_over-least-requires-clause-depends g c =
    rw c.variables.ensures.each (differs_depends c.args.pair.now c.args.output
    (says (g.D.References.entry c.args.difference)) c.recall_laws.ensures c.requires.output
    c.requires.function)

pub returns-clause-found : goal.returns-clause-found
returns-clause-found g c =
    (rw c.variables.ensures.each at c.in_ok-least.ensures.least)
    ∙ least_is c.args.pair.now c.args.output (says (g.D.References.entry c.args.difference))
    c.recall_laws.ensures c.requires.output c.requires.function

pub give_back-requires-2 : goal.give_back-requires-2
give_back-requires-2 g c = kept_held _ _ _ c.least_over-least.ensures.kept c.requires.held

pub returns-in_err-least-clause-lost : goal.returns-in_err-least-clause-lost
returns-in_err-least-clause-lost g c = kept_lost _ _ _ _ c.least_over-least.ensures.kept
    c.give_back-2.ensures

pub returns-clause-lost : goal.returns-clause-lost
returns-clause-lost g c = kept_lost _ _ _ _ c.least_over-least.ensures.kept c.give_back-2.ensures
