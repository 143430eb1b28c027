use Rattle.std.proofs.Common.{ap, sym, ◌∙◌}
use Rattle.eqc_build.specs.Turns.{is_marked}
use Rattle.eqc_parallel.specs.Verdicts.{asked}
use Rattle.eqc_parallel.proofs.ShareLemmas.{none_found_at, some_found_at}
use Rattle.eqc_parallel.proofs.share.finding.Goals as goal

pub returns-then-is_marked-clause-found : goal.returns-then-is_marked-clause-found
returns-then-is_marked-clause-found g c =
    c.requires.task.settled.none c.args.output c.requires.output
    (ap (λ l. is_marked l c.args.output) (sym c.deref.ensures.value) ∙ (sym c.is_marked.ensures
    ∙ c.if-is_marked.true))

pub returns-in-None-clause-found : goal.returns-in-None-clause-found
returns-in-None-clause-found g c =
    let chosen = c.requires.task.settled.chosen c.args.output c.requires.output
    (ap (λ l. is_marked l c.args.output) (sym c.deref.ensures.value) ∙ (sym c.is_marked.ensures
    ∙ c.if-is_marked.false)) in
    none_found_at (asked c.args.comparison.now.pair.now
    c.args.comparison.now.task.now.schedule.every) c.args.output c.in_ok-compare.field-0 chosen
    c.in_ok-compare.ensures.least c.in-None.is

pub returns-in-Some-clause-found : goal.returns-in-Some-clause-found
returns-in-Some-clause-found g c =
    let chosen = c.requires.task.settled.chosen c.args.output c.requires.output
    (ap (λ l. is_marked l c.args.output) (sym c.deref.ensures.value) ∙ (sym c.is_marked.ensures
    ∙ c.if-is_marked.false)) in
    some_found_at (asked c.args.comparison.now.pair.now
    c.args.comparison.now.task.now.schedule.every) c.args.output c.in_ok-compare.field-0
    c.in-Some.values chosen c.in_ok-compare.ensures.least c.in-Some.is
