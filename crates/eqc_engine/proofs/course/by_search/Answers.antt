use Rattle.std.proofs.Common.{◌≡◌, true, Some, [], slice_index_or, subst}
use Rattle.eqc_pair.specs.PairOf.{PairOf}
use Rattle.eqc_compare.specs.Verdict.{differs_under}
use Rattle.eqc_compare.specs.Comparing.{netlist_of, assumption_of}
use Rattle.eqc_fraig.specs.Searching.{IsSearched}
use Rattle.eqc_fraig.specs.declared.searching.Searched.TheVariants.{Open}
use Rattle.eqc_engine.proofs.course.by_search.Goals as goal

pub note_seen-requires-clause-differs : goal.note_seen-requires-clause-differs
note_seen-requires-clause-differs g c =
    let given = c.in-Ok-Open-default-Some in
    let P : PairOf → Type 0 = λ p.
    differs_under (netlist_of p.first) (netlist_of p.second) (assumption_of p)
    (slice_index_or p.first.outputs given.output []) given.values.items
    ≡ true in
    let found : IsSearched c.args.inside.now c.args.comparison.now.options.now.every
    (Open given.output (Some given.values)) = rw (given.field-0-is, given.field-0-1-is) at
    given.ensures.found in
    subst P c.requires.inside found.2.1
