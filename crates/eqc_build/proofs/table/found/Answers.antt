use Rattle.std.proofs.Common.{◌<◌, None, nat_eq, sym, ◌∙◌, arith}
use Rattle.indexmap.specs.IndexMap.{get}
use Rattle.eqc_build.proofs.ListedLaws.{listed_size, listed_at}
use Rattle.eqc_build.proofs.table.found.Goals as goal

pub returns-in-Few : goal.returns-in-Few
returns-in-Few g c =
    let references = get nat_eq c.in-Few.table in
    let inside : c.args.s < c.in-Few.field-1 = omega (
      arith,
      (rw c.in-Few.is at c.requires),
      listed_size c.in-Few.field-1 references,
    ) in
    rw c.in-Few.is (c.get.ensures.value
    ∙ sym (listed_at c.in-Few.field-1 references c.args.s None inside))
