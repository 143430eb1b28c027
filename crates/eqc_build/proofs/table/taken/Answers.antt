use Rattle.std.proofs.Common.{◌<◌, None, nat_eq, sym, ◌∙◌, arith}
use Rattle.indexmap.specs.IndexMap.{get}
use Rattle.eqc_build.proofs.ListedLaws.{listed_size, listed_at, listed_set}
use Rattle.eqc_build.proofs.table.taken.Goals as goal

pub returns-in-Few-clause-before : goal.returns-in-Few-clause-before
returns-in-Few-clause-before g c =
    let references = get nat_eq c.in-Few.table in
    let inside : c.args.s < c.in-Few.field-1 = omega (
      arith,
      (rw c.in-Few.is at c.requires.within),
      listed_size c.in-Few.field-1 references,
    ) in
    rw c.in-Few.is (c.swap_remove.ensures.value
    ∙ sym (listed_at c.in-Few.field-1 references c.args.s None inside))

pub returns-in-Few-clause-after : goal.returns-in-Few-clause-after
returns-in-Few-clause-after g c =
    let references = get nat_eq c.in-Few.table in
    let inside : c.args.s < c.in-Few.field-1 = omega (
      arith,
      (rw c.in-Few.is at c.requires.within),
      listed_size c.in-Few.field-1 references,
    ) in
    rw c.in-Few.is (listed_set c.in-Few.field-1 references (get nat_eq c.swap_remove.new.self)
    c.args.s None inside c.swap_remove.ensures.updates.0)
