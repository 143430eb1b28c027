use Rattle.std.proofs.Common.{◌<◌, Some, None, nat_eq, sym, ◌∙◌, arith}
use Rattle.indexmap.specs.IndexMap.{get}
use Rattle.eqc_build.proofs.ListedLaws.{listed_size, listed_at, listed_set, inside_more}
use Rattle.eqc_build.proofs.table.replaced.Goals as goal

pub returns-in-Ok-clause-inside : goal.returns-in-Ok-clause-inside
returns-in-Ok-clause-inside g c =
    let references = get nat_eq c.in-Few.table in
    let inside : c.args.s < c.in-Few.field-1 = omega (
      arith,
      (rw c.in-Few.is at c.requires.within),
      listed_size c.in-Few.field-1 references,
    ) in
    inside_more c.in-Few.field-1 references (get nat_eq c.insert.new.self) c.args.s
    (Some c.args.reference) inside c.in-Ok.ensures.updates.0
    (rw c.in-Few.is at c.requires.inside)

pub returns-in-Ok-clause-before : goal.returns-in-Ok-clause-before
returns-in-Ok-clause-before g c =
    let references = get nat_eq c.in-Few.table in
    let inside : c.args.s < c.in-Few.field-1 = omega (
      arith,
      (rw c.in-Few.is at c.requires.within),
      listed_size c.in-Few.field-1 references,
    ) in
    rw c.in-Few.is (c.in-Ok.ensures.old
    ∙ sym (listed_at c.in-Few.field-1 references c.args.s None inside))

pub returns-in-Ok-clause-ok : goal.returns-in-Ok-clause-ok
returns-in-Ok-clause-ok g c =
    let references = get nat_eq c.in-Few.table in
    let inside : c.args.s < c.in-Few.field-1 = omega (
      arith,
      (rw c.in-Few.is at c.requires.within),
      listed_size c.in-Few.field-1 references,
    ) in
    rw c.in-Few.is (listed_set c.in-Few.field-1 references (get nat_eq c.insert.new.self) c.args.s
    (Some c.args.reference) inside c.in-Ok.ensures.updates.0)
