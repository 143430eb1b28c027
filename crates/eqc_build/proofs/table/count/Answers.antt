use Rattle.std.proofs.Common.{nat_eq, sym}
use Rattle.indexmap.specs.IndexMap.{get}
use Rattle.eqc_build.proofs.ListedLaws.{listed_size}
use Rattle.eqc_build.proofs.table.count.Goals as goal

pub returns-in-Few : goal.returns-in-Few
returns-in-Few g c = rw c.in-Few.is (sym (listed_size c.in-Few.count (get nat_eq c.in-Few.field-0)))
