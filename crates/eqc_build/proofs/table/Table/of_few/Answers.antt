use Rattle.std.proofs.Common.{nat_eq, ap}
use Rattle.std.specs.Map.{lookup}
use Rattle.indexmap.specs.IndexMap.{get}
use Rattle.eqc_build.proofs.ListedLaws.{listed_size, listed_none}
use Rattle.eqc_build.proofs.table.Table.of_few.Goals as goal

pub returns-clause-size : goal.returns-clause-size
returns-clause-size g c = listed_size c.args.count (get nat_eq c.new.result)

pub returns-clause-none : goal.returns-clause-none
returns-clause-none g c = listed_none c.args.count (get nat_eq c.new.result)
    (λ s. ap (lookup (nat_eq s)) c.new.ensures.empty)
