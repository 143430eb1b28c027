use Rattle.eqc_cover.specs.declared.splits.Split.TheVariants.{Table}
use Rattle.eqc_cover.proofs.SplitsLaws.{grows_more, table_added}
use Rattle.eqc_cover.proofs.splits.Splits.table.Goals as goal

pub returns-in-Ok-clause-grows : goal.returns-in-Ok-clause-grows
returns-in-Ok-clause-grows c = rw c.in_ok-place.ensures.list (grows_more c.args.self.now.list.items
    (Table c.args.table))

pub returns-in-Ok-clause-made : goal.returns-in-Ok-clause-made
returns-in-Ok-clause-made c = λ n. rw (c.in_ok-place.ensures.list, c.in_ok-place.ensures.place)
    (table_added c.args.self.now.list.items c.args.table n)
