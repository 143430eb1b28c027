use Rattle.eqc_cover.specs.declared.splits.Split.TheVariants.{Choice}
use Rattle.eqc_cover.proofs.SplitsLaws.{grows_more, choice_added}
use Rattle.eqc_cover.proofs.splits.Splits.choice.Goals as goal

pub returns-in-Ok-clause-grows : goal.returns-in-Ok-clause-grows
returns-in-Ok-clause-grows c = rw c.in_ok-place.ensures.list (grows_more c.args.self.now.list.items
    (Choice c.args.choice))

pub returns-in-Ok-clause-made : goal.returns-in-Ok-clause-made
returns-in-Ok-clause-made c = rw (c.in_ok-place.ensures.list, c.in_ok-place.ensures.place)
    (choice_added c.args.self.now.list.items c.args.choice)
