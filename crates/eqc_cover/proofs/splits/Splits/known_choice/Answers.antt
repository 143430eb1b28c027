use Rattle.std.proofs.Common.{sym, ◌∙◌, arith}
use Rattle.eqc_cover.proofs.SplitsLaws.{choice_there}
use Rattle.eqc_cover.proofs.splits.Splits.known_choice.Goals as goal

pub returns : goal.returns
returns c =
    choice_there c.args.self.now.list.items c.in_ok-place.field-0.now c.args.choice
    c.index.result.now (omega arith) (omega arith) (omega arith)
    (sym c.index.ensures ∙ c.is_choice.ensures c.if-not-is_choice.false)
