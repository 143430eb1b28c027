use Rattle.eqc_apply.proofs.Answering.{no_constant, constant_says}
use Rattle.eqc_apply.proofs.diagrams.ApplierReferences.as_constant.Goals as goal

pub returns-then-f-ge2 : goal.returns-then-f-ge2
returns-then-f-ge2 c b = (
  (λ e a. cc),
  (λ e. absurd (no_constant c.args.self.now.names c.args.f.now.at.value c.args.f.now.name b
      c.recall_laws.ensures c.requires c.if-f-ge2.true e)),
)

pub returns : goal.returns
returns c b = constant_says c.args.f.now.at.value.known c.args.f.now.name b c.if-f-ge2.false
