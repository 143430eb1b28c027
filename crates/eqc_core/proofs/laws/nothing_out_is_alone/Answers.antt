use Rattle.eqc_core.proofs.Bounds.{nothing_out_is_alone}
use Rattle.eqc_core.proofs.laws.nothing_out_is_alone.Goals as goal

pub returns : goal.returns
returns c = λ z w hs vs id j v u law at on first none there apart. nothing_out_is_alone z w hs vs id
    v law at on j u first none there apart
