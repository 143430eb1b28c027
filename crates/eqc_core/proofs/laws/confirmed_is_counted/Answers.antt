use Rattle.eqc_core.proofs.Confirmed.{confirmed_counted}
use Rattle.eqc_core.proofs.laws.confirmed_is_counted.Goals as goal

pub returns : goal.returns
returns c = λ s law id k x v at on is. confirmed_counted s.sizes s.words s.homes s.views law id k x
    v at on is
