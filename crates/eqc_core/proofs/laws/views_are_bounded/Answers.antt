use Rattle.eqc_core.proofs.laws.views_are_bounded.Goals as goal

pub returns : goal.returns
returns c = λ z w hs vs id v law at on. let f = law.views id v at on in record {
  noted = f.noted;
  hand = f.hand;
}
