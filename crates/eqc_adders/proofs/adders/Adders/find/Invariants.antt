use Rattle.eqc_sums.specs.Forms.{Keeps}
use Rattle.eqc_adders.proofs.adders.Adders.find.Given as goal

abbrev pub invariant-rounds : goal.invariant-rounds
invariant-rounds l = Keeps l.fn.reduction.sweep l.reduction.sweep l.fn.reduction.form
    l.reduction.form
