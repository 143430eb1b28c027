use Rattle.eqc_sums.specs.Forms.{Keeps}
use Rattle.eqc_adders.proofs.adders.Adders.ask_all.Given as goal

abbrev pub invariant-candidates : goal.invariant-candidates
invariant-candidates l = Keeps l.fn.reduction.sweep l.reduction.sweep l.fn.reduction.form
    l.reduction.form
