use Rattle.eqc_sums.specs.Forms.{Keeps}
use Rattle.eqc_adders.proofs.sums.reduce_by.Given as goal

abbrev pub invariant-steps : goal.invariant-steps
invariant-steps l = Keeps l.fn.reduction.sweep l.reduction.sweep l.fn.reduction.form
    l.reduction.form
