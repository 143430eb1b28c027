use Rattle.eqc_sums.specs.Forms.{Keeps}
use Rattle.eqc_adders.proofs.columns.Columns.settle.Given as goal

abbrev pub invariant-waiting : goal.invariant-waiting
invariant-waiting l = Keeps l.fn.reduction.sweep l.reduction.sweep l.fn.reduction.form
    l.reduction.form
