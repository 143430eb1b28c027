use Rattle.eqc_sums.specs.Forms.{Keeps}
use Rattle.eqc_adders.proofs.columns.Columns.add_up.Given as goal

abbrev pub invariant-columns : goal.invariant-columns
invariant-columns l = Keeps l.fn.reduction.sweep l.reduction.sweep l.fn.reduction.form
    l.reduction.form
