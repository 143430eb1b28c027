use Rattle.eqc_sums.specs.Forms.{Keeps}
use Rattle.eqc_adders.proofs.adders.Adders.try_block.Given as goal

abbrev pub invariant-polarities : goal.invariant-polarities
invariant-polarities l = Keeps l.fn.reduction.sweep l.reduction.sweep l.fn.reduction.form
    l.reduction.form
