use Rattle.eqc_apply.proofs.Meanings.{extends_trans}
use Rattle.eqc_apply.proofs.Expanding.{extends_thrice, expanded}
use Rattle.eqc_apply.proofs.expansion.expand.Goals as goal

pub returns-in_err-f-clause-names : goal.returns-in_err-f-clause-names
returns-in_err-f-clause-names c = extends_trans c.args.names.now c.higher_root-variable.new.self
    c.cofactors.new.self c.higher_root-variable.ensures.names c.cofactors.ensures.names

pub returns-in_err-g-clause-names : goal.returns-in_err-g-clause-names
returns-in_err-g-clause-names c =
    extends_thrice c.args.names.now c.higher_root-variable.new.self c.cofactors.new.self
    c.cofactors-2.new.self
    c.higher_root-variable.ensures.names c.cofactors.ensures.names c.cofactors-2.ensures.names

pub returns-clause-ok : goal.returns-clause-ok
returns-clause-ok c =
    let top = c.higher_root-variable.ensures in
    expanded c.args.names.now c.higher_root-variable.new.self c.cofactors.new.self
    c.cofactors-2.new.self c.args.f c.args.g
    c.higher_root-variable.result c.in_ok-f.f.0 c.in_ok-f.f.1 c.in_ok-g.g.0 c.in_ok-g.g.1 top.names
    c.cofactors.ensures.names
    c.cofactors-2.ensures.names c.requires.f top.top (top.below c.requires.inner)
    c.in_ok-f.ensures.ok c.in_ok-g.ensures.ok

pub returns-clause-names : goal.returns-clause-names
returns-clause-names c =
    extends_thrice c.args.names.now c.higher_root-variable.new.self c.cofactors.new.self
    c.cofactors-2.new.self
    c.higher_root-variable.ensures.names c.cofactors.ensures.names c.cofactors-2.ensures.names
