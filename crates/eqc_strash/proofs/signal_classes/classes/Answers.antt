use Rattle.eqc_strash.proofs.NumberingLaws.{have_one_value}
use Rattle.eqc_strash.proofs.signal_classes.classes.Goals as goal

pub returns-clause-values : goal.returns-clause-values
returns-clause-values c =
    have_one_value c.args.first.now c.args.second.now c.args.variables.now c.args.others.now
    c.in_ok-found.found
    c.recall_laws.ensures.lawful c.recall_laws.ensures.follows c.recall_laws-2.ensures.lawful
    c.recall_laws-2.ensures.follows
    c.in_ok-found.ensures
