use Rattle.std.proofs.Common.{◌∙◌, ap, is_some}
use Rattle.eqc_netlist.proofs.NameSetLaws.{named_if_found}
use Rattle.eqc_netlist.proofs.name_set.NameSet.has.Goals as goal

pub returns : goal.returns
returns c = c.is_some.ensures ∙ (ap is_some c.position.ensures
    ∙ named_if_found c.args.self.now c.args.name.now)
