use Rattle.std.proofs.Common.{rules}
use Rattle.eqc_netlist.specs.Graph.{IsFlat}
use Rattle.eqc_netlist.proofs.Values as values
use Rattle.eqc_netlist.proofs.flat.Flat.steps.Goals as goal

pub returns-clause-follows : goal.returns-clause-follows
returns-clause-follows c =
    let lawful : IsFlat c.args.self.now = search rules in
    values.follows c.args.self.now lawful
