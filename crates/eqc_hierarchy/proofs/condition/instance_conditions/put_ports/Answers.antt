use Rattle.eqc_hierarchy.specs.Hierarchy.{model}
use Rattle.eqc_hierarchy.proofs.NameSetLaws.{ports_made}
use Rattle.eqc_hierarchy.proofs.condition.instance_conditions.put_ports.Goals as goal

pub returns : goal.returns
returns c =
    ports_made (model c.args.library.now c.args.m).inputs (model c.args.library.now
    c.args.m).outputs c.insert_all.new.self
    c.insert_all-2.new.self (rw (c.requires.empty, c.inputs.ensures.names) at
    c.in_ok-insert_all.ensures)
    (rw c.outputs.ensures.names at c.in_ok-insert_all-2.ensures)
