use Rattle.std.proofs.Common.{◌∙◌, ap}
use Rattle.std.proofs.lemmas.List.{take_all}
use Rattle.eqc_pair.proofs.NameLemmas.{once_added}
use Rattle.eqc_pair.proofs.name_index.set_of.Goals as goal
use Rattle.eqc_netlist.proofs.NameSetLaws.{bytes_in}

pub names-preserved : goal.names-preserved
names-preserved c = once_added c.names.set c.insert_bytes.new.self c.args.names.now
    c.names.name-index _ c.names-test.true c.requires.once c.names.invariant
    c.in_ok-insert_bytes.ensures.names

pub returns : goal.returns
returns c = c.names.invariant
    ∙ ap bytes_in (take_all c.names.name-index c.args.names.now c.names-test.false)
