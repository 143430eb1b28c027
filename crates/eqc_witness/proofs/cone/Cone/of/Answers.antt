use Rattle.eqc_witness.proofs.cone.Cone.of.Goals as goal

pub returns-clause-copy : goal.returns-clause-copy
returns-clause-copy c = c.in-Some.ensures c.args.graph.now c.copies.new.copy c.args.variables.now
    (rw c.deref.ensures.value c.in_ok-table.ensures.copies)
