use Rattle.std.proofs.Common.{arith}
use Rattle.eqc_witness.proofs.WitnessLemmas.{found_by_copy, spent_where_found}
use Rattle.eqc_witness.proofs.least.least_witness.Goals as goal

pub returns-clause-found : goal.returns-clause-found
returns-clause-found c =
    let cone = c.in-Some.cone in
    found_by_copy c.args.graph.now cone.graph c.args.target.now.literal cone.root cone.positions
    c.args.target.now.variables.now c.least_of-found.result
    (rw c.in-Some.is at c.in_ok-cone.ensures.positions)
    (rw c.in-Some.is at c.in_ok-cone.ensures.copy) c.least_of-found.ensures

-- there is a node for each position, and one more
pub returns-clause-spent : goal.returns-clause-spent
returns-clause-spent c =
    spent_where_found c.args.work.now c.saturating_sub.result c.least_of-found.result
    (omega (
      arith,
      c.saturating_sub.ensures,
      c.work_beside.ensures,
      c.len-nodes.ensures.len,
      c.in-Some.cone.lawful.inputs.within,
    ))
