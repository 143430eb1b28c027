use Rattle.std.proofs.Common.{◌*◌, arith}
use Rattle.eqc_witness.proofs.CopyLemmas.{copy_constant, copy_input, copy_unlisted}
use Rattle.eqc_witness.proofs.copying.copied.Goals as goal

pub returns-in-Constant-clause-copy : goal.returns-in-Constant-clause-copy
returns-in-Constant-clause-copy c = copy_constant c.args.graph.now c.args.copy.now
    c.args.variables.now (2 * c.args.node) c.len.ensures.graph c.in-Constant.ensures.value

pub returns-then-position-variables-clause-copy : goal.returns-then-position-variables-clause-copy
returns-then-position-variables-clause-copy c =
    copy_input c.args.graph.now c.args.copy.now c.args.variables.now (2 * c.args.node)
    c.in-Input.variable c.position_of-position.result
    c.requires.inputs c.position_of-position.ensures (omega arith) c.in-Input.ensures.value

pub returns-else-position-variables-clause-copy : goal.returns-else-position-variables-clause-copy
returns-else-position-variables-clause-copy c =
    copy_unlisted c.args.graph.now c.args.copy.now c.args.variables.now (2 * c.args.node)
    c.in-Input.variable c.position_of-position.result
    c.len.ensures.graph c.position_of-position.ensures (omega arith) c.in-Input.ensures.value
