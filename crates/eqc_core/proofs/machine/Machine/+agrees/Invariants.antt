use Rattle.std.proofs.Common.{◌+◌, ◌-◌, ◌*◌, ◌^◌}
use Rattle.eqc_core.specs.Trees.{variable_at}
use Rattle.eqc_core.proofs.machine.Machine.+agrees.Given as goal

-- variables rise on the way down
abbrev pub decreases-agrees : goal.decreases-agrees
decreases-agrees l = 3 * 2 ^ 16 - (variable_at l.self.now.nodes.items l.f
    + (variable_at l.self.now.nodes.items l.g + variable_at l.self.now.nodes.items l.r))
