use Prim.Native.Nat.{◌+◌, ◌*◌}
use Rattle.eqc_parallel.proofs.share.+members.Given as goal

abbrev pub decreases-work : goal.decreases-work
decreases-work g l = 2 * l.group.members.len

abbrev pub decreases-there : goal.decreases-there
decreases-there g l = 2 * l.theirs.members.len + 1
