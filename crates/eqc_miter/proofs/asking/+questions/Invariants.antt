use Prim.Native.Nat.{◌+◌, ◌*◌}
use Rattle.eqc_miter.proofs.asking.+questions.Given as goal

abbrev pub decreases-ask_all : goal.decreases-ask_all
decreases-ask_all g l = 2 * l.threads

abbrev pub decreases-front : goal.decreases-front
decreases-front g l = 2 * l.here + 1

abbrev pub decreases-back : goal.decreases-back
decreases-back g l = 2 * l.there + 1
