-- What a worker knows where an operation stopped.
use Rattle.std.specs.Prelude.{◌<◌, ◌⊎◌}
use Rattle.eqc_tree.specs.declared.stopping.Stop.{Stop}
use Rattle.eqc_tree.specs.declared.stopping.Stop.TheVariants.{NodeLimit, Memory, References}
use Rattle.eqc_tree.specs.declared.stopping.Stop.TheVariants.{Threads}
use Rattle.eqc_core.specs.View.{View}
use Rattle.eqc_core.specs.Words.{times}
use Rattle.eqc_guard.specs.Sharing.{number_of}
use Rattle.eqc_guard.specs.Searching.{HasSeenAll}
use Rattle.eqc_apply.specs.declared.held.Held.{Held}
use Rattle.eqc_plain.specs.Spending.{IsSpent}

-- a stop of this kind came out of a box, since a lock was last won: another worker met it
abbrev pub HasTaken : Stop → View → Type 0
HasTaken stop v = 0 < times (number_of stop) v.stops

-- every slot was seen taken by this worker, or another one that did a part of the operation stopped
-- for nodes
abbrev pub IsFull : View → Type 0
IsFull v = HasSeenAll v ⊎ HasTaken NodeLimit v

-- the turns that its operations were allowed are spent
abbrev pub HasSpent : Held → Type 0
HasSpent n = IsSpent n.turns

-- From here on: for proofs alone.

-- what there is to each stop that came out of a box
abbrev pub HasMet : Stop → View → Type 0
HasMet NodeLimit v = IsFull v
HasMet Memory v = Unit {0}
HasMet References v = HasTaken References v
HasMet Threads v = ⊥

-- what there is to each stop
abbrev pub HasStopped : Stop → Held → Type 0
HasStopped NodeLimit n = IsFull n.worker.known.core ⊎ HasSpent n
HasStopped Memory n = Unit {0}
HasStopped References n = HasTaken References n.worker.known.core
HasStopped Threads n = ⊥
