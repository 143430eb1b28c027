use Rattle.std.proofs.Common.{take}
use Rattle.eqc_report.specs.Spooling.{Puts}
use Rattle.eqc_report.proofs.io.spool.Spool.put.Given as goal

abbrev pub invariant-loop-byte : goal.invariant-loop-byte
invariant-loop-byte g l = Puts (g.W.Write.contents l.fn.out) (g.W.Write.contents l.out) l.fn.self
    l.self (take l.byte-index l.bytes)
