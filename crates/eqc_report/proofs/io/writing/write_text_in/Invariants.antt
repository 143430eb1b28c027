use Rattle.std.proofs.Common.{◌≡◌, length, take, ◌-◌, ◌≤◌}
use Rattle.std.specs.Io.KnownBytes.{Appends}
use Rattle.eqc_report.specs.declared.io.Stage.TheVariants.{Open}
use Rattle.eqc_report.proofs.io.writing.write_text_in.Given as goal

abbrev pub invariant-writes : goal.invariant-writes
invariant-writes g l = record {
  within : l.done ≤ length l.text;
  open_stage : l.stage ≡ Open;
  written : Appends (g.W.Write.contents l.fn.out) (g.W.Write.contents l.out) (take l.done l.text);
}

abbrev pub decreases-writes : goal.decreases-writes
decreases-writes g l = length l.text - l.done
