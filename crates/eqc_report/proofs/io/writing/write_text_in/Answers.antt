use Rattle.std.proofs.Common.{arith}
use Rattle.eqc_report.proofs.KnownBytes.{writes_on}
use Rattle.eqc_report.proofs.io.writing.write_text_in.Goals as goal

pub writes-preserved : goal.writes-preserved
writes-preserved g c = record {
  within = omega (arith, c.in_ok-done.ensures.some);
  open_stage = c.in_ok-done.ensures.stage;
  written =
      writes_on (g.W.Write.contents c.args.out.now) (g.W.Write.contents c.writes.out)
      (g.W.Write.contents c.write_some.new.out) c.args.text.now
      c.writes.done c.in_ok-done.field-0 c.writes.invariant.written c.in_ok-done.ensures.written;
}
