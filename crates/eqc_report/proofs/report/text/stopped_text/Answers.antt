use Rattle.std.proofs.Common.{sym}
use Rattle.eqc_report.proofs.ReportLemmas.{stopped_bytes}
use Rattle.eqc_report.proofs.report.text.stopped_text.Goals as goal

pub returns : goal.returns
returns c = sym (stopped_bytes c.args.stop c.code-code.result c.code-code.ensures)
