use Rattle.eqc_report.proofs.ReportLemmas.{refused_bytes}
use Rattle.eqc_report.proofs.report.text.refused_text.Goals as goal

pub returns : goal.returns
returns c = refused_bytes c.format.result c.args.refusal.side c.word.result.now c.args.refusal.line
    c.args.refusal.code c.word.ensures c.format.ensures.ok
