use Rattle.eqc_report.proofs.WrittenLemmas.{written_instead, part_instead}
use Rattle.eqc_report.proofs.report.text.write_or_stop.Goals as goal

pub returns-in-Err-Refused-clause-written : goal.returns-in-Err-Refused-clause-written
returns-in-Err-Refused-clause-written g c = written_instead c.write_stopped.result _ _ _ _
    (c.in-Err-Refused.ensures.answers c.in-Err-Refused.field-0-is)
    (c.in-Err-Refused.ensures.memory c.in-Err-Refused.field-0-is) c.write_stopped.ensures.written

pub returns-in-Err-Refused-clause-part : goal.returns-in-Err-Refused-clause-part
returns-in-Err-Refused-clause-part g c = part_instead c.write_stopped.result _ _ _ _
    (c.in-Err-Refused.ensures.answers c.in-Err-Refused.field-0-is)
    (c.in-Err-Refused.ensures.memory c.in-Err-Refused.field-0-is) c.write_stopped.ensures.part
