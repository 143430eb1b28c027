use Rattle.std.proofs.Common.{◌∙◌, ap, sym}
use Rattle.eqc_command.specs.Ends.{fault_text}
use Rattle.eqc_command.proofs.EndLemmas.{memory_line, read_line, write_line}
use Rattle.eqc_command.proofs.ending.fault_line.Goals as goal

pub returns-in-Memory : goal.returns-in-Memory
returns-in-Memory c = memory_line ∙ sym (ap fault_text c.in-Memory.is)

pub returns-in-Read : goal.returns-in-Read
returns-in-Read c = read_line ∙ sym (ap fault_text c.in-Read.is)

pub returns-in-Write : goal.returns-in-Write
returns-in-Write c = write_line ∙ sym (ap fault_text c.in-Write.is)
