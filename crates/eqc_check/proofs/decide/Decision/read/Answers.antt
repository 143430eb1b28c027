use Rattle.eqc_report.proofs.OptionsLemmas.{bytes_in_range}
use Rattle.eqc_check.proofs.decide.Decision.read.Goals as goal

pub returns-clause-read : goal.returns-clause-read
returns-clause-read g c =
    rw (c.byte_limit-limit.ensures.given (bytes_in_range c.args.self.now.case.now.options
    c.requires)) at c.read_main.ensures.read

pub returns-clause-chosen : goal.returns-clause-chosen
returns-clause-chosen g c =
    rw (c.byte_limit-limit.ensures.given (bytes_in_range c.args.self.now.case.now.options
    c.requires)) at c.read_main.ensures.chosen

pub returns-clause-refused : goal.returns-clause-refused
returns-clause-refused g c =
    rw (c.byte_limit-limit.ensures.given (bytes_in_range c.args.self.now.case.now.options
    c.requires)) at c.read_main.ensures.refused
