-- The codes of the rules of options.
use Rattle.std.specs.Prelude.{ℕ}
use Rattle.eqc_report.specs.declared.option_rule.OptionRule.{OptionRule}
use Rattle.eqc_report.specs.declared.option_rule.OptionRule.TheVariants.{Workers, Nodes, Cells}
use Rattle.eqc_report.specs.declared.option_rule.OptionRule.TheVariants.{Forks, Inputs, Bytes}

abbrev pub option_rule_code : OptionRule → ℕ
option_rule_code Workers = 81
option_rule_code Nodes = 82
option_rule_code Cells = 83
option_rule_code Forks = 84
option_rule_code Inputs = 85
option_rule_code Bytes = 86
