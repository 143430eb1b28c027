-- The codes of the rules of hierarchies.
use Rattle.std.specs.Prelude.{ℕ}
use Rattle.eqc_netlist.specs.declared.rule.Rule.{Rule}
use Rattle.eqc_netlist.specs.declared.rule.Rule.TheVariants.{NoSuchModel, Recursion, UnknownFormal}
use Rattle.eqc_netlist.specs.declared.rule.Rule.TheVariants.{FormalTwice, MissingInput, DrivenTwice}
use Rattle.eqc_netlist.specs.declared.rule.Rule.TheVariants.{Undriven, Circle, TooLarge, ManyInputs}
use Rattle.eqc_netlist.specs.declared.rule.Rule.TheVariants.{Memory}

abbrev pub rule_code : Rule → ℕ
rule_code NoSuchModel = 21
rule_code Recursion = 22
rule_code UnknownFormal = 23
rule_code FormalTwice = 24
rule_code MissingInput = 25
rule_code DrivenTwice = 26
rule_code Undriven = 27
rule_code Circle = 28
rule_code TooLarge = 29
rule_code ManyInputs = 30
rule_code Memory = 72
