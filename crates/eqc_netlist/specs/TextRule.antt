-- The codes of the rules of reading.
use Rattle.std.specs.Prelude.{ℕ}
use Rattle.eqc_netlist.specs.declared.text_rule.Rule.{Rule}
use Rattle.eqc_netlist.specs.declared.text_rule.Rule.TheVariants.{
  ControlByte,
  TextTooLong,
  UnknownCommand,
  Latch,
  BehindEnd,
  RowOutsideCover,
  RowShape,
  RowOutput,
  NoPair,
  NoWord,
  ModelTwice,
  NameTwice,
  NoModel,
  Memory,
}

abbrev pub rule_code : Rule → ℕ
rule_code ControlByte = 1
rule_code TextTooLong = 2
rule_code UnknownCommand = 3
rule_code Latch = 4
rule_code BehindEnd = 5
rule_code RowOutsideCover = 6
rule_code RowShape = 7
rule_code RowOutput = 8
rule_code NoPair = 9
rule_code NoWord = 10
rule_code ModelTwice = 11
rule_code NameTwice = 12
rule_code NoModel = 13
rule_code Memory = 72
