-- The codes of the rules of a pair, of an order text and of an assumption.
use Rattle.std.specs.Prelude.{ℕ}
use Rattle.eqc_pair.specs.declared.rule.Rule.{Rule}
use Rattle.eqc_pair.specs.declared.rule.Rule.TheVariants.{OtherInputs, OtherOutputs, UnknownOutput}
use Rattle.eqc_pair.specs.declared.rule.Rule.TheVariants.{UnknownWord, WordTwice, InputLeftOut}
use Rattle.eqc_pair.specs.declared.rule.Rule.TheVariants.{AssumeInputs, AssumeOutput}

abbrev pub rule_code : Rule → ℕ
rule_code OtherInputs = 41
rule_code OtherOutputs = 42
rule_code UnknownOutput = 43
rule_code UnknownWord = 51
rule_code WordTwice = 52
rule_code InputLeftOut = 53
rule_code AssumeInputs = 61
rule_code AssumeOutput = 62
