use Rattle.std.proofs.Common.{◌∙◌, ap}
use Rattle.std.proofs.lemmas.Result.{IfOk-weaker}
use Rattle.clap.specs.Simple.{app_of_fields}
use Rattle.eqc_words.specs.CommandLine.{with_version, with_numbers, with_choices, with_files}
use Rattle.eqc_words.proofs.command_line.command.Goals as goal

pub returns : goal.returns
returns c =
    let none = ap app_of_fields c.after_help-command.ensures
    ∙ (ap app_of_fields c.override_usage.ensures ∙ (ap app_of_fields c.about.ensures
    ∙ (ap app_of_fields c.version.ensures ∙ ap with_version c.new.ensures.app))) in
    let numbers = c.in_ok-command.ensures ∙ ap with_numbers none in
    let choices = c.in_ok-command-2.ensures ∙ ap with_choices numbers in
    IfOk-weaker c.with_files.result _ _ (λ r is. is ∙ ap with_files choices) c.with_files.ensures
