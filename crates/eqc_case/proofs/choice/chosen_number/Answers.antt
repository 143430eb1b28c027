use Rattle.std.proofs.Common.{◌∙◌}
use Rattle.std.specs.Str.{bytes_eq}
use Rattle.eqc_blif.specs.Netlist.{ModelOf}
use Rattle.eqc_flat.proofs.CallLaws.{found_or_length}
use Rattle.eqc_case.proofs.TellingLaws.{chosen_named}
use Rattle.eqc_case.proofs.choice.chosen_number.Goals as goal

pub returns-in_ok-name-in-Some-clause-number : goal.returns-in_ok-name-in-Some-clause-number
returns-in_ok-name-in-Some-clause-number c =
    chosen_named c.args.library.now c.args.name c.in-Some.name c.args.place c.unwrap_or.result
    c.in-Some.is
    (rw (c.find.ensures, c.models.ensures.count, c.in_ok-name-in-Some.ensures) at
    c.unwrap_or.ensures ∙ found_or_length (λ (m : ModelOf). bytes_eq c.in-Some.name.now m.name)
    c.args.library.now)
