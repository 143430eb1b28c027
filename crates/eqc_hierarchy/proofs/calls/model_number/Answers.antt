use Rattle.std.proofs.Common.{◌∙◌}
use Rattle.std.specs.Str.{bytes_eq}
use Rattle.eqc_blif.specs.Netlist.{ModelOf}
use Rattle.eqc_hierarchy.proofs.CallLaws.{found_or_length}
use Rattle.eqc_hierarchy.proofs.calls.model_number.Goals as goal

pub returns : goal.returns
returns c = rw (c.find.ensures, c.models.ensures.count) at c.unwrap_or.ensures
    ∙ found_or_length (λ (m : ModelOf). bytes_eq c.args.name.now m.name) c.args.library.now
