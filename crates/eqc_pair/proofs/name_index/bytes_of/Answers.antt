use Rattle.std.proofs.Common.{◌∙◌}
use Rattle.std.proofs.lemmas.List.{take_all}
use Rattle.eqc_pair.proofs.name_index.bytes_of.Goals as goal

pub returns : goal.returns
returns c = c.names.invariant ∙ take_all c.names.name-index c.args.names.now c.names-test.false
