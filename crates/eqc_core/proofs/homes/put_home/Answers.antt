use Rattle.std.proofs.Common.{Some}
use Rattle.std.proofs.lemmas.List.{map-set}
use Rattle.eqc_core.specs.Machine.{home_of}
use Rattle.eqc_core.proofs.homes.put_home.Goals as goal

pub returns : goal.returns
returns c = map-set home_of c.args.homes.now.items c.args.i (Some c.args.table)
