use Rattle.std.proofs.Common.{map, get_or}
use Rattle.eqc_blif.specs.Netlist.{no_model}
use Rattle.eqc_case.proofs.TellingLaws.{is_compared, contains_alone}
use Rattle.eqc_case.proofs.warning.is_container.Goals as goal

pub returns-then-contains : goal.returns-then-contains
returns-then-contains c =
    let m = get_or c.args.library.now c.args.m no_model in
    contains_alone (map (λ n. n.now) c.args.compared.now) c.args.name.now m c.contains.result
    c.is_among.result c.contains.ensures c.if-contains.true
    (is_compared c.args.compared.now m.name c.name.result.now c.is_among.result c.is_among.ensures
    c.name.ensures)
