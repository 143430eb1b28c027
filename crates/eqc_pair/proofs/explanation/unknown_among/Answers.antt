use Rattle.std.proofs.Common.{ap, ◌∙◌, arith, refl}
use Rattle.eqc_pair.proofs.FindingLemmas.{some_lacked}
use Rattle.eqc_netlist.proofs.NameSetLaws.{bytes_in}
use Rattle.eqc_pair.proofs.explanation.unknown_among.Goals as goal

pub returns-then-count-gt0 : goal.returns-then-count-gt0
returns-then-count-gt0 c =
    let others = ap bytes_in c.deref.ensures.value ∙ c.in_ok-others.ensures in
    some_lacked (bytes_in c.deref.result.now) (bytes_in c.args.names.now) c.args.others.now
    (bytes_in c.args.names.now) c.in_ok-unknown.unknown
    others refl c.in_ok-unknown.ensures.none c.in_ok-unknown.ensures.names
    (omega (arith, c.count.ensures, c.if-count-gt0.true))
