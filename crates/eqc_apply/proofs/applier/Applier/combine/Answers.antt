use Rattle.eqc_apply.proofs.Meanings.{extends_trans}
use Rattle.eqc_apply.proofs.Withdrawing.{results_stay, stops_stay}
use Rattle.eqc_apply.proofs.applier.Applier.combine.Goals as goal

pub returns-clause-names : goal.returns-clause-names
returns-clause-names g c =
    let n = c.args.self.now.names in
    extends_trans n c.go_in_parts-made.new.self.names c.withdraw.new.self.names
    (extends_trans n c.take_late.new.self.names c.go_in_parts-made.new.self.names
    c.take_late.ensures.names c.go_in_parts-made.ensures.names)
    c.withdraw.ensures.names

pub returns-clause-ok : goal.returns-clause-ok
returns-clause-ok g c =
    results_stay c.go_in_parts-made.new.self.names c.withdraw.new.self.names c.args.op c.args.f
    c.args.g c.go_in_parts-made.result c.withdraw.ensures.names c.go_in_parts-made.ensures.ok

pub returns-clause-stop : goal.returns-clause-stop
returns-clause-stop g c =
    stops_stay c.go_in_parts-made.result c.go_in_parts-made.new.self.names c.withdraw.new.self.names
    c.withdraw.ensures.names c.withdraw.ensures.marks c.go_in_parts-made.ensures.stop
