use Rattle.eqc_apply.proofs.Meanings.{extends_trans}
use Rattle.eqc_apply.proofs.applier.Applier.go_in_parts.Goals as goal

pub returns-clause-names : goal.returns-clause-names
returns-clause-names g c = extends_trans c.args.self.now.names c.do_parts.new.self.names
    c.go.new.self.names c.do_parts.ensures.names c.go.ensures.names
