use Rattle.eqc_apply.proofs.Meanings.{extends_trans}
use Rattle.eqc_apply.proofs.applier.Applier.do_parts.Goals as goal

pub loop-level-preserved-in-Continue-1 : goal.loop-level-preserved-in-Continue-1
loop-level-preserved-in-Continue-1 g c =
    let e = extends_trans c.args.self.now.names c.loop-level.self.names c.do_part.new.self.names
    c.loop-level.invariant.names c.do_part.ensures.names in
    record {
      names = record {
        forest = e.forest;
        seat = e.seat;
        variables = e.variables;
        references = e.references;
        before = e.before;
        turns = e.turns;
      };
    }

pub returns-in_err-do_part-clause-names : goal.returns-in_err-do_part-clause-names
returns-in_err-do_part-clause-names g c = extends_trans c.args.self.now.names
    c.loop-level.self.names c.do_part.new.self.names c.loop-level.invariant.names
    c.do_part.ensures.names
