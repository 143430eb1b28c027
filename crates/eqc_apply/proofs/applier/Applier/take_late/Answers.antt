use Rattle.eqc_apply.proofs.Meanings.{extends_refl, extends_trans}
use Rattle.eqc_apply.proofs.applier.Applier.take_late.Goals as goal

pub returns-then-self-eq0 : goal.returns-then-self-eq0
returns-then-self-eq0 c = record { names = extends_refl c.args.self.now.names }

pub loop-level-preserved : goal.loop-level-preserved
loop-level-preserved c =
    let e = extends_trans c.args.self.now.names c.loop-level.self.names
    c.withdraw_late.new.self.names c.loop-level.invariant.names c.withdraw_late.ensures.names in
    record {
      names = record {
        forest = e.forest;
        seat = e.seat;
        variables = e.variables;
        references = e.references;
        before = e.before;
        turns = e.turns;
      };
    }
