use Rattle.eqc_apply.proofs.Meanings.{extends_refl, extends_trans}
use Rattle.eqc_apply.proofs.Handing.{marks_refl, marks_trans}
use Rattle.eqc_apply.proofs.applier.Applier.withdraw.Goals as goal

pub loop-level-init : goal.loop-level-init
loop-level-init c =
    let n = c.args.self.now.names in
    let e = extends_refl n in
    record {
      names = record {
        forest = e.forest;
        seat = e.seat;
        variables = e.variables;
        references = e.references;
        before = e.before;
        turns = e.turns;
      };
      marks =
          marks_refl n.worker.known.core;
    }

pub invariant_of-self : goal.invariant_of-self
invariant_of-self c = record { cached = c.loop-level.self.cached }

pub loop-level-preserved : goal.loop-level-preserved
loop-level-preserved c =
    let i = c.loop-level.invariant in
    let e = extends_trans c.args.self.now.names c.loop-level.self.names c.retract.new.self.names
    i.names c.retract.ensures.names in
    record {
      names = record {
        forest = e.forest;
        seat = e.seat;
        variables = e.variables;
        references =
            e.references;
        before = e.before;
        turns = e.turns;
      };
      marks = marks_trans i.marks c.retract.ensures.marks;
    }

pub returns-clause-names : goal.returns-clause-names
returns-clause-names c = c.loop-level.invariant.names

pub returns-clause-marks : goal.returns-clause-marks
returns-clause-marks c = c.loop-level.invariant.marks
