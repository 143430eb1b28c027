use Rattle.eqc_apply.proofs.Meanings.{extends_trans}
use Rattle.eqc_apply.proofs.applier.Applier.do_part.Goals as goal

pub returns-then-is_some-clause-names : goal.returns-then-is_some-clause-names
returns-then-is_some-clause-names g c = extends_trans c.args.self.now.names c.loop-level.self.names
    c.known.new.self.names c.loop-level.invariant.names c.known.ensures.names

pub returns-in_err-next-clause-names : goal.returns-in_err-next-clause-names
returns-in_err-next-clause-names g c =
    let n = c.args.self.now.names in
    extends_trans n c.known.new.self.names c.half.new.self.names
    (extends_trans n c.loop-level.self.names c.known.new.self.names c.loop-level.invariant.names
    c.known.ensures.names) c.half.ensures.names

pub loop-level-preserved : goal.loop-level-preserved
loop-level-preserved g c =
    let n = c.args.self.now.names in
    let x =
    extends_trans n c.known.new.self.names c.half.new.self.names
    (extends_trans n c.loop-level.self.names c.known.new.self.names c.loop-level.invariant.names
    c.known.ensures.names)
    c.half.ensures.names in
    record {
      names = record {
        forest = x.forest;
        seat = x.seat;
        variables = x.variables;
        references =
            x.references;
        before = x.before;
        turns = x.turns;
      };
      first = c.in_ok-next.ensures.held.0;
      second = c.in_ok-next.ensures.held.1;
    }

pub returns-in_err-go-clause-names : goal.returns-in_err-go-clause-names
returns-in_err-go-clause-names g c = extends_trans c.args.self.now.names c.loop-level.self.names
    c.go.new.self.names c.loop-level.invariant.names c.go.ensures.names

pub returns-clause-names : goal.returns-clause-names
returns-clause-names g c = extends_trans c.args.self.now.names c.loop-level.self.names
    c.go.new.self.names c.loop-level.invariant.names c.go.ensures.names
