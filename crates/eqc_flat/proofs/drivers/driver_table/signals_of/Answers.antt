use Rattle.std.proofs.Common.{arith, ◌∙◌, ap, [], ℕ, List, map, length}
use Rattle.std.proofs.lemmas.List.{take_all, get_or_default}
use Rattle.eqc_netlist.specs.Names.{is_named}
use Rattle.eqc_hierarchy.specs.Signals.{names_of, signals}
use Rattle.eqc_flat.specs.Flattened.{path_at, model_of, signals_here, signal_at}
use Rattle.eqc_flat.proofs.DrivingLaws.{signals_more, within_more}
use Rattle.eqc_flat.proofs.drivers.driver_table.signals_of.Goals as goal

pub loop-j-init : goal.loop-j-init
loop-j-init c = record {
  made = ap (map (signal_at c.args.hierarchy.now.0 c.args.hierarchy.now.1))
      c.in_ok-all.ensures.items;
  within = λ k h. absurd (let none = ap length c.in_ok-all.ensures.items in omega (arith, h, none));
}

pub signal-requires-clause-named : goal.signal-requires-clause-named
signal-requires-clause-named c =
    let same = c.as_bytes.ensures ∙ (c.index-names-j.is ∙ get_or_default c.args.names.now c.loop-j.j
    c.index-names-j.result [] c.loop-j-test.true) in
    ap (is_named (names_of (model_of c.args.hierarchy.now.0 c.args.hierarchy.now.1 c.args.i))) same
    ∙ c.requires.named c.loop-j.j c.loop-j-test.true

pub overflow_cast-signal : goal.overflow_cast-signal
overflow_cast-signal c = omega (arith, c.signal.ensures.small)

pub loop-j-preserved : goal.loop-j-preserved
loop-j-preserved c = record {
  made =
      signals_more c.args.hierarchy.now.0 c.args.hierarchy.now.1 c.args.i c.loop-j.j c.signal.result
      c.args.names.now c.loop-j.all.items
      c.push.new.self.items c.index-names-j.result c.loop-j.invariant.made c.loop-j-test.true
      c.index-names-j.is
      c.in_ok-push.ensures.items
      (c.signal.ensures.signal
      ∙ ap (λ (x : List ℕ). record {
        path = path_at c.args.hierarchy.now.0 c.args.hierarchy.now.1
            c.args.i;
        name = x;
      })
      c.as_bytes.ensures);
  within =
      within_more (length (signals c.args.hierarchy.now.0 c.args.hierarchy.now.1)) c.signal.result
      c.loop-j.all.items c.push.new.self.items
      c.loop-j.invariant.within c.signal.ensures.within c.in_ok-push.ensures.items;
}

pub returns-clause-signals : goal.returns-clause-signals
returns-clause-signals c =
    c.loop-j.invariant.made
    ∙ ap (signals_here c.args.hierarchy.now.0 c.args.hierarchy.now.1 c.args.i)
    (take_all c.loop-j.j c.args.names.now (omega (arith, c.loop-j-test.false)))

pub returns-clause-within : goal.returns-clause-within
returns-clause-within c = c.loop-j.invariant.within
