use Rattle.std.proofs.Common.{get_or, Bool, sym, subst, refl, List}
use Rattle.eqc_core.specs.declared.event.Event.{Event}
use Rattle.eqc_core.specs.declared.event.Step.TheVariants.{Split}
use Rattle.eqc_core.specs.Run.{Runs}
use Rattle.eqc_core.specs.Machine.{state_of, Takes}
use Rattle.eqc_core.proofs.Taking.{kept_after, runs_sizes, drop_past, stops_here, runs_on, stops_on}
use Rattle.eqc_core.proofs.playback.run.Goals as goal

pub returns-then-not-taken : goal.returns-then-not-taken
returns-then-not-taken c =
    let d : Event = record { worker = 0; step = Split 0 } in
    let s = state_of c.loop-i.machine in
    let t = state_of c.take.new.self in
    let h = subst (λ (b : Bool). Takes s (get_or c.args.events.now c.loop-i.i d) t b)
    c.if-not-taken.true c.in_ok-taken.ensures in
    stops_here (state_of c.args.start.now) s t c.args.events.now c.loop-i.i d c.loop-i-test.true
    c.loop-i.invariant.stops h

pub loop-i-preserved : goal.loop-i-preserved
loop-i-preserved c =
    let d : Event = record { worker = 0; step = Split 0 } in
    let s = state_of c.loop-i.machine in
    let t = state_of c.take.new.self in
    let h = subst (λ (b : Bool). Takes s (get_or c.args.events.now c.loop-i.i d) t b)
    c.if-not-taken.false c.in_ok-taken.ensures in
    record {
      kept = kept_after c.loop-i.machine c.take.new.self (get_or c.args.events.now c.loop-i.i d)
          c.loop-i.invariant.kept h.0 h.1;
      runs = runs_on (state_of c.args.start.now) s t c.args.events.now c.loop-i.i d
          c.loop-i-test.true c.loop-i.invariant.runs h.0 h.1;
      stops = stops_on (state_of c.args.start.now) s t c.args.events.now c.loop-i.i d
          c.loop-i-test.true c.loop-i.invariant.stops h.0 h.1;
    }

pub returns : goal.returns
returns c =
    let none = drop_past c.args.events.now c.loop-i.i c.loop-i-test.false in
    let s = state_of c.args.start.now in
    let t = state_of c.loop-i.machine in
    let run = c.loop-i.invariant.runs t (subst (λ (es : List Event). Runs t es t) (sym none) refl)
    in
    (run, c.loop-i.invariant.kept, runs_sizes s c.args.events.now t run)
