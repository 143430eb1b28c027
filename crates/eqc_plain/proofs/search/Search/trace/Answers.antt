use Rattle.std.proofs.Common.{◌+◌, Bool, cond, set, arith, refl, subst}
use Rattle.eqc_plain.proofs.Searching.{IsOnWay, way_ends, way_goes_on}
use Rattle.eqc_plain.proofs.search.Search.trace.Goals as goal

pub way-init : goal.way-init
way-init c = record {
  choices = refl;
  marks = refl;
  on = record {
    long = c.requires.sized.witness;
    within = omega arith;
    marked = c.requires.leads;
    agrees = c.requires.agrees;
    way = λ a same. refl;
  };
}

pub way-preserved-then-up : goal.way-preserved-then-up
way-preserved-then-up c =
    let s = c.args.store.now in
    let w = c.way.self in
    let b = c.branch-variable.result in
    let i = c.way.invariant in
    let P : Bool → Type 0 = λ up. IsOnWay s.variables s.nodes w.choices.items w.marks.items c.args.f
    (cond up b.2 b.1) (set w.witness.items b.0 c.rises-up.result) in
    record {
      choices = i.choices;
      marks = i.marks;
      on =
          subst P c.if-up.true
          (way_goes_on s.lawful w.choices.items w.marks.items c.args.f c.way.x b.0 b.1 b.2
          w.witness.items _ _ _ c.way-test.true
          c.requires.sized.within c.branch-variable.ensures (rw (i.choices, i.marks)
          c.requires.marked) c.choice.ensures c.is_marked.ensures
          c.rises-up.ensures i.on);
    }

pub way-preserved : goal.way-preserved
way-preserved c =
    let s = c.args.store.now in
    let w = c.way.self in
    let b = c.branch-variable.result in
    let i = c.way.invariant in
    let P : Bool → Type 0 = λ up. IsOnWay s.variables s.nodes w.choices.items w.marks.items c.args.f
    (cond up b.2 b.1) (set w.witness.items b.0 c.rises-up.result) in
    record {
      choices = i.choices;
      marks = i.marks;
      on =
          subst P c.if-up.false
          (way_goes_on s.lawful w.choices.items w.marks.items c.args.f c.way.x b.0 b.1 b.2
          w.witness.items _ _ _ c.way-test.true
          c.requires.sized.within c.branch-variable.ensures (rw (i.choices, i.marks)
          c.requires.marked) c.choice.ensures c.is_marked.ensures
          c.rises-up.ensures i.on);
    }

pub returns-clause-search : goal.returns-clause-search
returns-clause-search c =
    let s = c.args.store.now in
    let w = c.way.self in
    let i = c.way.invariant in
    let z = c.requires.sized in
    record {
      sized = record {
        within = z.within;
        some = z.some;
        choices = rw i.choices z.choices;
        marks =
            rw i.marks z.marks;
        witness = i.on.long;
      };
      agrees = i.on.agrees;
      passes =
          way_ends s.variables s.nodes w.choices.items w.marks.items w.witness.items (c.args.f + 1)
          c.args.f c.way.x (omega arith) (rw (i.choices, i.marks) c.requires.marked) i.on.marked
          i.on.way;
    }
