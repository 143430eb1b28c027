use Rattle.std.proofs.Common.{arith, ◌∙◌, ap, List, length, get_or}
use Rattle.std.proofs.lemmas.List.{get_or_default}
use Rattle.eqc_blif.specs.Netlist.{ModelOf}
use Rattle.eqc_hierarchy.specs.Hierarchy.{model}
use Rattle.eqc_hierarchy.specs.Signals.{names_of}
use Rattle.eqc_flat.specs.Flattened.{path_at}
use Rattle.eqc_flat.specs.Instances.{first_below}
use Rattle.eqc_flat.proofs.InstanceLaws as laws
use Rattle.eqc_flat.proofs.hierarchy.instances.Instances.open.Goals as goal

pub callees-callees-requires : goal.callees-callees-requires
callees-callees-requires c =
    let old = c.args.self.now in
    let m =
    laws.found_model c.args.calls.now old.top (first_below c.args.calls.now old.top c.args.k)
    c.args.k c.index.result.now old.signals
    old.models.items old.firsts.items old.places.items c.requires.found
    (omega (arith, c.requires.here, old.models.ok.0))
    c.index.ensures in
    let bound = laws.model_within c.args.calls.now old.top (path_at c.args.calls.now old.top
    c.args.k) c.requires.top in
    omega (arith, m, bound)

pub returns-then-not-branch-clause-many : goal.returns-then-not-branch-clause-many
returns-then-not-branch-clause-many c = λ _.
    let old = c.args.self.now in
    let o =
    laws.opening c.args.calls.now old.top c.args.k c.index.result.now c.callees-callees.result.now
    old.signals old.models.items
    old.firsts.items old.places.items c.requires.found (omega (
      arith,
      c.requires.here,
      old.models.ok.0,
    )) c.index.ensures
    c.callees-callees.ensures in
    let now = c.loop-position.self in
    let many = c.in_ok-push.ensures.many c.if-not-branch.true in
    laws.open_many c.args.calls.now old.top c.args.k c.index.result.now c.loop-position.position
    (get_or c.callees-callees.result.now c.loop-position.position 0) c.count-names.result
    c.callees-callees.result.now now.signals
    now.models.items now.firsts.items now.places.items o c.requires.growing
    c.loop-position.invariant.found
    (omega (arith, c.loop-position-test.true))
    (get_or_default c.callees-callees.result.now c.loop-position.position 0
    (get_or c.callees-callees.result.now c.loop-position.position 0)
    (omega (arith, c.loop-position-test.true)))
    (c.count-names.ensures ∙ ap (λ (l : List ModelOf). length
    (names_of (model l (get_or c.callees-callees.result.now c.loop-position.position 0))))
    c.requires.same)
    (omega (arith, many, now.places.ok.0))

pub loop-position-preserved : goal.loop-position-preserved
loop-position-preserved c =
    let old = c.args.self.now in
    let o =
    laws.opening c.args.calls.now old.top c.args.k c.index.result.now c.callees-callees.result.now
    old.signals old.models.items
    old.firsts.items old.places.items c.requires.found (omega (
      arith,
      c.requires.here,
      old.models.ok.0,
    )) c.index.ensures
    c.callees-callees.ensures in
    let now = c.loop-position.self in
    let few = c.in_ok-push.ensures.few c.if-not-branch.false in
    record {
      top = c.in_ok-push.ensures.top ∙ c.loop-position.invariant.top;
      found =
          laws.open_more c.args.calls.now old.top c.args.k c.index.result.now
          c.loop-position.position
          (get_or c.callees-callees.result.now c.loop-position.position 0) c.count-names.result
          c.callees-callees.result.now now.signals
          c.push.new.self.signals now.models.items now.firsts.items c.push.new.self.models.items
          c.push.new.self.firsts.items
          now.places.items c.push.new.self.places.items o c.requires.growing
          c.loop-position.invariant.found
          (omega (arith, c.loop-position-test.true))
          (get_or_default c.callees-callees.result.now c.loop-position.position 0
          (get_or c.callees-callees.result.now c.loop-position.position 0)
          (omega (arith, c.loop-position-test.true)))
          (c.count-names.ensures ∙ ap (λ (l : List ModelOf). length
          (names_of (model l (get_or c.callees-callees.result.now c.loop-position.position 0))))
          c.requires.same)
          (omega (arith, few, now.places.ok.0)) (c.in_ok-push.ensures.models c.if-not-branch.false)
          (c.in_ok-push.ensures.firsts c.if-not-branch.false) (c.in_ok-push.ensures.places
          c.if-not-branch.false)
          (c.in_ok-push.ensures.signals c.if-not-branch.false);
    }

pub returns-clause-found : goal.returns-clause-found
returns-clause-found c = λ _.
    let old = c.args.self.now in
    let o =
    laws.opening c.args.calls.now old.top c.args.k c.index.result.now c.callees-callees.result.now
    old.signals old.models.items
    old.firsts.items old.places.items c.requires.found (omega (
      arith,
      c.requires.here,
      old.models.ok.0,
    )) c.index.ensures
    c.callees-callees.ensures in
    laws.open_end c.args.calls.now old.top c.args.k c.index.result.now c.loop-position.position
    c.callees-callees.result.now
    c.loop-position.self.signals c.loop-position.self.models.items c.loop-position.self.firsts.items
    c.loop-position.self.places.items o
    c.loop-position.invariant.found (omega (
      arith,
      c.loop-position-test.false,
      c.loop-position.auto.position-end,
    ))
