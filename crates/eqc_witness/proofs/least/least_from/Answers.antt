use Rattle.std.proofs.Common.{◌≡◌, ◌<◌, ◌∷◌, ◌++◌, [], true, false, length, take, get_or, sym, ap}
use Rattle.std.proofs.Common.{◌∙◌, arith}
use Rattle.std.proofs.lemmas.List.{get_or_default}
use Rattle.eqc_witness.specs.Completing.{Completes}
use Rattle.eqc_witness.specs.Cones.{holds_under}
use Rattle.eqc_witness.proofs.BeginningLemmas.{next_false, next_true, next_lower, begun_whole}
use Rattle.eqc_witness.proofs.least.least_from.Goals as goal
use Rattle.eqc_witness.proofs.least.least_from.Goals.{in-Found, in-Nothing}

pub loop-position-preserved-then-not-index : goal.loop-position-preserved-then-not-index
loop-position-preserved-then-not-index c =
    let cone = c.args.cone.now in
    let values = c.loop-position.values.items in
    let k = c.loop-position.position in
    let i = c.loop-position.invariant in
    let inside : c.loop-position.position < length c.loop-position.values.items =
    omega (arith, c.loop-position.invariant.long) in
    let is : get_or c.loop-position.values.items c.loop-position.position false ≡ false =
    get_or_default values k false c.index.result.now inside ∙ (sym c.index.ensures
    ∙ c.if-not-index.true) in
    record {
      long = i.long;
      holds = i.holds;
      sound = i.sound;
      begun = next_false cone.positions k (holds_under cone.graph cone.root) values inside i.long
          i.holds is i.begun;
    }

pub loop-position-preserved : goal.loop-position-preserved
loop-position-preserved c =
    let cone = c.args.cone.now in
    let values = c.loop-position.values.items in
    let k = c.loop-position.position in
    let i = c.loop-position.invariant in
    let inside : c.loop-position.position < length c.loop-position.values.items =
    omega (arith, c.loop-position.invariant.long) in
    let is : get_or c.loop-position.values.items c.loop-position.position false ≡ true =
    get_or_default values k false c.index.result.now inside ∙ (sym c.index.ensures
    ∙ c.if-not-index.false) in
    let first : c.deref-in-loop-position.result.now ≡ take c.loop-position.position
    c.loop-position.values.items ++ false ∷ [] =
    c.deref-in-loop-position.ensures.value ∙ (c.in_ok-first.ensures
    ∙ ap (λ vs. take k vs ++ false ∷ []) c.deref.ensures.value) in
    elim c.match-branch-3.branch [
      | in-Found w ↦
          let lower : Completes c.args.cone.now.positions (holds_under c.args.cone.now.graph
          c.args.cone.now.root) c.deref-in-loop-position.result.now w.in-Found.lower.items =
          rw w.in-Found.is at c.in_ok-lower.ensures.found in
          rw w.values-is
          (record {
            long = lower.long;
            holds = lower.passes;
            sound = c.in_ok-lower.ensures.sound;
            begun = next_lower cone.positions k (holds_under cone.graph cone.root) values
                c.deref-in-loop-position.result.now w.in-Found.lower.items inside first lower i.begun;
          })
      | in-Nothing w ↦
          let none = rw w.in-Nothing.is at c.in_ok-lower.ensures.found in
          rw w.values-is
          (record {
            long = i.long;
            holds = i.holds;
            sound = c.in_ok-lower.ensures.sound;
            begun = next_true cone.positions k (holds_under cone.graph cone.root) values inside is
                (rw first at none) i.begun;
          })
    ]

pub returns : goal.returns
returns c =
    let cone = c.args.cone.now in
    begun_whole cone.positions c.loop-position.position (holds_under cone.graph cone.root)
    c.loop-position.values.items
    c.loop-position.invariant.long (omega arith) c.loop-position.invariant.holds
    c.loop-position.invariant.begun
