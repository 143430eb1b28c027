use Rattle.std.proofs.Common.{◌+◌, arith, ◌∙◌, subst, ℕ}
use Rattle.eqc_flat.specs.Instances.{first_below, IsFound}
use Rattle.eqc_flat.proofs.InstanceLaws as laws
use Rattle.eqc_flat.proofs.hierarchy.instances.Instances.of.Goals as goal

pub instances-preserved : goal.instances-preserved
instances-preserved c =
    let old = c.instances.all in
    let now = c.open.new.self in
    let P : ℕ → Type 0 = λ t. IsFound c.args.calls.now t (first_below c.args.calls.now t
    (c.instances.k + 1)) now.models.items now.firsts.items now.places.items now.signals in
    let found = subst P c.instances.invariant.top (c.in_ok-open.ensures.found c.if-not-branch.false)
    in
    record {
      top = c.in_ok-open.ensures.top ∙ c.instances.invariant.top;
      within =
          laws.still_within c.args.calls.now c.args.top c.instances.k old.signals now.signals
          old.models.items old.firsts.items
          now.models.items now.firsts.items old.places.items now.places.items
          c.instances.invariant.found found
          (omega (arith, c.instances-test.true, c.len.ensures, old.models.ok.0));
      found = found;
    }

pub returns : goal.returns
returns c =
    let all = c.instances.all in
    let whole =
    laws.all_found c.args.calls.now c.args.top c.instances.k all.signals all.models.items
    all.firsts.items all.places.items
    c.instances.invariant.found c.requires.growing c.instances.invariant.within
    (omega (arith, c.instances-test.false, c.len.ensures, all.models.ok.0)) in
    (whole.0, c.instances.invariant.top, whole.1)
