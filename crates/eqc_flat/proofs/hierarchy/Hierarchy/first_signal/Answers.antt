use Rattle.std.proofs.Common.{◌≡◌, ◌<◌, ℕ, List, length, arith, refl, ap, subst}
use Rattle.eqc_blif.specs.Netlist.{ModelOf}
use Rattle.eqc_hierarchy.specs.Hierarchy.{paths}
use Rattle.eqc_flat.specs.Flattened.{first_signal}
use Rattle.eqc_flat.proofs.InstanceLaws.{found_firsts, found_first, found_signals}
use Rattle.eqc_flat.proofs.ExpandedLaws.{first_most}
use Rattle.eqc_flat.proofs.hierarchy.Hierarchy.first_signal.Goals as goal

pub index-requires : goal.index-requires
index-requires c =
    let all = c.self.inside.instances in
    let size = found_firsts c.self.inside.calls all.top (length (paths c.self.inside.calls all.top))
    all.signals all.models.items all.firsts.items all.places.items c.self.invariant.found in
    let same = ap (λ (v : List ModelOf × ℕ). length (paths v.0 v.1)) c.self.view_is in
    omega (arith, size, same, c.requires, all.firsts.ok.0)

pub returns-clause-first : goal.returns-clause-first
returns-clause-first c =
    let all = c.self.inside.instances in
    let library = c.self.inside.calls in
    let here : c.args.i < length (paths library all.top) =
    omega (
      arith,
      c.requires,
      ap (λ (v : List ModelOf × ℕ). length (paths v.0 v.1))
          c.self.view_is,
    ) in
    let P : List ModelOf × ℕ → Type 0 = λ v. c.index.result.now ≡ first_signal v.0 v.1 c.args.i in
    subst P c.self.view_is
    (found_first library all.top (length (paths library all.top)) c.args.i c.index.result.now
    all.signals all.models.items
    all.firsts.items all.places.items c.self.invariant.found here c.index.ensures)

pub returns-clause-small : goal.returns-clause-small
returns-clause-small c =
    let all = c.self.inside.instances in
    let h = c.self.invariant.found in
    let library = c.self.inside.calls in
    let here : c.args.i < length (paths library all.top) =
    omega (
      arith,
      c.requires,
      ap (λ (v : List ModelOf × ℕ). length (paths v.0 v.1))
          c.self.view_is,
    ) in
    let first = found_first library all.top (length (paths library all.top)) c.args.i
    c.index.result.now all.signals all.models.items all.firsts.items all.places.items h here
    c.index.ensures in
    let most = found_signals library all.top (length (paths library all.top)) all.signals
    all.models.items all.firsts.items all.places.items h refl in
    omega (arith, first, first_most library all.top c.args.i, most, h.few)
