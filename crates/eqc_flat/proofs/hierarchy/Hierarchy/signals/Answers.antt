use Rattle.std.proofs.Common.{◌≡◌, ℕ, List, length, refl, subst}
use Rattle.eqc_blif.specs.Netlist.{ModelOf}
use Rattle.eqc_hierarchy.specs.Hierarchy.{paths}
use Rattle.eqc_hierarchy.specs.Signals.{signals}
use Rattle.eqc_flat.proofs.InstanceLaws.{found_signals}
use Rattle.eqc_flat.proofs.hierarchy.Hierarchy.signals.Goals as goal

pub returns-clause-count : goal.returns-clause-count
returns-clause-count c =
    let all = c.self.inside.instances in
    let P : List ModelOf × ℕ → Type 0 = λ v. all.signals ≡ length (signals v.0 v.1) in
    subst P c.self.view_is
    (found_signals c.self.inside.calls all.top (length (paths c.self.inside.calls all.top))
    all.signals all.models.items
    all.firsts.items all.places.items c.self.invariant.found refl)
