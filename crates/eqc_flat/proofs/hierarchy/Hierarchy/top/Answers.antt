use Rattle.std.proofs.Common.{◌≡◌, ◌<◌, ℕ, List, [], length, subst, ap}
use Rattle.eqc_blif.specs.Netlist.{ModelOf}
use Rattle.eqc_hierarchy.specs.Hierarchy.{model, paths}
use Rattle.eqc_flat.specs.Flattened.{path_at, model_of}
use Rattle.eqc_flat.proofs.InstanceLaws.{some_path, root_path, root_model}
use Rattle.eqc_flat.proofs.hierarchy.Hierarchy.top.Goals as goal

pub returns-clause-first : goal.returns-clause-first
returns-clause-first c =
    let P : List ModelOf × ℕ → Type 0 = λ v. 0 < length (paths v.0 v.1) in
    subst P c.self.view_is (some_path c.self.inside.calls c.self.inside.instances.top
    c.self.invariant.growing)

pub returns-clause-root : goal.returns-clause-root
returns-clause-root c =
    let P : List ModelOf × ℕ → Type 0 = λ v. path_at v.0 v.1 0 ≡ [] in
    subst P c.self.view_is (root_path c.self.inside.calls c.self.inside.instances.top
    c.self.invariant.growing)

pub returns-clause-main : goal.returns-clause-main
returns-clause-main c =
    let P : List ModelOf × ℕ → Type 0 = λ v. model_of v.0 v.1 0 ≡ model v.0 v.1 in
    subst P c.self.view_is (ap (model c.self.inside.calls) (root_model c.self.inside.calls
    c.self.inside.instances.top c.self.invariant.growing))
