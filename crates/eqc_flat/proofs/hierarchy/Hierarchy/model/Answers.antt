use Rattle.std.proofs.Common.{◌≡◌, ◌≤◌, ℕ, List, length, subst, ap, arith}
use Rattle.eqc_blif.specs.Netlist.{ModelOf}
use Rattle.eqc_hierarchy.specs.Hierarchy.{model_at, paths}
use Rattle.eqc_flat.specs.Flattened.{path_at}
use Rattle.eqc_flat.specs.Instances.{IsGrowing}
use Rattle.eqc_flat.proofs.InstanceLaws.{found_count, found_models, found_model}
use Rattle.eqc_flat.proofs.hierarchy.Hierarchy.model.Goals as goal

pub index-requires : goal.index-requires
index-requires c =
    let all = c.self.inside.instances in
    let size = found_models c.self.inside.calls all.top (length (paths c.self.inside.calls all.top))
    all.signals all.models.items all.firsts.items all.places.items c.self.invariant.found in
    let same = ap (λ (v : List ModelOf × ℕ). length (paths v.0 v.1)) c.self.view_is in
    omega (arith, size, same, c.requires, all.models.ok.0)

pub returns-clause-number : goal.returns-clause-number
returns-clause-number c =
    let all = c.self.inside.instances in
    let library = c.self.inside.calls in
    let size = found_models library all.top (length (paths library all.top)) all.signals
    all.models.items all.firsts.items all.places.items c.self.invariant.found in
    let same = ap (λ (v : List ModelOf × ℕ). length (paths v.0 v.1)) c.self.view_is in
    let P : List ModelOf × ℕ → Type 0 = λ v. c.index.result.now
    ≡ model_at v.0 v.1 (path_at v.0 v.1 c.args.i) in
    subst P c.self.view_is
    (found_model library all.top (length (paths library all.top)) c.args.i c.index.result.now
    all.signals all.models.items
    all.firsts.items all.places.items c.self.invariant.found (omega (arith, size, same, c.requires))
    c.index.ensures)

pub returns-clause-growing : goal.returns-clause-growing
returns-clause-growing c =
    let P : List ModelOf × ℕ → Type 0 = λ v. IsGrowing v.0 v.1 in
    subst P c.self.view_is c.self.invariant.growing

pub returns-clause-few : goal.returns-clause-few
returns-clause-few c =
    let all = c.self.inside.instances in
    let library = c.self.inside.calls in
    let count = found_count library all.top (length (paths library all.top)) all.signals
    all.models.items all.firsts.items all.places.items c.self.invariant.found in
    let P : List ModelOf × ℕ → Type 0 = λ v. length (paths v.0 v.1) ≤ 1048577 in
    subst P c.self.view_is (omega (arith, count, c.self.invariant.found.few))
