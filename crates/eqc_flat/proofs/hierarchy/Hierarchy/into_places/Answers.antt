use Rattle.std.proofs.Common.{◌≡◌, ◌∷◌, ◌∙◌, [], ℕ, List, map, length, sym, subst, arith}
use Rattle.std.proofs.lemmas.List.{take_all}
use Rattle.eqc_blif.specs.Netlist.{ModelOf}
use Rattle.eqc_hierarchy.specs.Hierarchy.{paths}
use Rattle.eqc_flat.specs.Flattened.{path_at}
use Rattle.eqc_flat.proofs.hierarchy.Hierarchy.into_places.Goals as goal

pub returns-clause-placed : goal.returns-clause-placed
returns-clause-placed c =
    let all = c.self.inside.instances in
    let library = c.self.inside.calls in
    let P : List ModelOf × ℕ → Type 0 = λ v. paths v.0 v.1 ≡ [] ∷ map (λ (place : ℕ × ℕ). place.1
    ∷ path_at v.0 v.1 place.0) all.places.items in
    subst P c.self.view_is (sym (c.self.invariant.found.places_of
    ∙ take_all (length (paths library all.top)) (paths library all.top) (omega arith)))
