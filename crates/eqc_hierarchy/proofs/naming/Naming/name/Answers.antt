use Rattle.std.proofs.Common.{◌≡◌, arith, ◌∙◌, ap, length, get_or, [], List, ℕ}
use Rattle.eqc_blif.specs.Netlist.{ModelOf}
use Rattle.eqc_hierarchy.specs.Hierarchy.{model}
use Rattle.eqc_hierarchy.specs.Signals.{names_of}
use Rattle.eqc_hierarchy.proofs.NamingLaws.{sets_size, some_name, set_is}
use Rattle.eqc_hierarchy.proofs.naming.Naming.name.Goals as goal

pub index-requires : goal.index-requires
index-requires c =
    let size = sets_size c.self.inside.library.now c.self.inside.sets.items c.self.invariant in
    let same = ap length c.self.view_is in
    let there = some_name c.args.self.now c.args.m c.args.k c.requires in
    omega (arith, size, same, there, c.self.inside.sets.ok.0)

pub get-requires : goal.get-requires
get-requires c =
    let size : length c.index.result.now ≡ length (names_of (model c.args.self.now c.args.m)) =
    ap length
    (let h : c.index.result.now ≡ names_of (model c.args.self.now c.args.m) =
    (set_is c.self.inside.library.now c.self.inside.sets.items c.args.m c.index.result.now
    c.self.invariant
    (let t = some_name c.args.self.now c.args.m c.args.k c.requires in
    omega (arith, t, ap length c.self.view_is))
    c.index.ensures)
    ∙ ap (λ (l : List ModelOf). names_of (model l c.args.m)) c.self.view_is in
    h) in
    omega (arith, size, c.requires)

pub returns : goal.returns
returns c =
    let set : c.index.result.now ≡ names_of (model c.args.self.now c.args.m) =
    (set_is c.self.inside.library.now c.self.inside.sets.items c.args.m c.index.result.now
    c.self.invariant
    (let t = some_name c.args.self.now c.args.m c.args.k c.requires in
    omega (arith, t, ap length c.self.view_is)) c.index.ensures)
    ∙ ap (λ (l : List ModelOf). names_of (model l c.args.m)) c.self.view_is in
    c.get.ensures ∙ ap (λ (xs : List (List ℕ)). get_or xs c.args.k []) set
