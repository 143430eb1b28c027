use Rattle.std.proofs.Common.{◌≡◌, arith, refl, sym, ◌∙◌, ap, length, List, ℕ, Some, position}
use Rattle.std.specs.List.{position_or_len}
use Rattle.std.specs.Str.{bytes_eq}
use Rattle.eqc_blif.specs.Netlist.{ModelOf}
use Rattle.eqc_hierarchy.specs.Hierarchy.{model}
use Rattle.eqc_hierarchy.specs.Signals.{names_of}
use Rattle.eqc_hierarchy.proofs.NamingLaws.{sets_size, named_there, set_is, position_found}
use Rattle.eqc_hierarchy.proofs.NamingLaws.{position_is, position_first}
use Rattle.eqc_hierarchy.proofs.naming.Naming.position.Goals as goal

pub index-requires : goal.index-requires
index-requires c =
    let size = sets_size c.self.inside.library.now c.self.inside.sets.items c.self.invariant in
    let same = ap length c.self.view_is in
    let there = named_there c.args.self.now c.args.m c.args.name.now c.requires in
    omega (arith, size, same, there, c.self.inside.sets.ok.0)

pub unwrap-requires : goal.unwrap-requires
unwrap-requires c =
    let set : c.index.result.now ≡ names_of (model c.args.self.now c.args.m) =
    (set_is c.self.inside.library.now c.self.inside.sets.items c.args.m c.index.result.now
    c.self.invariant
    (let t = named_there c.args.self.now c.args.m c.args.name.now c.requires in
    omega (arith, t, ap length c.self.view_is))
    c.index.ensures)
    ∙ ap (λ (l : List ModelOf). names_of (model l c.args.m)) c.self.view_is in
    let found :
    c.position.result ≡ Some (position_or_len (λ other. bytes_eq c.args.name.now other)
    (names_of (model c.args.self.now c.args.m))) =
    c.position.ensures
    ∙ (ap (λ (xs : List (List ℕ)). position (λ other. bytes_eq c.args.name.now other) xs) set
    ∙ position_found (names_of (model c.args.self.now c.args.m)) c.args.name.now c.requires) in
    rw found refl

pub returns-clause-within : goal.returns-clause-within
returns-clause-within c =
    let set : c.index.result.now ≡ names_of (model c.args.self.now c.args.m) =
    (set_is c.self.inside.library.now c.self.inside.sets.items c.args.m c.index.result.now
    c.self.invariant
    (let t = named_there c.args.self.now c.args.m c.args.name.now c.requires in
    omega (arith, t, ap length c.self.view_is))
    c.index.ensures)
    ∙ ap (λ (l : List ModelOf). names_of (model l c.args.m)) c.self.view_is in
    (position_is (names_of (model c.args.self.now c.args.m)) c.args.name.now c.unwrap.result
    c.requires
    (sym c.unwrap.ensures
    ∙ (c.position.ensures ∙ ap (λ (xs : List (List ℕ)). position (λ other. bytes_eq c.args.name.now
    other) xs) set))).0

pub returns-clause-named : goal.returns-clause-named
returns-clause-named c =
    let set : c.index.result.now ≡ names_of (model c.args.self.now c.args.m) =
    (set_is c.self.inside.library.now c.self.inside.sets.items c.args.m c.index.result.now
    c.self.invariant
    (let t = named_there c.args.self.now c.args.m c.args.name.now c.requires in
    omega (arith, t, ap length c.self.view_is))
    c.index.ensures)
    ∙ ap (λ (l : List ModelOf). names_of (model l c.args.m)) c.self.view_is in
    (position_is (names_of (model c.args.self.now c.args.m)) c.args.name.now c.unwrap.result
    c.requires
    (sym c.unwrap.ensures
    ∙ (c.position.ensures ∙ ap (λ (xs : List (List ℕ)). position (λ other. bytes_eq c.args.name.now
    other) xs) set))).1

pub returns-clause-first : goal.returns-clause-first
returns-clause-first c =
    let set : c.index.result.now ≡ names_of (model c.args.self.now c.args.m) =
    (set_is c.self.inside.library.now c.self.inside.sets.items c.args.m c.index.result.now
    c.self.invariant
    (let t = named_there c.args.self.now c.args.m c.args.name.now c.requires in
    omega (arith, t, ap length c.self.view_is))
    c.index.ensures)
    ∙ ap (λ (l : List ModelOf). names_of (model l c.args.m)) c.self.view_is in
    position_first (names_of (model c.args.self.now c.args.m)) c.args.name.now c.unwrap.result
    c.requires
    (sym c.unwrap.ensures
    ∙ (c.position.ensures ∙ ap (λ (xs : List (List ℕ)). position (λ other. bytes_eq c.args.name.now
    other) xs) set))
