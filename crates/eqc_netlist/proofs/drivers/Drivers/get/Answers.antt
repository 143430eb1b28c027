use Rattle.std.proofs.Common.{◌≡◌, ◌+◌, ◌<◌, ◌∙◌, [], ℕ, List, length, map, get_or, slice_index_or}
use Rattle.std.proofs.Common.{arith, sym, ap, subst}
use Rattle.smallvec.specs.SmallVec.{SmallVec}
use Rattle.std.proofs.lemmas.List.{get_or-map, length-map}
use Rattle.eqc_netlist.specs.Graph.{DriverOf, input, cover, IsWithinSizes}
use Rattle.eqc_netlist.specs.StoredDrivers.{driver_from}
use Rattle.eqc_netlist.specs.declared.drivers.stored_driver.StoredDriver.TheVariants.{Cover}
use Rattle.eqc_netlist.proofs.drivers.Drivers.get.Goals as goal

pub index-requires-in-Cover : goal.index-requires-in-Cover
index-requires-in-Cover c =
    let items = λ (v : SmallVec ℕ). v.items in
    let columns = map items c.self.inside.columns.items in
    let from = driver_from columns in
    let all = c.self.inside.stored.items in
    let inside : c.args.s < length all = omega (
      arith,
      c.requires,
      ap length c.self.view_is,
      length-map all from,
    ) in
    let at : get_or (map from all) c.args.s (input 0)
    ≡ from (Cover c.in-Cover.first c.in-Cover.cover) =
    get_or-map from all c.args.s c.index.result.now (input 0) inside ∙ ap from (sym c.index.ensures
    ∙ c.in-Cover.is) in
    let P : DriverOf → Type 0 = λ d. IsWithinSizes 4294967296 4294967296 (length columns) d in
    let here : IsWithinSizes 4294967296 4294967296 (length columns)
    (from (Cover c.in-Cover.first c.in-Cover.cover)) =
    subst P at (c.self.invariant c.args.s (omega (arith, inside, length-map all from))) in
    let less = here.1 in
    omega (arith, less, length-map c.self.inside.columns.items items, c.self.inside.columns.ok.0)

pub behind-requires : goal.behind-requires
behind-requires c =
    let items = λ (v : SmallVec ℕ). v.items in
    let columns = map items c.self.inside.columns.items in
    let from = driver_from columns in
    let all = c.self.inside.stored.items in
    let inside : c.args.s < length all = omega (
      arith,
      c.requires,
      ap length c.self.view_is,
      length-map all from,
    ) in
    let at : get_or (map from all) c.args.s (input 0)
    ≡ from (Cover c.in-Cover.first c.in-Cover.cover) =
    get_or-map from all c.args.s c.index.result.now (input 0) inside ∙ ap from (sym c.index.ensures
    ∙ c.in-Cover.is) in
    let P : DriverOf → Type 0 = λ d. IsWithinSizes 4294967296 4294967296 (length columns) d in
    let here : IsWithinSizes 4294967296 4294967296 (length columns)
    (from (Cover c.in-Cover.first c.in-Cover.cover)) =
    subst P at (c.self.invariant c.args.s (omega (arith, inside, length-map all from))) in
    let less = here.1 in
    let there : c.in-Cover.cover < length c.self.inside.columns.items =
    omega (arith, less, length-map c.self.inside.columns.items items) in
    let same : get_or columns c.in-Cover.cover [] ≡ c.as_slice-places.result.now =
    get_or-map items c.self.inside.columns.items c.in-Cover.cover c.index-in-Cover.result.now []
    there
    ∙ (ap items (sym c.index-in-Cover.ensures) ∙ sym c.as_slice-places.ensures) in
    let Q : List ℕ → Type 0 = λ l. (k : ℕ) → k < length (map (λ d. c.in-Cover.first + d) l)
    → slice_index_or (map (λ d. c.in-Cover.first + d) l) k 0 < 4294967296 in
    subst Q same here.0

pub returns-in-Cover : goal.returns-in-Cover
returns-in-Cover c =
    let items = λ (v : SmallVec ℕ). v.items in
    let columns = map items c.self.inside.columns.items in
    let from = driver_from columns in
    let all = c.self.inside.stored.items in
    let inside : c.args.s < length all = omega (
      arith,
      c.requires,
      ap length c.self.view_is,
      length-map all from,
    ) in
    let at : get_or (map from all) c.args.s (input 0)
    ≡ from (Cover c.in-Cover.first c.in-Cover.cover) =
    get_or-map from all c.args.s c.index.result.now (input 0) inside ∙ ap from (sym c.index.ensures
    ∙ c.in-Cover.is) in
    let P : DriverOf → Type 0 = λ d. IsWithinSizes 4294967296 4294967296 (length columns) d in
    let here : IsWithinSizes 4294967296 4294967296 (length columns)
    (from (Cover c.in-Cover.first c.in-Cover.cover)) =
    subst P at (c.self.invariant c.args.s (omega (arith, inside, length-map all from))) in
    let less = here.1 in
    let there : c.in-Cover.cover < length c.self.inside.columns.items =
    omega (arith, less, length-map c.self.inside.columns.items items) in
    let same : get_or columns c.in-Cover.cover [] ≡ c.as_slice-places.result.now =
    get_or-map items c.self.inside.columns.items c.in-Cover.cover c.index-in-Cover.result.now []
    there
    ∙ (ap items (sym c.index-in-Cover.ensures) ∙ sym c.as_slice-places.ensures) in
    ap (λ l. cover l c.in-Cover.cover) (c.behind.ensures
    ∙ ap (map (λ d. c.in-Cover.first + d)) (sym same))
    ∙ (sym at ∙ ap (λ (l : List DriverOf). get_or l c.args.s (input 0)) c.self.view_is)
