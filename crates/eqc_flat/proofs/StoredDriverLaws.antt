-- Columns are kept once for all instances of a model.
use Rattle.std.proofs.Common.{◌≡◌, ℕ, ◌+◌, ◌<◌, ◌≤◌, List, [], ◌∷◌, length, map, take, refl, sym}
use Rattle.std.proofs.Common.{◌∙◌, ap, arith, Some, None}
use Rattle.std.specs.Prelude.{slice_index_or}
use Rattle.std.specs.List.{flat_map}
use Rattle.std.proofs.lemmas.List.{length-map, length-append, get_or-map}
use Rattle.std.proofs.lemmas.List.Concat.{get_or-flat_map}
use Rattle.eqc_blif.specs.Netlist.{ModelOf, CoverOf, no_cover, no_model}
use Rattle.eqc_netlist.specs.Graph.{DriverOf, input, tie, cover, IsWithinSizes}
use Rattle.eqc_hierarchy.specs.Hierarchy.{model}
use Rattle.eqc_hierarchy.specs.Signals.{names_of, signals}
use Rattle.eqc_flat.specs.RowTable.{rows_of, all_rows}
use Rattle.eqc_flat.specs.DriverTable.{IsDriven}
use Rattle.eqc_hierarchy.specs.Columns.{places_in, columns_of, all_columns}
use Rattle.eqc_netlist.specs.StoredDrivers.{AreInRange}

-- there are columns for as many covers as there are rows
pub same_count : (library : List ModelOf) → length (flat_map columns_of library)
    ≡ length (flat_map rows_of library)
same_count [] = refl
same_count (m ∷ library) =
    let here : length (columns_of m) ≡ length (rows_of m) =
    length-map m.covers (λ (c : CoverOf). places_in (names_of m) c.columns)
    ∙ sym (length-map m.covers (λ (c : CoverOf). c.rows)) in
    let others = same_count library in
    omega (
      arith,
      here,
      others,
      length-append (columns_of m) (flat_map columns_of library),
      length-append (rows_of m) (flat_map rows_of library),
    )

-- the columns of a model's cover, among those of all covers
pub columns_at : (library : List ModelOf) (m k : ℕ) → m < length library
    → k < length (model library m).covers
    → slice_index_or (all_columns library) (length (flat_map rows_of (take m library)) + k) []
    ≡ places_in (names_of (model library m)) (slice_index_or (model library m).covers k
    no_cover).columns
columns_at library m k inside here =
    let names = names_of (model library m) in
    ap (λ n. slice_index_or (all_columns library) (n + k) []) (sym (same_count (take m library)))
    ∙ (get_or-flat_map columns_of library m k no_model [] inside (rw length-map here)
    ∙ get_or-map (λ (c : CoverOf). places_in names c.columns) (model library m).covers k no_cover
    [] here)

-- fewer inputs, signals and rows
within_more : (a b c d e f : ℕ) (driver : DriverOf) → a ≤ b → c ≤ d → e ≡ f
    → IsWithinSizes a c e driver → IsWithinSizes b d f driver
within_more a b c d e f (input position) ab cd ef h = omega (arith, h, ab)
within_more a b c d e f (tie other) ab cd ef h = omega (arith, h, cd)
within_more a b c d e f (cover columns r) ab cd ef h = (
  λ k inside. let less = h.0 k inside in
      omega (arith, less, cd),
  let less = h.1 in omega (arith, less, ef),
)

-- the drivers of a hierarchy are in range
pub in_range : (library : List ModelOf) (top : ℕ) (drivers : List DriverOf)
    → length (model library top).inputs ≤ 65535
    → length (signals library top) ≤ 1048576 → IsDriven library top drivers
    → AreInRange (length (all_columns library)) drivers
in_range library top drivers inputs few driven = λ s inside.
    within_more (length (model library top).inputs) 4294967296 (length (signals library top))
    4294967296 (length (all_rows library))
    (length (all_columns library)) (slice_index_or drivers s (input 0)) (omega (arith, inputs))
    (omega (arith, few))
    (sym (same_count library))
    (driven.within s (slice_index_or drivers s (input 0)) (omega (
      arith,
      inside,
      length-map drivers (λ (d : DriverOf). Some d),
    ))
    (get_or-map (λ (d : DriverOf). Some d) drivers s (input 0) None inside))
