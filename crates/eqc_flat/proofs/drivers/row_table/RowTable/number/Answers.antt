use Rattle.std.proofs.Common.{◌≡◌, ◌+◌, ◌<◌, ℕ, List, [], length, slice_index_or, arith, ◌∙◌, ap}
use Rattle.std.proofs.Common.{subst}
use Rattle.eqc_blif.specs.Netlist.{ModelOf, no_cover}
use Rattle.eqc_hierarchy.specs.Hierarchy.{model}
use Rattle.eqc_flat.specs.RowTable.{all_rows}
use Rattle.eqc_flat.proofs.ExpandedLaws.{rows_at, rows_inside, row_first, row_firsts}
use Rattle.eqc_hierarchy.specs.Signals.{names_of}
use Rattle.eqc_hierarchy.specs.Columns.{places_in, all_columns}
use Rattle.eqc_flat.proofs.StoredDriverLaws.{columns_at}
use Rattle.eqc_flat.proofs.drivers.row_table.RowTable.number.Goals as goal

pub index-requires : goal.index-requires
index-requires c =
    let size = row_firsts c.self.inside.library.now c.self.inside.firsts.items _ c.self.invariant in
    omega (arith, size, c.requires.model, ap length c.self.view_is, c.self.inside.firsts.ok.0)

pub overflow_add-result : goal.overflow_add-result
overflow_add-result c =
    let firsts = c.self.inside.firsts.items in
    let h = c.self.invariant in
    let library = c.self.inside.library.now in
    let there : c.args.m < length library =
    omega (arith, c.requires.model, ap length c.self.view_is) in
    let cover : c.args.k < length (model library c.args.m).covers =
    omega (
      arith,
      c.requires.cover,
      ap (λ (l : List ModelOf). length (model l c.args.m).covers)
          c.self.view_is,
    ) in
    let first = row_first library firsts _ c.args.m c.index.result.now h there c.index.ensures in
    let inside = rows_inside library c.args.m c.args.k there cover in
    omega (arith, first, inside, ap length h.rows_are, h.few)

pub overflow_cast-result : goal.overflow_cast-result
overflow_cast-result c =
    let firsts = c.self.inside.firsts.items in
    let h = c.self.invariant in
    let library = c.self.inside.library.now in
    let there : c.args.m < length library =
    omega (arith, c.requires.model, ap length c.self.view_is) in
    let cover : c.args.k < length (model library c.args.m).covers =
    omega (
      arith,
      c.requires.cover,
      ap (λ (l : List ModelOf). length (model l c.args.m).covers)
          c.self.view_is,
    ) in
    let first = row_first library firsts _ c.args.m c.index.result.now h there c.index.ensures in
    let inside = rows_inside library c.args.m c.args.k there cover in
    omega (arith, first, inside, ap length h.rows_are, h.few)

pub returns-clause-within : goal.returns-clause-within
returns-clause-within c =
    let firsts = c.self.inside.firsts.items in
    let h = c.self.invariant in
    let library = c.self.inside.library.now in
    let there : c.args.m < length library =
    omega (arith, c.requires.model, ap length c.self.view_is) in
    let cover : c.args.k < length (model library c.args.m).covers =
    omega (
      arith,
      c.requires.cover,
      ap (λ (l : List ModelOf). length (model l c.args.m).covers)
          c.self.view_is,
    ) in
    let first = row_first library firsts _ c.args.m c.index.result.now h there c.index.ensures in
    let inside = rows_inside library c.args.m c.args.k there cover in
    omega (arith, first, inside, ap (λ (l : List ModelOf). length (all_rows l)) c.self.view_is)

pub returns-clause-rows : goal.returns-clause-rows
returns-clause-rows c =
    let firsts = c.self.inside.firsts.items in
    let h = c.self.invariant in
    let library = c.self.inside.library.now in
    let there : c.args.m < length library =
    omega (arith, c.requires.model, ap length c.self.view_is) in
    let cover : c.args.k < length (model library c.args.m).covers =
    omega (
      arith,
      c.requires.cover,
      ap (λ (l : List ModelOf). length (model l c.args.m).covers)
          c.self.view_is,
    ) in
    let first = row_first library firsts _ c.args.m c.index.result.now h there c.index.ensures in
    let inside = rows_inside library c.args.m c.args.k there cover in
    let P : List ModelOf → Type 0 = λ l. slice_index_or (all_rows l) (c.index.result.now + c.args.k)
    [] ≡ (slice_index_or (model l c.args.m).covers c.args.k no_cover).rows in
    subst P c.self.view_is (ap (λ (n : ℕ). slice_index_or (all_rows library) (n + c.args.k) [])
    first ∙ rows_at library c.args.m c.args.k there cover)

pub returns-clause-columns : goal.returns-clause-columns
returns-clause-columns c =
    let firsts = c.self.inside.firsts.items in
    let h = c.self.invariant in
    let library = c.self.inside.library.now in
    let there : c.args.m < length library =
    omega (arith, c.requires.model, ap length c.self.view_is) in
    let cover : c.args.k < length (model library c.args.m).covers =
    omega (
      arith,
      c.requires.cover,
      ap (λ (l : List ModelOf). length (model l c.args.m).covers)
          c.self.view_is,
    ) in
    let first = row_first library firsts _ c.args.m c.index.result.now h there c.index.ensures in
    let P : List ModelOf → Type 0 = λ l.
    slice_index_or (all_columns l) (c.index.result.now + c.args.k) []
    ≡ places_in (names_of (model l c.args.m)) (slice_index_or (model l c.args.m).covers c.args.k
    no_cover).columns in
    subst P c.self.view_is (ap (λ (n : ℕ). slice_index_or (all_columns library) (n + c.args.k) [])
    first ∙ columns_at library c.args.m c.args.k there cover)
