use Rattle.std.proofs.Common.{◌<◌, ◌∙◌, [], arith, ap, sym, get_or, length, take}
use Rattle.eqc_netlist.specs.Rows.{rows_in}
use Rattle.eqc_netlist.proofs.CutLemmas.{row_within, row_at}
use Rattle.eqc_netlist.proofs.rows.Rows.get.Goals as goal

pub overflow_mul-k : goal.overflow_mul-k
overflow_mul-k c =
    let bytes = c.self.inside.bytes.now in
    let there : c.args.k < length (rows_in c.self.inside.width bytes) =
    omega (arith, c.requires, ap length c.self.view_is) in
    omega (
      arith,
      row_within c.self.inside.width c.args.k bytes c.self.invariant there,
      c.self.told.0,
    )

pub split_at-requires : goal.split_at-requires
split_at-requires c =
    let bytes = c.self.inside.bytes.now in
    let there : c.args.k < length (rows_in c.self.inside.width bytes) =
    omega (arith, c.requires, ap length c.self.view_is) in
    omega (arith, row_within c.self.inside.width c.args.k bytes c.self.invariant there)

pub split_at-requires-2 : goal.split_at-requires-2
split_at-requires-2 c =
    let bytes = c.self.inside.bytes.now in
    let there : c.args.k < length (rows_in c.self.inside.width bytes) =
    omega (arith, c.requires, ap length c.self.view_is) in
    omega (
      arith,
      row_within c.self.inside.width c.args.k bytes c.self.invariant there,
      c.split_at.ensures.back_len,
    )

pub returns : goal.returns
returns c =
    let bytes = c.self.inside.bytes.now in
    let width = c.self.inside.width in
    let there : c.args.k < length (rows_in width bytes) =
    omega (arith, c.requires, ap length c.self.view_is) in
    c.split_at-2.ensures.front
    ∙ (ap (λ rest. take width rest) c.split_at.ensures.back
    ∙ (sym (row_at width c.args.k bytes there)
    ∙ ap (λ rows. get_or rows c.args.k []) c.self.view_is))
