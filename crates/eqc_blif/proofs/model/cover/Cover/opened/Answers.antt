use Rattle.std.proofs.Common.{rules, ◌≡◌, ◌+◌, [], length, arith, ap, ◌∙◌}
use Rattle.eqc_netlist.specs.Rows.{rows_in}
use Rattle.eqc_blif.proofs.CutLemmas.{no_rows}
use Rattle.eqc_blif.proofs.model.cover.Cover.opened.Goals as goal

pub returns : goal.returns
returns c =
    let width = length c.pop.new.self.items + 1 in
    let none : rows_in width c.new.result.items ≡ [] =
    ap (λ bytes. rows_in width bytes) c.new.ensures.items ∙ no_rows width (omega arith) in
    rw none (search rules)
