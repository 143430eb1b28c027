use Rattle.std.proofs.Common.{length, sym, ◌∙◌, ap}
use Rattle.eqc_netlist.proofs.CutLemmas.{row_count}
use Rattle.eqc_netlist.proofs.rows.Rows.len.Goals as goal

pub returns : goal.returns
returns c = sym (row_count c.self.inside.width c.self.inside.bytes.now) ∙ ap length c.self.view_is
