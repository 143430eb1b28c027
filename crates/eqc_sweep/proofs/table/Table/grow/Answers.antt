use Rattle.std.proofs.Common.{List, subst, sym}
use Rattle.eqc_sweep.specs.declared.table.Known.{Known}
use Rattle.eqc_sweep.specs.Known.{AreKnown}
use Rattle.eqc_sweep.proofs.table.Table.grow.Goals as goal

pub returns : goal.returns
returns c nodes g known =
    let there = subst (λ (all : List Known). AreKnown nodes all) (sym c.as_slice.ensures.value)
    known in
    c.keep_all.ensures nodes (c.in_ok-entries.ensures nodes g) there
