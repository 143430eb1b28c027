use Rattle.eqc_blif.specs.Netlist.{CoverOf}
use Rattle.eqc_flat.proofs.Growing.{mapped_more}
use Rattle.eqc_flat.proofs.drivers.row_table.push_rows.Goals as goal

pub covers-preserved : goal.covers-preserved
covers-preserved c =
    mapped_more (λ (one : CoverOf). one.rows) c.args.covers.now c.args.all.now.items
    c.covers.all.items c.push.new.self.items
    c.covers.cover-index c.cover-item.result c.rows.result c.covers.invariant
    c.in_ok-push.ensures.items c.rows.ensures c.cover-item.is
    c.covers-test.true
