use Rattle.std.proofs.Common.{arith}
use Rattle.eqc_core.proofs.Stocks.{stocked_kept}
use Rattle.eqc_core.proofs.state.Core.stocked.Goals as goal

pub invariant_of-result : goal.invariant_of-result
invariant_of-result c =
    stocked_kept c.in-Ok.machine c.args.workers c.args.nodes c.args.cells
    (record {
      some_workers = omega arith;
      few_workers = omega arith;
      some_nodes = omega arith;
      few_nodes = omega arith;
      some_cells = omega arith;
      few_cells = omega arith;
    })
    c.in-Ok.ensures
