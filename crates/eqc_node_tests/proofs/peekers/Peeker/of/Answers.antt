use Rattle.std.proofs.Common.{List, sym, subst}
use Rattle.eqc_cache.specs.declared.peeking.Snapshot.{Snapshot}
use Rattle.eqc_node_tests.specs.Peeking.{IsPeeking}
use Rattle.eqc_node_tests.proofs.Peeking.{none_out}
use Rattle.eqc_node_tests.proofs.peekers.Peeker.of.Goals as goal

pub invariant_of-result : goal.invariant_of-result
invariant_of-result g c = record {
  peeking =
      subst (λ (l : List Snapshot). IsPeeking c.into_parts-worker.result.1.items l
      c.into_parts-worker.result.0) (sym c.new.ensures.items)
      (none_out c.args.maker.variables c.into_parts-worker.result.1.items
      c.into_parts-worker.result.0 c.into_parts-worker.ensures);
}
