use Rattle.std.proofs.Common.{[], arith}
use Rattle.eqc_arena.proofs.Changing.{empties}
use Rattle.eqc_arena.proofs.Taking.{may_clear}
use Rattle.eqc_arena.proofs.Resting.{rest_begins}
use Rattle.eqc_apply.proofs.Once.{few_held, has_after}
use Rattle.eqc_apply.proofs.held.Held.share.Goals as goal

pub store-requires-clause-may : goal.store-requires-clause-may
store-requires-clause-may c = may_clear c.args.self.now.worker.known c.recall_laws.ensures
    (rest_begins c.args.self.now.once.rest) c.args.self.now.once.cells

pub store-requires-clause-room : goal.store-requires-clause-room
store-requires-clause-room c = let f = few_held c.args.self.now.once c.recall_laws.ensures in
    omega arith

pub invariant_of-self : goal.invariant_of-self
invariant_of-self c =
    record {
      once =
          has_after (empties c.args.self.now.worker c.store.new.worker c.store.ensures.before) [] []
          c.args.self.now.variables c.args.self.now.counts.items (λ y. omega arith)
          c.args.self.now.once;
    }
