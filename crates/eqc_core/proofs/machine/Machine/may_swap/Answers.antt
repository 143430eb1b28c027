use Rattle.std.proofs.Common.{refl}
use Rattle.eqc_core.specs.Words.{first_of, second_of, result_of}
use Rattle.eqc_core.specs.Machine.{active_view}
use Rattle.eqc_core.proofs.Names.{names_first, names_second, names_result}
use Rattle.eqc_core.proofs.Taking.{swap_named}
use Rattle.eqc_core.proofs.machine.Machine.may_swap.Goals as goal

pub is_filled-requires-clause-first : goal.is_filled-requires-clause-first
is_filled-requires-clause-first c =
    swap_named c.args.self.now (active_view c.args.self.now.sizes c.args.worker.now) c.args.word
    (first_of c.args.word) c.requires.kept
    c.requires.stands (c.if-not-may_store.ensures.0 refl).3 (names_first c.args.word)

pub is_filled-requires-clause-second : goal.is_filled-requires-clause-second
is_filled-requires-clause-second c =
    swap_named c.args.self.now (active_view c.args.self.now.sizes c.args.worker.now) c.args.word
    (second_of c.args.word) c.requires.kept
    c.requires.stands (c.if-not-may_store.ensures.0 refl).3 (names_second c.args.word)

pub is_filled-requires-clause-outcome : goal.is_filled-requires-clause-outcome
is_filled-requires-clause-outcome c =
    swap_named c.args.self.now (active_view c.args.self.now.sizes c.args.worker.now) c.args.word
    (result_of c.args.word) c.requires.kept
    c.requires.stands (c.if-not-may_store.ensures.0 refl).3 (names_result c.args.word)
