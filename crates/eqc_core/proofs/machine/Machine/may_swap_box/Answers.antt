use Rattle.std.proofs.Common.{refl}
use Rattle.eqc_core.specs.Words.{first_of, second_of, result_of}
use Rattle.eqc_core.specs.Machine.{active_view}
use Rattle.eqc_core.proofs.Names.{names_first, names_second, names_result}
use Rattle.eqc_core.proofs.Taking.{swap_named}
use Rattle.eqc_core.proofs.machine.Machine.may_swap_box.Goals as goal

pub is_box_word-requires-clause-first : goal.is_box_word-requires-clause-first
is_box_word-requires-clause-first c =
    swap_named c.args.self.now (active_view c.args.self.now.sizes c.args.worker.now) c.args.word
    (first_of c.args.word) c.requires.kept
    c.requires.stands (c.if-not-may_put.ensures.0 refl).2 (names_first c.args.word)

pub is_box_word-requires-clause-second : goal.is_box_word-requires-clause-second
is_box_word-requires-clause-second c =
    swap_named c.args.self.now (active_view c.args.self.now.sizes c.args.worker.now) c.args.word
    (second_of c.args.word) c.requires.kept
    c.requires.stands (c.if-not-may_put.ensures.0 refl).2 (names_second c.args.word)

pub is_box_word-requires-clause-outcome : goal.is_box_word-requires-clause-outcome
is_box_word-requires-clause-outcome c =
    swap_named c.args.self.now (active_view c.args.self.now.sizes c.args.worker.now) c.args.word
    (result_of c.args.word) c.requires.kept
    c.requires.stands (c.if-not-may_put.ensures.0 refl).2 (names_result c.args.word)
