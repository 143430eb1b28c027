use Rattle.std.proofs.Common.{refl}
use Rattle.eqc_apply.proofs.Reading.{read_before, read_seat, root_read, root_few}
use Rattle.eqc_plain.proofs.Spending.{spends_refl}
use Rattle.eqc_apply.proofs.held.Held.root.Goals as goal

pub returns-clause-root : goal.returns-clause-root
returns-clause-root c =
    root_read c.args.x c.word_of-word.result c.args.self.now.variables c.args.self.now.counts.items
    c.args.self.now.worker
    c.word_of-word.new.worker c.word_of-word.ensures.step c.word_of-word.ensures.tells c.requires
    c.args.self.now.once _
    c.unpack_node-variable.ensures.fields

pub returns-clause-inner : goal.returns-clause-inner
returns-clause-inner c two =
    root_few c.args.x c.word_of-word.result c.args.self.now.variables c.args.self.now.counts.items
    c.args.self.now.worker
    c.word_of-word.new.worker c.word_of-word.ensures.step c.word_of-word.ensures.tells c.requires
    c.args.self.now.once _
    c.unpack_node-variable.ensures.fields

pub returns-clause-names : goal.returns-clause-names
returns-clause-names c = record {
  forest = c.word_of-word.ensures.step.forest;
  seat =
      read_seat c.args.x c.word_of-word.result c.args.self.now.variables
      c.args.self.now.counts.items c.args.self.now.worker
      c.word_of-word.new.worker c.word_of-word.ensures.step c.word_of-word.ensures.tells c.requires
      c.args.self.now.once;
  variables = refl;
  references = λ y. refl;
  before =
      read_before c.args.x c.word_of-word.result c.args.self.now.variables
      c.args.self.now.counts.items c.args.self.now.worker
      c.word_of-word.new.worker c.word_of-word.ensures.step c.word_of-word.ensures.tells c.requires
      c.args.self.now.once;
  turns = spends_refl c.args.self.now.turns;
}
