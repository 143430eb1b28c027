use Rattle.std.proofs.Common.{set, ap, ◌∙◌, refl, arith}
use Rattle.std.proofs.lemmas.List.{get_or_read}
use Rattle.eqc_core.specs.View.{view_at}
use Rattle.eqc_core.specs.Making.{read_node}
use Rattle.eqc_core.specs.Machine.{state_of, words_of}
use Rattle.eqc_core.proofs.Stored.{turned, stepped}
use Rattle.eqc_core.proofs.machine.Machine.read_node.Goals as goal
use Rattle.eqc_core.proofs.Stored.{held_there}

pub index-word-requires : goal.index-word-requires
index-word-requires c = let n = held_there c.args.self.now c.args.id c.args.x c.requires.turn
    c.requires.may.1 in omega arith

pub returns : goal.returns
returns c =
    let m = c.args.self.now in
    let vs = (state_of m).views in
    let t =
    turned m.sizes m.workers.items c.args.id c.index_mut-worker.result.now c.read.new.self
    (λ v. read_node v c.args.x c.index-word.result.now)
    c.requires.turn.there c.index_mut-worker.ensures.value c.requires.turn.active c.read.ensures in
    let word = get_or_read m.nodes.items c.args.x c.index-word.result.now (held_there m c.args.id
    c.args.x c.requires.turn c.requires.may.1) c.index-word.ensures 0 in
    stepped (state_of m) (words_of m) (words_of m) _ _ refl (t
    ∙ ap (λ n. set vs c.args.id (read_node (view_at vs c.args.id) c.args.x n)) word)
