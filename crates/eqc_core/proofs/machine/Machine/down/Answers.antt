use Rattle.std.proofs.Common.{ap, arith, ◌-◌}
use Rattle.std.proofs.lemmas.List.{get_or_read}
use Rattle.eqc_core.specs.Machine.{state_of, words_of}
use Rattle.eqc_core.specs.Moves.{with_count}
use Rattle.eqc_core.specs.Counting.{downed}
use Rattle.eqc_core.proofs.Stored.{turned, stepped, count_there, held_counted}
use Rattle.eqc_core.proofs.machine.Machine.down.Goals as goal

pub index_mut-requires : goal.index_mut-requires
index_mut-requires c = let h = (count_there c.args.self.now c.args.id c.args.x c.requires.turn
    c.requires.may.2).1 in omega arith

pub overflow_sub-index_mut : goal.overflow_sub-index_mut
overflow_sub-index_mut c =
    let m = c.args.self.now in
    let there = count_there m c.args.id c.args.x c.requires.turn c.requires.may.2 in
    let was = get_or_read m.counts.items c.args.x c.index_mut.result.now there.1
    c.index_mut.ensures.value 0 in
    let counted = held_counted m c.args.id c.args.x c.requires.turn c.requires.may.1 there.0
    c.requires.may.3 in
    omega arith

pub returns : goal.returns
returns c =
    let m = c.args.self.now in
    let there = count_there m c.args.id c.args.x c.requires.turn c.requires.may.2 in
    let was = get_or_read m.counts.items c.args.x c.index_mut.result.now there.1
    c.index_mut.ensures.value 0 in
    let t =
    turned m.sizes m.workers.items c.args.id c.index_mut-worker.result.now c.down.new.self
    (λ v. downed v c.args.x) c.requires.turn.there
    c.index_mut-worker.ensures.value c.requires.turn.active c.down.ensures in
    stepped (state_of m) _ _ _ _ (ap (λ n. with_count (words_of m) c.args.x (n - 1)) was) t
