use Rattle.std.proofs.Common.{ap, arith, ◌+◌}
use Rattle.std.proofs.lemmas.List.{get_or_read}
use Rattle.eqc_core.specs.Machine.{state_of, words_of}
use Rattle.eqc_core.specs.Moves.{with_count}
use Rattle.eqc_core.specs.Counting.{upped}
use Rattle.eqc_core.proofs.Stored.{turned, stepped, count_there}
use Rattle.eqc_core.proofs.Wraps.{count_fits}
use Rattle.eqc_core.proofs.machine.Machine.up.Goals as goal

pub index_mut-requires : goal.index_mut-requires
index_mut-requires c = let h = (count_there c.args.self.now c.args.id c.args.x c.requires.turn
    c.requires.may.2).1 in omega arith

pub overflow_add-index_mut : goal.overflow_add-index_mut
overflow_add-index_mut c =
    let m = c.args.self.now in
    let s = state_of m in
    let there = count_there m c.args.id c.args.x c.requires.turn c.requires.may.2 in
    let was = get_or_read m.counts.items c.args.x c.index_mut.result.now there.1
    c.index_mut.ensures.value 0 in
    let fits = count_fits s.sizes s.words s.homes s.views c.args.x c.requires.turn.kept.lawful
    c.requires.may.1 there.0 in
    omega arith

pub returns : goal.returns
returns c =
    let m = c.args.self.now in
    let there = count_there m c.args.id c.args.x c.requires.turn c.requires.may.2 in
    let was = get_or_read m.counts.items c.args.x c.index_mut.result.now there.1
    c.index_mut.ensures.value 0 in
    let t =
    turned m.sizes m.workers.items c.args.id c.index_mut-worker.result.now c.up.new.self
    (λ v. upped v c.args.x) c.requires.turn.there
    c.index_mut-worker.ensures.value c.requires.turn.active c.in_ok-up.ensures in
    stepped (state_of m) _ _ _ _ (ap (λ n. with_count (words_of m) c.args.x (n + 1)) was) t
