use Rattle.std.proofs.Common.{arith, sym, ap}
use Rattle.eqc_core.specs.Moves.{with_announced}
use Rattle.eqc_core.specs.Announcing.{announced}
use Rattle.eqc_core.specs.Machine.{state_of, words_of}
use Rattle.eqc_core.proofs.Stored.{turned, stepped, word_below, announced_there, turn_small}
use Rattle.eqc_core.proofs.Stored.{phases_there}
use Rattle.eqc_core.proofs.machine.Machine.announce.Goals as goal

pub index_mut-requires : goal.index_mut-requires
index_mut-requires c =
    let h = announced_there c.args.self.now c.args.id c.args.k c.requires.turn
    (word_below c.args.self.now c.args.id c.args.k c.requires.turn c.requires.may.1) in
    let e = c.word_at-place.ensures in
    omega arith

pub announce-requires : goal.announce-requires
announce-requires c =
    let h = phases_there c.args.self.now c.args.id c.index_mut-worker.result.now c.requires.turn
    c.index_mut-worker.ensures.value in
    let lt = word_below c.args.self.now c.args.id c.args.k c.requires.turn c.requires.may.1 in
    omega arith

pub returns : goal.returns
returns c =
    let m = c.args.self.now in
    let t =
    turned m.sizes m.workers.items c.args.id c.index_mut-worker.result.now c.announce.new.self
    (λ v. announced v c.args.k) c.requires.turn.there
    c.index_mut-worker.ensures.value c.requires.turn.active c.announce.ensures in
    let own = ap (λ i. with_announced (words_of m) i c.args.x) c.word_at-place.ensures in
    stepped (state_of m) _ _ _ _ own t
