use Rattle.std.proofs.Common.{set, ap, ◌∙◌, refl, arith}
use Rattle.std.proofs.lemmas.List.{get_or_read}
use Rattle.eqc_core.specs.View.{view_at, hand_of}
use Rattle.eqc_core.specs.Making.{reclaimed}
use Rattle.eqc_core.specs.Machine.{state_of}
use Rattle.eqc_core.proofs.Stored.{turned, stepped}
use Rattle.eqc_core.proofs.machine.Machine.reclaim.Goals as goal
use Rattle.eqc_core.proofs.Stored.{taken_there, hand_there}

pub index-word-requires : goal.index-word-requires
index-word-requires c = let n = (taken_there c.args.self.now c.args.id c.args.x c.requires.turn
    c.requires.may).0 in omega arith

pub reclaim-requires : goal.reclaim-requires
reclaim-requires c = hand_there c.args.self.now c.args.id c.index_mut-worker.result.now _
    c.requires.turn c.index_mut-worker.ensures.value c.requires.may.1

pub index_mut-requires : goal.index_mut-requires
index_mut-requires c = let n = (taken_there c.args.self.now c.args.id c.args.x c.requires.turn
    c.requires.may).1 in omega arith

pub returns : goal.returns
returns c =
    let m = c.args.self.now in
    let vs = (state_of m).views in
    let t =
    turned m.sizes m.workers.items c.args.id c.index_mut-worker.result.now c.reclaim.new.self
    (λ v. reclaimed v (hand_of v.hand) c.args.x c.index-word.result.now) c.requires.turn.there
    c.index_mut-worker.ensures.value
    c.requires.turn.active c.in_ok-reclaim.ensures in
    let word = get_or_read m.nodes.items c.args.x c.index-word.result.now (taken_there m c.args.id
    c.args.x c.requires.turn c.requires.may).0 c.index-word.ensures 0 in
    stepped (state_of m) _ _ _ _ refl (t
    ∙ ap (λ n. set vs c.args.id (reclaimed (view_at vs c.args.id)
    (hand_of (view_at vs c.args.id).hand) c.args.x n)) word)
