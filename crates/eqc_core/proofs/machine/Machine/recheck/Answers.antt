use Rattle.std.proofs.Common.{set, ap, refl, ◌∙◌, arith, get_or}
use Rattle.std.proofs.lemmas.List.{get_or_read}
use Rattle.eqc_core.specs.View.{view_at}
use Rattle.eqc_core.specs.Machine.{state_of, words_of}
use Rattle.eqc_core.specs.Announcing.{rechecked}
use Rattle.eqc_core.proofs.Stored.{turned, stepped, phases_there}
use Rattle.eqc_core.proofs.machine.Machine.recheck.Goals as goal

pub index-found-requires : goal.index-found-requires
index-found-requires c = let n = c.requires.turn.kept.lawful.sized.cells in let lt =
    c.requires.there in omega arith

pub recheck-requires : goal.recheck-requires
recheck-requires c =
    let h = phases_there c.args.self.now c.args.id c.index_mut-worker.result.now c.requires.turn
    c.index_mut-worker.ensures.value in
    let lt = c.requires.word in
    omega arith

pub returns : goal.returns
returns c =
    let m = c.args.self.now in
    let vs = (state_of m).views in
    let t =
    turned m.sizes m.workers.items c.args.id c.index_mut-worker.result.now c.recheck.new.self
    (λ v. rechecked v c.args.k c.index-found.result.now)
    c.requires.turn.there c.index_mut-worker.ensures.value c.requires.turn.active c.recheck.ensures
    in
    let n = c.requires.turn.kept.lawful.sized.cells in
    let lt = c.requires.there in
    let found = get_or_read m.cells.items c.args.c c.index-found.result.now (omega arith)
    c.index-found.ensures 0 in
    let cell = ap (λ i. get_or m.cells.items i 0) c.requires.cell in
    stepped (state_of m) (words_of m) (words_of m) _ _ refl (t
    ∙ ap (λ n. set vs c.args.id (rechecked (view_at vs c.args.id) c.args.k n)) (found ∙ cell))
