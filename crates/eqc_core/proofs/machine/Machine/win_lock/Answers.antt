use Rattle.std.proofs.Common.{set, ap, ◌∙◌, refl, arith}
use Rattle.std.proofs.lemmas.List.{length-map}
use Rattle.eqc_core.specs.View.{view_at}
use Rattle.eqc_core.specs.Locking.{locked}
use Rattle.eqc_core.specs.Machine.{state_of, home_of}
use Rattle.eqc_core.proofs.Stored.{turned, stepped_home}
use Rattle.eqc_core.proofs.machine.Machine.win_lock.Goals as goal

pub take_home-table-requires : goal.take_home-table-requires
take_home-table-requires c = let m = c.args.self.now in let l = length-map m.homes.items home_of in
    let n = c.requires.turn.kept.lawful.sized.homes in let i = c.requires.may.0.1 in omega arith

pub index_mut-requires : goal.index_mut-requires
index_mut-requires c = let n = c.requires.turn.kept.lawful.sized.locks in let i = c.requires.may.0.1
    in omega arith

pub returns : goal.returns
returns c =
    let m = c.args.self.now in
    let vs = (state_of m).views in
    let id = c.args.id in
    let t =
    turned m.sizes m.workers.items id c.index_mut-worker.result.now c.lock.new.self
    (λ v. locked v c.args.i c.take_home-table.result.entries.items) c.requires.turn.there
    c.index_mut-worker.ensures.value
    c.requires.turn.active c.lock.ensures in
    stepped_home (state_of m) _ _ _ _ _ _ refl c.take_home-table.ensures.homes (t
    ∙ ap (λ es. set vs id (locked (view_at vs id) c.args.i es)) c.take_home-table.ensures.table)
