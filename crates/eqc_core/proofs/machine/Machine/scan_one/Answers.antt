use Rattle.std.proofs.Common.{set, ap, refl, ◌∙◌, arith, get_or, ◌≡◌}
use Rattle.std.proofs.lemmas.List.{get_or_read}
use Rattle.eqc_core.specs.View.{View, view_at}
use Rattle.eqc_core.specs.Machine.{state_of, words_of}
use Rattle.eqc_core.specs.Scanning.{scanned}
use Rattle.eqc_core.proofs.Stored.{turned_at, turn_view, stepped, place_there}
use Rattle.eqc_core.proofs.machine.Machine.scan_one.Goals as goal

pub index-name-requires : goal.index-name-requires
index-name-requires c =
    let m = c.args.self.now in
    let b = place_there m c.args.id c.index.result.now c.requires c.index.ensures in
    let n = c.requires.kept.lawful.sized.announced in
    omega arith

pub scan-requires : goal.scan-requires
scan-requires c = place_there c.args.self.now c.args.id c.index_mut-worker.result.now c.requires
    c.index_mut-worker.ensures.value

pub returns : goal.returns
returns c =
    let m = c.args.self.now in
    let vs = (state_of m).views in
    let v = view_at vs c.args.id in
    let t =
    turned_at m.sizes m.workers.items c.args.id c.index_mut-worker.result.now c.scan.new.self
    (λ v. scanned v c.index-name.result.now)
    c.requires.there c.index_mut-worker.ensures.value c.requires.active c.in_ok-scan.ensures.active
    c.in_ok-scan.ensures.view in
    let b = place_there m c.args.id c.index.result.now c.requires c.index.ensures in
    let n = c.requires.kept.lawful.sized.announced in
    let name = get_or_read m.announced.items c.index.result.now.position c.index-name.result.now
    (omega arith) c.index-name.ensures 0 in
    let place : c.index.result.now.position ≡ v.position =
    ap (λ (u : View). u.position) (Rattle.std.proofs.Common.sym (turn_view m c.args.id
    c.index.result.now c.requires c.index.ensures)) in
    stepped (state_of m) (words_of m) (words_of m) _ _ refl (t
    ∙ ap (λ n. set vs c.args.id (scanned v n)) (name ∙ ap (λ i. get_or m.announced.items i 0)
    place))
