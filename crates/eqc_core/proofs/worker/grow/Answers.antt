use Rattle.std.proofs.Common.{◌++◌, [], ◌∷◌, map, sym, ap, ◌∙◌, arith}
use Rattle.std.proofs.lemmas.List.{length-map, map-append}
use Rattle.eqc_core.specs.View.{grown}
use Rattle.eqc_core.specs.Machine.{view_of}
use Rattle.eqc_core.proofs.StoredSeats.{grown_push, grown_same, absent_is}
use Rattle.eqc_core.proofs.worker.grow.Goals as goal

pub short-preserved : goal.short-preserved
short-preserved c = λ z.
    let ws = c.short.workers.items in
    let vs = map (view_of z) ws in
    let l = length-map ws (view_of z) in
    let short = c.short-test.true in
    let e = ap (map (view_of z)) c.in_ok-push.ensures.items
    ∙ (map-append (view_of z) ws (c.absent.result ∷ [])
    ∙ ap (λ u. vs ++ u ∷ []) (absent_is z c.absent.result c.absent.ensures.active
    c.absent.ensures.over)) in
    ap (λ l. grown l c.args.n) e ∙ (grown_push vs c.args.n (omega arith) ∙ c.short.invariant z)

pub returns : goal.returns
returns c = λ z.
    let ws = c.short.workers.items in
    let l = length-map ws (view_of z) in
    let long = c.short-test.false in
    sym (grown_same (map (view_of z) ws) c.args.n (omega arith)) ∙ c.short.invariant z
