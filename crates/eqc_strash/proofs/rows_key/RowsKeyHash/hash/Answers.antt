use Rattle.std.proofs.Common.{◌∙◌, ◌<◌, [], ap, arith, get_or, length, sym}
use Rattle.std.specs.List.{fold}
use Rattle.std.proofs.lemmas.List.{take_all}
use Rattle.std.proofs.lemmas.List.Sums.{fold_more}
use Rattle.eqc_strash.proofs.rows_key.RowsKeyHash.hash.Goals as goal

pub loop-k-preserved : goal.loop-k-preserved
loop-k-preserved g c =
    let rows = c.self.inside.rows.now in
    let inside : c.loop-k.k < length rows = omega (arith, c.len-k-end.ensures, c.loop-k-test.true)
    in
    c.write.ensures
    ∙ (ap (g.H.Hasher.write c.loop-k.state) c.get.ensures
    ∙ (ap (λ s. g.H.Hasher.write s (get_or rows c.loop-k.k [])) c.loop-k.invariant
    ∙ sym (fold_more g.H.Hasher.write c.args.state.now rows c.loop-k.k [] inside)))

pub returns : goal.returns
returns g c =
    let rows = c.self.inside.rows.now in
    c.loop-k.invariant
    ∙ (ap (fold g.H.Hasher.write c.args.state.now) (take_all c.loop-k.k rows
    (omega (arith, c.len-k-end.ensures, c.loop-k-test.false)))
    ∙ ap (fold g.H.Hasher.write c.args.state.now) c.self.view_is)
