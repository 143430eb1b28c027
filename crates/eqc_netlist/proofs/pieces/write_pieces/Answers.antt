use Rattle.std.proofs.Common.{◌≡◌, ◌∙◌, ◌+◌, ◌-◌, ◌*◌, [], ◌∷◌, ap, arith, sym, take, drop, map}
use Rattle.std.specs.List.{fold, range_with_len}
use Rattle.std.proofs.lemmas.List.Sums.{fold-append}
use Rattle.std.proofs.lemmas.List.FromFn.{map-range_with_len_more}
use Rattle.eqc_netlist.specs.Pieces.{piece}
use Rattle.eqc_netlist.proofs.pieces.write_pieces.Goals as goal

-- the pieces so far, and one more
pub loop-k-preserved : goal.loop-k-preserved
loop-k-preserved g c =
    let bytes = c.args.bytes.now in
    let k = c.loop-k.k in
    let write = g.H.Hasher.write in
    let before = c.args.state.now in
    let eight : (8 * k + 8) - 8 * k ≡ 8 = omega arith in
    c.write.ensures
    ∙ (ap (λ n. write c.loop-k.state (take n (drop (8 * k) bytes))) eight
    ∙ (ap (λ s. write s (piece bytes k)) c.loop-k.invariant
    ∙ (sym (fold-append write before (map (piece bytes) (range_with_len 0 k)) (piece bytes k ∷ []))
    ∙ sym (ap (fold write before) (map-range_with_len_more (piece bytes) 0 k k (omega arith))))))
