use Rattle.std.proofs.Common.{◌≡◌, ◌++◌, ◌∷◌, [], ◌∙◌, sym, ap, arith, map, length, ℕ, List, take}
use Rattle.std.specs.List.{flat_map, range_with_len}
use Rattle.std.proofs.lemmas.List.FromFn.{map-range_with_len_more}
use Rattle.eqc_blif.specs.Netlist.{CoverOf}
use Rattle.eqc_flat.specs.RowTable.{rows_of}
use Rattle.eqc_flat.proofs.ExpandedLaws.{rows_more}
use Rattle.eqc_flat.proofs.drivers.row_table.RowTable.of.Goals as goal

pub loop-m-preserved : goal.loop-m-preserved
loop-m-preserved c =
    let library = c.args.library.now in
    let count : c.len.result ≡ length (flat_map rows_of (take c.loop-m.m library)) = c.len.ensures
    ∙ (c.loop-m.rows.ok.0 ∙ ap length c.loop-m.invariant.rows) in
    record {
      firsts =
          ◌∙◌ {A = List ℕ} c.in_ok-push.ensures.items
          (ap (λ (xs : List ℕ). xs ++ c.len.result ∷ []) c.loop-m.invariant.firsts
          ∙ (ap (λ (n : ℕ). map (λ m. length (flat_map rows_of (take m library)))
          (range_with_len 0 c.loop-m.m) ++ n ∷ []) count
          ∙ sym (map-range_with_len_more (λ m. length (flat_map rows_of (take m library))) 0
          c.loop-m.m c.loop-m.m
          (omega arith))));
      rows =
          c.in_ok-push_rows.ensures
          ∙ (ap (λ (xs : List (List (List ℕ))). xs ++ map (λ (one : CoverOf). one.rows)
          c.covers.result.now) c.loop-m.invariant.rows
          ∙ (ap (λ (cs : List CoverOf). flat_map rows_of (take c.loop-m.m library)
          ++ map (λ (one : CoverOf). one.rows) cs)
          c.covers.ensures
          ∙ sym (rows_more library c.loop-m.m (omega (
            arith,
            c.loop-m-test.true,
            c.models-m-end.ensures.count,
          )))));
    }
