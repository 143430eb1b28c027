use Rattle.std.proofs.Common.{◌∷◌, [], ap, arith, length, length-append, subst, sym}
use Rattle.eqc_strash.specs.Tables.{Grows}
use Rattle.eqc_strash.proofs.KeyLaws.{grows_not, grows_more}
use Rattle.eqc_strash.proofs.PlaceLaws.{places_more, are_row_classes}
use Rattle.eqc_strash.proofs.row_set.RowSet.places.Goals as goal

pub loop-r-init : goal.loop-r-init
loop-r-init c = record {
  size = ap length c.in_ok-places.ensures.items;
  grown = grows_not [] c.args.self.now 0;
  each = λ j less. absurd (omega (arith, less));
}

pub loop-r-preserved : goal.loop-r-preserved
loop-r-preserved c =
    let size = c.loop-r.invariant.size in
    record {
      size = omega (
        arith,
        size,
        ap length c.in_ok-push.ensures.items,
        length-append c.loop-r.places.items (c.in_ok-place.place ∷ []),
      );
      grown = grows_more [] c.args.self.now c.loop-r.self c.place.new.self c.loop-r.r 1
          c.loop-r.invariant.grown c.place.ensures.kept;
      each =
          places_more c.args.flat.now.rows c.loop-r.self c.place.new.self c.loop-r.places.items
          c.push.new.self.items c.loop-r.r 1
          c.in_ok-place.place c.rows.result.now size c.loop-r.invariant.each c.place.ensures.kept
          c.in_ok-place.ensures.place
          c.rows.ensures c.in_ok-push.ensures.items;
    }

pub returns-clause-kept : goal.returns-clause-kept
returns-clause-kept c = subst (Grows [] c.args.self.now c.loop-r.self) (sym c.loop-r.invariant.size)
    c.loop-r.invariant.grown

pub returns-clause-places : goal.returns-clause-places
returns-clause-places c =
    are_row_classes c.args.flat.now c.loop-r.self c.loop-r.places.items c.rows_named-count.result
    c.loop-r.r c.loop-r.invariant.size
    c.loop-r-test.false c.rows_named-count.ensures.named c.loop-r.invariant.each
