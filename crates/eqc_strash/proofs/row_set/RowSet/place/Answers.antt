use Rattle.std.proofs.Common.{[], subst}
use Rattle.std.specs.Cmp.Lexicographic.{pointwise}
use Rattle.std.specs.Str.{bytes_eq}
use Rattle.eqc_strash.specs.Tables.{Stands}
use Rattle.eqc_strash.proofs.KeyLaws.{put_stands}
use Rattle.eqc_strash.proofs.RowsLaws.{rows_decide}
use Rattle.eqc_strash.proofs.row_set.RowSet.place.Goals as goal

pub returns-clause-place : goal.returns-clause-place
returns-clause-place c =
    subst (λ x. Stands [] c.insert_full.new.self.keys c.in_ok-place.place x) c.of.ensures
    (put_stands (pointwise bytes_eq) rows_decide [] c.self.inside.keys.keys
    c.insert_full.new.self.keys c.of.result c.in_ok-place.place
    c.in_ok-place.ensures.keys c.in_ok-place.ensures.index)
