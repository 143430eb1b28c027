use Rattle.std.proofs.Common.{◌≡◌, map, subst}
use Rattle.std.specs.List.{All}
use Rattle.eqc_report.specs.Left.{IsNameWhere, count_of, is_alone}
use Rattle.eqc_report.proofs.undecided.left_of.Goals as goal

pub returns : goal.returns
returns c =
    let p = c.args.pair.now in
    let marks = c.args.marks.now in
    let names = c.names_alone-names.result.items in
    record {
      compared = c.count.ensures;
      count = c.count-2.ensures;
      words = c.words_left-words.ensures;
      alone = subst (λ words. c.left_alone-alone.result ≡ count_of p (is_alone p marks words))
          c.deref-2.ensures.value c.left_alone-alone.ensures;
      names = subst (λ words. All (IsNameWhere p (is_alone p marks words)) (map (λ name. name.items)
          names)) c.deref.ensures.value c.names_alone-names.ensures;
    }
