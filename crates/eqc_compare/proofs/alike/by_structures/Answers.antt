use Rattle.eqc_build.proofs.PairLaws.{pair_matched}
use Rattle.eqc_compare.proofs.AlikeLaws.{ArePairClasses, alike_equal, shared_choice}
use Rattle.eqc_compare.proofs.alike.by_structures.Goals as goal

pub classes-requires-clause-variables : goal.classes-requires-clause-variables
classes-requires-clause-variables c = rw (c.variables-variables.ensures.each, c.first-first.ensures)
    (pair_matched c.args.pair.now c.recall_laws.ensures).first.size

pub classes-requires-clause-others : goal.classes-requires-clause-others
classes-requires-clause-others c = rw (c.second_variables.ensures.each, c.second-second.ensures)
    (pair_matched c.args.pair.now c.recall_laws.ensures).second.size

pub returns-clause-known : goal.returns-clause-known
returns-clause-known c =
    let p = c.args.pair.now in
    let classes : ArePairClasses p c.in_ok-classes.classes =
    rw (
      c.first-first.ensures,
      c.variables-variables.ensures.each,
      c.second-second.ensures,
      c.second_variables.ensures.each,
    ) at c.in_ok-classes.ensures.classes in
    record {
      equal =
          alike_equal p c.in_ok-classes.classes c.in_ok-equal.equal.items c.recall_laws.ensures
          classes
          (rw (
            c.first-first.ensures,
            c.variables-variables.ensures.each,
            c.second-second.ensures,
            c.second_variables.ensures.each,
          ) at c.in_ok-classes.ensures.values)
          c.in_ok-equal.ensures;
      choice =
          shared_choice p c.in_ok-classes.classes c.in_ok-chosen.chosen.items c.recall_laws.ensures
          (rw c.first-first.ensures at c.recall_laws-2.ensures.follows) (rw c.second-second.ensures
          at c.recall_laws-3.ensures.follows)
          c.in_ok-chosen.ensures;
    }
