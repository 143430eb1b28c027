use Rattle.eqc_pair.specs.PairOf.{assumed}
use Rattle.eqc_build.proofs.StepLaws.{lent_some, assumed_of}
use Rattle.eqc_build.proofs.CoverTableLaws.{tables_none}
use Rattle.eqc_build.proofs.cover_tables.PairTables.of.Goals.{in-Some, in-None}
use Rattle.eqc_build.proofs.cover_tables.PairTables.of.Goals as goal

pub returns : goal.returns
returns c = record {
  first = rw c.first.ensures at c.tables_of.ensures;
  second = rw c.second.ensures at c.tables_of-2.ensures;
  assumed = elim c.match-assumption.branch [
    | in-Some w ↦
        rw (
          w.assumed-is,
          assumed_of c.args.pair.now w.in-Some.assumption.now
              (lent_some c.args.pair.now c.assumption.result w.in-Some.assumption c.assumption.ensures
              w.in-Some.is),
        )
        w.tables_of-assumed.ensures
    | in-None w ↦ rw w.assumed-is (tables_none (assumed c.args.pair.now)
        w.new-assumed.result.entries w.new-assumed.ensures.empty)
  ];
}
