use Rattle.std.proofs.Common.{arith}
use Rattle.eqc_build.proofs.StepLaws.{goals_within}
use Rattle.eqc_build.proofs.plan.plan_of.Goals as goal

pub returns-clause-turns : goal.returns-clause-turns
returns-clause-turns c =
    let lawful = c.len-count.ensures.lawful in
    rw c.keep_wide.ensures (record {
      each = λ o inside unmarked. record {
        some = omega arith;
        within = goals_within c.args.steps o lawful inside;
        moments = c.in_ok-last.ensures.last;
        ends = c.in_ok-last.ensures.roots o (rw (
          c.outputs.ensures,
          c.first.ensures,
          c.pair-pair.ensures,
        ) inside) unmarked;
      };
      few = omega (
        arith,
        lawful.lawful.first_flat.few_outputs,
        lawful.lawful.first_flat.few_signals,
      );
    })
