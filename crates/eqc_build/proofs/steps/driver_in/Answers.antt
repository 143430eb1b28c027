use Rattle.std.proofs.Common.{arith, refl, sym}
use Rattle.eqc_build.proofs.steps.driver_in.Goals as goal

pub returns-in-Some : goal.returns-in-Some
returns-in-Some c =
    let one = c.requires.tables.each c.in-Cover.rows (record {
      columns = c.len.result;
      table =
          c.in-Some.table;
    }) c.in-Some.ensures in (
      c.in-Cover.columns,
      c.in-Cover.rows,
      sym (rw c.steps.ensures.steps at c.in-Cover.ensures),
      refl,
      omega (arith, one.few, c.len.ensures),
      rw c.len.ensures at one.value,
    )
