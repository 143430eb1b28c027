use Rattle.std.proofs.Common.{◌<◌, sym, ◌∙◌, arith}
use Rattle.eqc_build.specs.Listed.{moment_in}
use Rattle.eqc_build.proofs.ListedLaws.{listed_size, listed_at}
use Rattle.eqc_build.proofs.moments.noted_at.Goals as goal

pub returns-in-Few : goal.returns-in-Few
returns-in-Few c =
    let inside : c.args.s < c.in-Few.field-1 = omega (
      arith,
      (rw c.in-Few.is at c.requires),
      listed_size c.in-Few.field-1 (moment_in c.in-Few.last),
    ) in
    rw c.in-Few.is (c.moment_in.ensures
    ∙ sym (listed_at c.in-Few.field-1 (moment_in c.in-Few.last) c.args.s 0 inside))
