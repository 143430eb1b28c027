use Rattle.std.proofs.Common.{refl, ap, arith, length}
use Rattle.eqc_flat.proofs.FindingLaws.{size_large, size_ends, inputs_many}
use Rattle.eqc_flat.proofs.explanation.finding.Goals as goal

pub hierarchy_size-requires-clause-ends : goal.hierarchy_size-requires-clause-ends
hierarchy_size-requires-clause-ends c = size_ends c.args.library.now c.args.top c.args.limit
    (rw c.in-TooLarge.is at c.requires.refused)

pub returns-in_ok-size-in-TooLarge : goal.returns-in_ok-size-in-TooLarge
returns-in_ok-size-in-TooLarge c =
    let refused = rw c.in-TooLarge.is at c.requires.refused in (
      refused,
      refl,
      size_large c.args.library.now c.args.top c.args.limit refused,
      c.in_ok-size-in-TooLarge.ensures,
    )

pub returns-in-ManyInputs : goal.returns-in-ManyInputs
returns-in-ManyInputs c =
    let refused = rw c.in-ManyInputs.is at c.requires.refused in
    let size = ap length c.inputs-inputs.ensures.names in (
      refused,
      size,
      refl,
      omega (
        arith,
        inputs_many c.args.library.now c.args.top c.args.limit
            refused,
        size,
      ),
    )
