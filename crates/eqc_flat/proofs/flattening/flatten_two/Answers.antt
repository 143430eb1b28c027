use Rattle.std.proofs.Common.{inl}
use Rattle.eqc_flat.proofs.flattening.flatten_two.Goals as goal

pub returns-in_default-clause-refused : goal.returns-in_default-clause-refused
returns-in_default-clause-refused c = inl c.of-in_default.ensures

pub returns-in_default-copied-clause-refused : goal.returns-in_default-copied-clause-refused
returns-in_default-copied-clause-refused c = inl c.of-in_default-copied.ensures

pub returns-in-Ok-flat_below-clause-refused : goal.returns-in-Ok-flat_below-clause-refused
returns-in-Ok-flat_below-clause-refused c = (
  c.in-Ok-flat_below.ensures.accepted,
  c.in-Err-flat_below.ensures.refused,
)

pub returns-clause-refused : goal.returns-clause-refused
returns-clause-refused c = c.in-Err.ensures.refused
