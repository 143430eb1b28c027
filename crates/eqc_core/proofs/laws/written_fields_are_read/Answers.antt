use Rattle.eqc_core.proofs.Bounds.{written_fields}
use Rattle.eqc_core.proofs.laws.written_fields_are_read.Goals as goal

pub returns : goal.returns
returns c = λ z w hs vs id d variable low high v h law at on may. written_fields z w hs vs id v law
    at on d variable low high h may
