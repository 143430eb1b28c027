-- What was written of a text where a write failed, and the numbers of a run's faults.
use Rattle.std.specs.Prelude.{ℕ, ◌≤◌, List, length, take, Option}
use Rattle.std.specs.Io.KnownBytes.{Appends}
use Rattle.eqc_report.specs.declared.io.fault.RunFault.{RunFault}
use Rattle.eqc_report.specs.declared.io.fault.RunFault.TheVariants.{Memory, Read, Write}

-- known bytes of a writer grow by a prefix of the text
abbrev pub AppendsPrefix : Option (List ℕ) → Option (List ℕ) → List ℕ → Type 0
AppendsPrefix old new text = (n : ℕ) × (n ≤ length text) × Appends old new (take n text)

-- the number of a fault
abbrev pub fault_code : RunFault → ℕ
fault_code Memory = 72
fault_code Read = 91
fault_code Write = 92
