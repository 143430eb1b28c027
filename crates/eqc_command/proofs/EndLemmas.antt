-- Ends of the program.
use Rattle.std.proofs.Common.{◌≡◌, ◌≢◌, ◌∙◌, ◌++◌, ◌∷◌, codes, ap, refl, ℕ, List, [], Option, Some}
use Rattle.std.proofs.Common.{None, take, sym, subst, append-nil, inl, inr, arith}
use Rattle.clap.specs.Kinds.{Kinds, HasKind, IsAmong}
use Rattle.clap.specs.Values.{kind_of}
use Rattle.clap.specs.declared.error.Error.{Error}
use Rattle.clap.specs.declared.error.kind.ErrorKind.TheVariants.{DisplayHelp, DisplayVersion}
use Rattle.clap.specs.declared.error.kind.ErrorKind.TheVariants.{OutOfMemory}
use Rattle.eqc_report.specs.Ends.{AppendsPrefix}
use Rattle.eqc_case.specs.Running.{IsCutOff}
use Rattle.eqc_report.specs.declared.io.fault.RunFault.{RunFault}
use Rattle.eqc_report.specs.declared.io.fault.RunFault.TheVariants.{Memory, Read, Write}
use Rattle.eqc_command.specs.Sources.{source_remaining, AreAskedFor}
use Rattle.eqc_words.specs.declared.command_line.Request.{Request}
use Rattle.eqc_command.specs.declared.ending.End.TheVariants.{Failed}
use Rattle.eqc_command.specs.declared.source.Sources.{Sources}
use Rattle.eqc_command.specs.Ends.{Grows, given_by, MayBeExplained, is_explained, IsRunEnd}
use Rattle.eqc_command.specs.Ends.{IsShowing, fault_text}
use Rattle.eqc_report.proofs.ReportLemmas.{two_digits}

nothing_grows : (known : Option (List ℕ)) → Grows known known
nothing_grows None = ([], tt)
nothing_grows (Some x) = ([], sym (append-nil x))

-- what is as it was grew by nothing
pub same_grows : (old new : Option (List ℕ)) → new ≡ old → Grows old new
same_grows old new e = subst (Grows old) (sym e) (nothing_grows old)

-- an error that is a request for help or for the version comes of words that ask for it
pub shown_asked : (kinds : Kinds) (error : Error) → IsShowing (kind_of error) → HasKind kinds error
    → IsAmong (kind_of error) kinds
shown_asked kinds error (inl help) (inl memory) =
    let bad : DisplayHelp ≡ OutOfMemory = sym help ∙ memory in
    cc
shown_asked kinds error (inr version) (inl memory) =
    let bad : DisplayVersion ≡ OutOfMemory = sym version ∙ memory in
    cc
shown_asked kinds error is (inr among) = among

-- a part of a text is some bytes
pub part_grows : (old new : Option (List ℕ)) (text : List ℕ) → AppendsPrefix old new text
    → Grows old new
part_grows old new text part = (take part.0 text, part.2)

-- the three lines of a fault
pub memory_line : codes "fault 72" ++ 10 ∷ [] ≡ fault_text Memory
memory_line = sym (ap (λ ds. codes "fault " ++ ds ++ 10 ∷ []) (two_digits 72 (omega arith)
    (omega arith)))

pub read_line : codes "fault 91" ++ 10 ∷ [] ≡ fault_text Read
read_line = sym (ap (λ ds. codes "fault " ++ ds ++ 10 ∷ []) (two_digits 91 (omega arith)
    (omega arith)))

pub write_line : codes "fault 92" ++ 10 ∷ [] ≡ fault_text Write
write_line = sym (ap (λ ds. codes "fault " ++ ds ++ 10 ∷ []) (two_digits 92 (omega arith)
    (omega arith)))

-- a run that failed
pub run_failed : {R F : Type 0} (input_remaining : R → Option (List ℕ)) (file_remaining : F
    → Option (List ℕ)) (request : Request) (input : R)
    (old new err_old err_new : Option (List ℕ)) (fault : RunFault) (sources : Sources R F)
    → AreAskedFor request input sources
    → (fault ≡ Write → IsCutOff (source_remaining input_remaining file_remaining)
    (given_by request sources) old new)
    → (fault ≡ Read → new ≡ old) → fault ≢ Memory → MayBeExplained (is_explained request) err_old
    err_new → IsRunEnd input_remaining file_remaining request input old new err_old err_new
    (Failed fault)
run_failed input_remaining file_remaining request input old new err_old err_new Memory sources
    opened cut kept never explained = absurd (never refl)
run_failed input_remaining file_remaining request input old new err_old err_new Read sources opened
    cut kept never explained = (kept refl, explained)
run_failed input_remaining file_remaining request input old new err_old err_new Write sources opened
    cut kept never explained =
    (record { sources = sources; opened = opened; writes = cut refl }, explained)
