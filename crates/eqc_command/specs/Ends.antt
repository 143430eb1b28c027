-- How the program ends, by its words and its input, and what it has written.
use Rattle.std.specs.Prelude.{◌≡◌, ◌≢◌, ◌⊎◌, Result, Err, IfOk, IfErr, ℕ, Bool, true, false, ◌||◌}
use Rattle.std.specs.Prelude.{List, [], ◌++◌, ◌∷◌, map, codes, Option, option_map}
use Rattle.std.specs.Fmt.{decimal}
use Rattle.std.specs.Io.KnownBytes.{Appends}
use Rattle.clap.specs.Walk.{Text}
use Rattle.clap.specs.Faults.{fault_of}
use Rattle.clap.specs.Kinds.{HasKind, IsAmong}
use Rattle.clap.specs.Values.{kind_of}
use Rattle.clap.specs.declared.error.kind.ErrorKind.{ErrorKind}
use Rattle.clap.specs.declared.error.kind.ErrorKind.TheVariants.{DisplayHelp, DisplayVersion}
use Rattle.clap.specs.declared.error.kind.ErrorKind.TheVariants.{OutOfMemory}
use Rattle.clap.specs.declared.error.Error.{Error}
use Rattle.eqc_report.specs.declared.io.fault.RunFault.{RunFault}
use Rattle.eqc_report.specs.declared.io.fault.RunFault.TheVariants as run_fault
use Rattle.eqc_report.specs.declared.report.Status.{Status}
use Rattle.eqc_report.specs.declared.report.Status.TheVariants.{Equivalent, Differs, Vacuous}
use Rattle.eqc_report.specs.declared.report.Status.TheVariants.{Refused, Stopped}
use Rattle.eqc_case.specs.declared.given.Given.{Given}
use Rattle.eqc_check.specs.declared.running.Finished.{Finished}
use Rattle.eqc_report.specs.Ends.{AppendsPrefix, fault_code}
use Rattle.eqc_case.specs.Running.{IsAnswered, IsCutOff}
use Rattle.eqc_case.specs.Answer.{NamesOf}
use Rattle.eqc_case.specs.Warning.{IsWarned}
use Rattle.eqc_case.specs.declared.warning.Warnings.{Warnings}
use Rattle.eqc_telling.specs.Warnings.{warnings_text, IsToldOf}
use Rattle.eqc_words.specs.CommandLine.{eqc_app, rows_asked, IsAsked}
use Rattle.eqc_command.specs.Sources.{source_remaining, AreAskedFor}
use Rattle.eqc_words.specs.declared.command_line.Request.{Request}
use Rattle.eqc_command.specs.declared.ending.End.{End}
use Rattle.eqc_command.specs.declared.ending.End.TheVariants.{Reported, Helped, Failed, BadWords}
use Rattle.eqc_command.specs.declared.source.Source.{Source}
use Rattle.eqc_command.specs.declared.source.Sources.{Sources}

-- the exit status
abbrev pub status_code : End → ℕ
status_code (Reported Equivalent) = 0
status_code (Reported Differs) = 1
status_code (Reported Refused) = 2
status_code (Reported Stopped) = 3
status_code (Reported Vacuous) = 6
status_code Helped = 0
status_code (Failed fault) = 4
status_code (BadWords error) = 5

-- `fault CODE`
abbrev pub fault_text : RunFault → List ℕ
fault_text fault = codes "fault " ++ decimal (fault_code fault) ++ 10 ∷ []

-- some bytes were written
abbrev pub Grows : Option (List ℕ) → Option (List ℕ) → Type 0
Grows old new = (text : List ℕ) × Appends old new text

-- what standard error gets behind the warnings: a fault's line or a part of it, some text on a bad
-- command line, else nothing
abbrev pub IsTold : End → Option (List ℕ) → Option (List ℕ) → Type 0
IsTold (Reported status) old new = new ≡ old
IsTold Helped old new = new ≡ old
IsTold (Failed fault) old new = AppendsPrefix old new (fault_text fault)
IsTold (BadWords error) old new = Grows old new

-- the names that are asked for
abbrev pub names_of : Request → NamesOf
names_of request = record {
  first = option_map (λ s. s.now) request.first_model;
  second =
      option_map (λ s. s.now) request.second_model;
}

-- what a run is given by a request and its sources
abbrev pub given_by : {R F : Type 0} → Request → Sources R F → Given (Source R F)
given_by request sources =
    record {
      texts = sources.texts;
      names = names_of request;
      order = sources.order;
      assume =
          sources.assume;
      outputs = map (λ s. s.now) request.outputs.items;
      options =
          request.options;
    }

-- a run on what it is given, by what it answers and what it wrote
pub record IsRun {R : Type 0} (remaining : R → Option (List ℕ)) (given : Given R)
    (old new : Option (List ℕ)) (result : Result Finished RunFault) : Type 0 where
  pub answered : IfOk result (λ finished. IsAnswered remaining given old new finished.status)
  pub warned : IfOk result (λ finished. IsWarned remaining given finished.status finished.warnings)
  pub write : result ≡ Err run_fault.Write → IsCutOff remaining given old new
  pub read : result ≡ Err run_fault.Read → new ≡ old
  pub memory : IfErr result (λ fault. fault ≢ run_fault.Memory)

-- the sources that are asked for were opened, and the run on them wrote
pub record IsRunOn {R F : Type 0} (request : Request) (input : R) (Writes : Given (Source R F)
    → Type 0) : Type 0 where
  pub sources : Sources R F
  pub opened : AreAskedFor request input sources
  pub writes : Writes (given_by request sources)

-- whether it is asked for why there is no verdict, or for where differences begin
abbrev pub is_explained : Request → Bool
is_explained request = request.explain || request.locate

-- standard error got some text, where an explanation is asked for, or places of differences are
abbrev pub MayBeExplained : Bool → Option (List ℕ) → Option (List ℕ) → Type 0
MayBeExplained false old new = new ≡ old
MayBeExplained true old new = Grows old new

-- a run wrote its report, and standard error got its warnings, and behind them what is explained
pub record IsReported {R : Type 0} (remaining : R → Option (List ℕ)) (request : Request)
    (given : Given R) (old new err_old err_new : Option (List ℕ)) (status : Status) : Type 0 where
  pub answered : IsAnswered remaining given old new status
  pub warnings : Warnings
  pub warned : IsWarned remaining given status warnings
  pub err : Option (List ℕ)
  pub told : IsToldOf (warnings_text request warnings) err_old err
  pub explained : MayBeExplained (is_explained request) err err_new

-- an end of a run: no report is written where a file can't be opened or a read fails, and a part of
-- it where a write
-- fails
abbrev pub IsRunEnd : {R F : Type 0} → (R → Option (List ℕ)) → (F → Option (List ℕ)) → Request → R
    → Option (List ℕ) → Option (List ℕ) → Option (List ℕ) → Option (List ℕ) → End → Type 0
IsRunEnd input_remaining file_remaining request input old new err_old err_new (Reported status) =
    IsRunOn request input (λ given. IsReported (source_remaining input_remaining file_remaining)
    request given old new err_old err_new status)
IsRunEnd input_remaining file_remaining request input old new err_old err_new Helped = ⊥
IsRunEnd input_remaining file_remaining request input old new err_old err_new
    (Failed run_fault.Memory) = ⊥
IsRunEnd input_remaining file_remaining request input old new err_old err_new
    (Failed run_fault.Read) = (new ≡ old) × MayBeExplained (is_explained request) err_old err_new
IsRunEnd input_remaining file_remaining request input old new err_old err_new
    (Failed run_fault.Write) =
    IsRunOn request input (λ given. IsCutOff (source_remaining input_remaining file_remaining) given
    old new) × MayBeExplained (is_explained request) err_old err_new
IsRunEnd input_remaining file_remaining request input old new err_old err_new (BadWords error) = ⊥

-- a request for help or for the version
abbrev pub IsShowing : ErrorKind → Type 0
IsShowing kind = (kind ≡ DisplayHelp) ⊎ (kind ≡ DisplayVersion)

-- an end of such a request
abbrev pub IsHelpEnd : Option (List ℕ) → Option (List ℕ) → End → Type 0
IsHelpEnd old new (Reported status) = ⊥
IsHelpEnd old new Helped = Grows old new
IsHelpEnd old new (Failed fault) = (fault ≡ run_fault.Write) × Grows old new
IsHelpEnd old new (BadWords error) = (kind_of error ≡ OutOfMemory) × (new ≡ old)

-- an end of the program: the words ask for a run, or for help or the version, or they are a bad
-- command line
pub data IsEnd {R F : Type 0} (input_remaining : R → Option (List ℕ)) (file_remaining : F
    → Option (List ℕ)) (words : List Text) (input : R)
    (old new err_old err_new : Option (List ℕ)) (end : End) : Type 0 where
  of_run : (request : Request) → fault_of eqc_app words ≡ [] → IsAsked (rows_asked words) request
      → IsRunEnd input_remaining file_remaining request input old new err_old err_new end
      → IsEnd input_remaining file_remaining words input old new err_old err_new end
  of_help : (kind : ErrorKind) → IsShowing kind → IsAmong kind (fault_of eqc_app words)
      → IsHelpEnd old new end → err_new ≡ err_old
      → IsEnd input_remaining file_remaining words input old new err_old err_new end
  of_bad_words : (error : Error) → end ≡ BadWords error → (IsShowing (kind_of error) → ⊥)
      → HasKind (fault_of eqc_app words) error
      → new ≡ old → err_new ≡ err_old → IsEnd input_remaining file_remaining words input old new
      err_old err_new end

-- the program ended, was told of behind its warnings, and has its status
pub record IsDone {R F : Type 0} (input_remaining : R → Option (List ℕ)) (file_remaining : F
    → Option (List ℕ)) (words : List Text) (input : R)
    (old new err_old err_new : Option (List ℕ)) (code : ℕ) : Type 0 where
  pub end : End
  pub warned : Option (List ℕ)
  pub ended : IsEnd input_remaining file_remaining words input old new err_old warned end
  pub told : IsTold end warned err_new
  pub status : code ≡ status_code end
