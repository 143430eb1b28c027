-- Which texts are opened for what a command line asks for.
use Rattle.std.specs.Prelude.{◌≡◌, ℕ, List, Option, Some, None}
use Rattle.std.specs.Borrow.{Bor}
use Rattle.eqc_case.specs.declared.given.Texts.{Texts}
use Rattle.eqc_case.specs.declared.given.Texts.TheVariants.{One, Two}
use Rattle.eqc_words.specs.declared.command_line.Request.{Request}
use Rattle.eqc_command.specs.declared.source.Source.{Source}
use Rattle.eqc_command.specs.declared.source.Source.TheVariants.{Input, File}
use Rattle.eqc_command.specs.declared.source.Sources.{Sources}

-- the bytes that a source has left
abbrev pub source_remaining : {R F : Type 0} → (R → Option (List ℕ)) → (F → Option (List ℕ))
    → Source R F → Option (List ℕ)
source_remaining input_remaining file_remaining (Input input) = input_remaining input
source_remaining input_remaining file_remaining (File path file) = file_remaining file

-- the source is the file of a path
abbrev pub IsFileOf : {R F : Type 0} → Bor (List ℕ) → Source R F → Type 0
IsFileOf wanted (Input input) = ⊥
IsFileOf wanted (File path file) = path ≡ wanted

-- a source that may not be wanted
abbrev pub MayBeFileOf : {R F : Type 0} → Option (Bor (List ℕ)) → Option (Source R F) → Type 0
MayBeFileOf None None = Unit {0}
MayBeFileOf None (Some source) = ⊥
MayBeFileOf (Some wanted) None = ⊥
MayBeFileOf (Some wanted) (Some source) = IsFileOf wanted source

-- the texts of one path or of two
abbrev pub AreFilesOf : {R F : Type 0} → Bor (List ℕ) → Option (Bor (List ℕ)) → Texts (Source R F)
    → Type 0
AreFilesOf first None (One text) = IsFileOf first text
AreFilesOf first None (Two text other) = ⊥
AreFilesOf first (Some second) (One text) = ⊥
AreFilesOf first (Some second) (Two text other) = IsFileOf first text × IsFileOf second other

-- without a path the text is the input
abbrev pub AreTextsOf : {R F : Type 0} → Option (Bor (List ℕ)) → Option (Bor (List ℕ)) → R
    → Texts (Source R F) → Type 0
AreTextsOf None second input texts = texts ≡ One (Input input)
AreTextsOf (Some first) second input texts = AreFilesOf first second texts

-- the texts, the order text and the assumption's are those that are asked for
pub record AreAskedFor {R F : Type 0} (request : Request) (input : R) (sources : Sources R F) : Type
    0 where
  pub texts : AreTextsOf request.first request.second input sources.texts
  pub order : MayBeFileOf request.order sources.order
  pub assume : MayBeFileOf request.assume sources.assume
