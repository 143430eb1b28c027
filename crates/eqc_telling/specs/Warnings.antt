-- The warnings on standard error: a model is compared that another model of its text contains.
use Rattle.std.specs.Prelude.{◌≡◌, ℕ, List, [], ◌++◌, ◌∷◌, codes, Option, Some, None}
use Rattle.std.specs.Borrow.{Bor}
use Rattle.eqc_case.specs.declared.warning.Contained.{Contained}
use Rattle.eqc_case.specs.declared.warning.Warnings.{Warnings}
use Rattle.eqc_report.specs.Ends.{AppendsPrefix}
use Rattle.eqc_words.specs.declared.command_line.Request.{Request}

-- a path, or another name where there is none
abbrev pub path_or : List ℕ → Option (Bor (List ℕ)) → List ℕ
path_or other None = other
path_or other (Some path) = path.now

-- what the texts of the first and the second model are called: by their paths, or as standard input
abbrev pub first_source : Request → List ℕ
first_source request = path_or (codes "standard input") request.first

abbrev pub second_source : Request → List ℕ
second_source request = path_or (first_source request) request.second

-- `eqc: warning: SOURCE: model 'MODEL' is compared, which model 'CONTAINER' contains`
abbrev pub warning_line : List ℕ → Contained → List ℕ
warning_line source contained =
    codes "eqc: warning: " ++ source ++ codes ": model '" ++ contained.model
    ++ codes "' is compared, which model '" ++ contained.container ++ codes "' contains" ++ 10
    ∷ []

abbrev pub warning_lines : List ℕ → Option Contained → List ℕ
warning_lines source None = []
warning_lines source (Some contained) = warning_line source contained

abbrev pub warnings_text : Request → Warnings → List ℕ
warnings_text request warnings = warning_lines (first_source request) warnings.first
    ++ warning_lines (second_source request) warnings.second

-- a text was told, or a part of it, and nothing where it is empty
pub record IsToldOf (text : List ℕ) (old new : Option (List ℕ)) : Type 0 where
  pub part : AppendsPrefix old new text
  pub nothing : text ≡ [] → new ≡ old
