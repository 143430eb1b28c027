-- The command line as `clap` takes it, and what its words ask for.
use Rattle.std.specs.Prelude.{◌≡◌, ℕ, Bool, true, false, None, pos, List, [], ◌∷◌, map, find, codes}
use Rattle.std.specs.Prelude.{Option, Some, option_map}
use Rattle.std.specs.Option.{option_map_or}
use Rattle.std.specs.Str.{bytes_eq}
use Rattle.std.specs.Str.Parse.{digits_value, without_leading_plus}
use Rattle.clap.specs.Walk.{Rule, Row, Text, first_of, one_of}
use Rattle.clap.specs.Simple.{App, matches_of, new_app, new_rule, on_top, with_rule}
use Rattle.clap.specs.declared.builder.value_parser.ValueParser.TheVariants.{Signed}
use Rattle.clap.specs.declared.builder.action.ArgAction.TheVariants.{Append, SetTrue}
use Rattle.eqc_words.specs.declared.command_line.Request.{Request}

-- an option with a number of 32 bits
abbrev pub number_rule : Text → Text → Rule
number_rule name default = record (new_rule name) {
  long = Some name;
  value_names = 1;
  defaults = default ∷ [];
  parser = Some (Signed (pos 0) (pos 4294967295));
}

-- a path without an option's name
abbrev pub path_rule : Text → Rule
path_rule name = record (new_rule name) { value_names = 1 }

-- an option with a text: a path or a name
abbrev pub text_rule : Text → Rule
text_rule name = record (path_rule name) { long = Some name }

-- an option with a text that may be given as often as wanted
abbrev pub names_rule : Text → Rule
names_rule name = record (text_rule name) { action = Some Append }

-- an option without a value
abbrev pub flag_rule : Text → Rule
flag_rule name = record (new_rule name) { long = Some name; action = Some SetTrue }

-- whether an option without a value was given, by what `clap` finds of it
abbrev pub IsFlag : Option Text → Bool → Type 0
IsFlag None given = given ≡ false
IsFlag (Some t) given = (t ≡ codes "true" → given ≡ true) × (t ≡ codes "false" → given ≡ false)

-- a command line that can be asked for its version
abbrev pub with_version : App → App
with_version a = on_top (λ s. record s { has_version = true }) a

-- options with a number
abbrev pub with_numbers : App → App
with_numbers a =
    with_rule
    (with_rule (with_rule (with_rule (with_rule (with_rule (with_rule a
    (number_rule (codes "workers") (codes "2")))
    (number_rule (codes "nodes") (codes "65536")))
    (number_rule (codes "cells") (codes "8192")))
    (number_rule (codes "forks") (codes "0")))
    (number_rule (codes "conflicts") (codes "100000")))
    (number_rule (codes "inputs") (codes "2048")))
    (number_rule (codes "bytes") (codes "16777216"))

-- the paths of the order text and the assumption, whether each difference is wanted, names of
-- outputs, and the names of two models
abbrev pub with_choices : App → App
with_choices a =
    with_rule
    (with_rule (with_rule (with_rule (with_rule (with_rule a
    (text_rule (codes "order")))
    (text_rule (codes "assume")))
    (flag_rule (codes "all")))
    (names_rule (codes "output")))
    (text_rule (codes "first-model")))
    (text_rule (codes "second-model"))

-- whether to explain, whether to tell where differences begin, whether to show how far the run is,
-- and at most two paths
abbrev pub with_files : App → App
with_files a =
    with_rule
    (with_rule (with_rule (with_rule (with_rule a
    (flag_rule (codes "explain")))
    (flag_rule (codes "locate")))
    (flag_rule (codes "progress")))
    (path_rule (codes "first")))
    (path_rule (codes "second"))

-- the command line of the program
abbrev pub eqc_app : App
eqc_app = with_files (with_choices (with_numbers (with_version (new_app (codes "eqc")))))

-- what `clap` finds in the words
unfoldable pub rows_asked : List Text → List Row
rows_asked words = matches_of eqc_app words

-- the number of an option
abbrev pub number_of : Text → List Row → Option ℕ
number_of name rows = option_map (λ t. digits_value 10 (without_leading_plus t)) (one_of name rows)

-- all values of an option, of all its uses
abbrev pub all_of : Text → List Row → List Text
all_of name rows = option_map_or (λ (r : Row). r.values) (find (λ (r : Row). bytes_eq r.id name)
    rows) []

-- what the matches of a command line ask for
pub record IsAsked (rows : List Row) (request : Request) : Type 0 where
  pub workers : number_of (codes "workers") rows ≡ Some request.options.workers
  pub nodes : number_of (codes "nodes") rows ≡ Some request.options.nodes
  pub cells : number_of (codes "cells") rows ≡ Some request.options.cells
  pub forks : number_of (codes "forks") rows ≡ Some request.options.forks
  pub conflicts : number_of (codes "conflicts") rows ≡ Some request.options.conflicts
  pub inputs : number_of (codes "inputs") rows ≡ Some request.options.inputs
  pub bytes : number_of (codes "bytes") rows ≡ Some request.options.bytes
  pub explain : IsFlag (one_of (codes "explain") rows) request.explain
  pub locate : IsFlag (one_of (codes "locate") rows) request.locate
  pub progress : IsFlag (one_of (codes "progress") rows) request.progress
  pub every : IsFlag (one_of (codes "all") rows) request.options.every
  pub order : option_map (λ s. s.now) request.order ≡ first_of (codes "order") rows
  pub assume : option_map (λ s. s.now) request.assume ≡ first_of (codes "assume") rows
  pub outputs : map (λ s. s.now) request.outputs.items ≡ all_of (codes "output") rows
  pub first_model : option_map (λ s. s.now) request.first_model ≡ first_of (codes "first-model")
      rows
  pub second_model : option_map (λ s. s.now) request.second_model ≡ first_of (codes "second-model")
      rows
  pub first : option_map (λ s. s.now) request.first ≡ first_of (codes "first") rows
  pub second : option_map (λ s. s.now) request.second ≡ first_of (codes "second") rows
