-- From a parse of the command line to what its words ask for.
use Rattle.std.proofs.Common.{◌≡◌, ◌∙◌, ap, ap₂, sym, subst, refl, true, false, Bool, codes, ℕ}
use Rattle.std.proofs.Common.{List, [], Option, Some, None, option_map}
use Rattle.std.specs.Prelude.{Result, Ok, IfSome, find, unwrap_or}
use Rattle.std.specs.Option.{option_map_or}
use Rattle.std.specs.Str.{bytes_eq}
use Rattle.std.specs.Str.Parse.{ParsesUnsigned, digits_value, without_leading_plus}
use Rattle.clap.specs.Faults.{fault_of, is_simple_and_free}
use Rattle.clap.specs.Built.{AddsArg}
use Rattle.clap.specs.Kinds.{HasKind}
use Rattle.clap.specs.declared.error.Error.{Error}
use Rattle.clap.specs.Matches.{found_of, matched_of, one_text, raw_values, ReadsOne}
use Rattle.clap.specs.Facts.{Entry}
use Rattle.clap.specs.Simple.{App, HasMatchesOf, app_of, is_simple, matches_of, with_rule}
use Rattle.clap.specs.Walk.{Row, Rule, Text, row_of, rows_of, rule_of, one_of}
use Rattle.clap.specs.declared.builder.arg.Arg.{Arg}
use Rattle.clap.specs.declared.builder.command.Command.{Command}
use Rattle.clap.specs.declared.parser.matches.ArgMatches.{ArgMatches}
use Rattle.clap.specs.declared.parser.matches.Found.{Found}
use Rattle.clap.proofs.OnLiterals.{clap_on_literals}
use Rattle.clap.proofs.WalkLemmas.{find_row, one_text-rows}
use Rattle.eqc_words.specs.CommandLine.{eqc_app, number_of, all_of, rows_asked, IsAsked, IsFlag}
use Rattle.eqc_words.specs.declared.command_line.Request.{Request}

-- clap's definitions say what the command line's matches are
pub app_is_simple : is_simple eqc_app ≡ true
unfolding clap_on_literals
app_is_simple = refl

-- and how a bad one fails
pub app_is_free : is_simple_and_free eqc_app ≡ true
unfolding clap_on_literals
app_is_free = refl

-- one more argument of a command
pub arg_added : (old new : Command) (arg : Arg) (a : App) (r : Rule) → AddsArg old arg new
    → arg.global ≡ false
    → app_of old ≡ a → rule_of arg ≡ r → app_of new ≡ with_rule a r
arg_added old new arg a r adds own is rule = adds.shape own ∙ ap₂ with_rule is rule

-- what the matches of a parse ask for, the words ask for
pub words_ask : (a : App) (words : List Text) (m : ArgMatches) (request : Request) → a ≡ eqc_app
    → HasMatchesOf a words m
    → IsAsked (rows_of (found_of m)) request → IsAsked (rows_asked words) request
unfolding rows_asked
words_ask a words m request is has asked =
    subst (λ rows. IsAsked rows request) ((has (ap is_simple is ∙ app_is_simple)).0
    ∙ ap (λ b. matches_of b words) is) asked

-- words that were parsed are a command line
pub words_taken : (a : App) (words : List Text) → a ≡ eqc_app → (is_simple_and_free a ≡ true
    → fault_of a words ≡ [])
    → fault_of eqc_app words ≡ []
words_taken a words is taken = subst (λ b. fault_of b words ≡ []) is
    (taken (ap is_simple_and_free is ∙ app_is_free))

-- and a bad one fails as its words say
pub words_refused : (a : App) (words : List Text) (error : Error) → a ≡ eqc_app
    → (is_simple_and_free a ≡ true → HasKind (fault_of a words) error)
    → HasKind (fault_of eqc_app words) error
words_refused a words error is refused = subst (λ b. HasKind (fault_of b words) error) is
    (refused (ap is_simple_and_free is ∙ app_is_free))

-- a number that was read is the option's
pub number_read : {E : Type 0} (G : List ℕ → Result ℕ E → Type 0) (f : Found) (name : List ℕ)
    (r : Option ℕ)
    → (one_text f name ≡ None → r ≡ None) → ((t : List ℕ) → one_text f name ≡ Some t
    → ReadsOne G t r)
    → ((u : List ℕ) (x : Result ℕ E) → G u x → ParsesUnsigned 32 10 u x)
    → IfSome r (λ n. number_of name (rows_of f) ≡ Some n)
number_read {E} G f name r none value only = go (one_text f name) refl r none value
  where
    go : (o : Option (List ℕ)) → one_text f name ≡ o → (q : Option ℕ) → (o ≡ None → q ≡ None)
        → ((t : List ℕ) → o ≡ Some t → ReadsOne G t q) → IfSome q (λ n. number_of name (rows_of f)
        ≡ Some n)
    go None e None absent given = tt
    go None e (Some n) absent given =
        let bad : Some n ≡ None = absent refl in
        cc
    go (Some t) e None absent given = tt
    go (Some t) e (Some n) absent given =
        ap (option_map (λ s. digits_value 10 (without_leading_plus s))) (sym (one_text-rows f name)
        ∙ e)
        ∙ ap Some (sym ((only t (Ok n) (given t refl)).1))

-- a flag that was read is given where its words say so
pub flag_read : (f : Found) (name : List ℕ) (given : Bool) → (one_text f name ≡ None
    → given ≡ false)
    → (one_text f name ≡ Some (codes "true") → given ≡ true)
    → (one_text f name ≡ Some (codes "false") → given ≡ false)
    → IsFlag (one_of name (rows_of f)) given
flag_read f name given none true_is false_is = subst (λ (o : Option Text). IsFlag o given)
    (one_text-rows f name) (go (one_text f name) refl)
  where
    go : (o : Option Text) → one_text f name ≡ o → IsFlag o given
    go None e = none e
    go (Some t) e = (λ is. true_is (e ∙ ap Some is), λ is. false_is (e ∙ ap Some is))

-- all values of an option, by its row
all_by_rows : (f : Found) (name : List ℕ) → all_of name (rows_of f)
    ≡ unwrap_or (option_map raw_values (matched_of f name)) []
all_by_rows f name = ap (λ (o : Option Row). option_map_or (λ (r : Row). r.values) o [])
    (find_row f.entries.items name)
    ∙ go (find (λ (e : Entry). bytes_eq e.0.now name) f.entries.items)
  where
    go : (o : Option Entry) → option_map_or (λ (r : Row). r.values) (option_map row_of o) []
        ≡ unwrap_or (option_map raw_values (option_map (λ e. e.1) o)) []
    go None = refl
    go (Some e) = refl

pub all_read : (f : Found) (name : List ℕ) (given : Option (List (List ℕ)))
    → given ≡ option_map raw_values (matched_of f name) → unwrap_or given []
    ≡ all_of name (rows_of f)
all_read f name given e = ap (λ (o : Option (List (List ℕ))). unwrap_or o []) e
    ∙ sym (all_by_rows f name)
