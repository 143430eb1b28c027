-- What is read of what a run is given.
use Rattle.std.specs.Prelude.{◌≡◌, ◌≢◌, ℕ, List, Option, Some, None, IfSome, Vec}
use Rattle.std.specs.declared.alloc.Global.{Global}
use Rattle.std.specs.Option.{option_map}
use Rattle.eqc_case.specs.Answer.{GivenOf, read_texts}
use Rattle.eqc_case.specs.Reading.{bytes_read}
use Rattle.eqc_case.specs.declared.given.Given.{Given}
use Rattle.eqc_case.specs.declared.given.Texts.{Texts}
use Rattle.eqc_case.specs.declared.given.Texts.TheVariants.{One, Two}
use Rattle.eqc_case.specs.declared.given.Case.{Case}
use Rattle.eqc_pair.specs.declared.refused.Side.{Side}
use Rattle.eqc_pair.specs.declared.refused.Side.TheVariants as side

-- the bytes of a text that may be missing
abbrev pub items_of : Option (Vec ℕ Global) → Option (List ℕ)
items_of text = option_map (λ v. v.items) text

-- a case as what a run is given
abbrev pub given_of : Case → GivenOf
given_of case =
    record {
      texts = read_texts case.names case.first.items (items_of case.second);
      order =
          items_of case.order;
      assume = items_of case.assume;
      outputs = case.outputs;
      options =
          case.options;
    }

-- a text is the second of two
abbrev pub IsSecond : Case → List ℕ → Type 0
IsSecond case text = items_of case.second ≡ Some text

-- what is read of a reader whose bytes are known, where a text may have so many
abbrev pub IsRead : ℕ → Option (List ℕ) → List ℕ → Type 0
IsRead limit known text = IfSome known (λ bytes. text ≡ bytes_read limit bytes)

-- of one that may be missing
abbrev pub MayBeRead : {R : Type 0} → ℕ → (R → Option (List ℕ)) → Option R → Option (List ℕ)
    → Type 0
MayBeRead limit remaining None None = Unit {0}
MayBeRead limit remaining None (Some text) = ⊥
MayBeRead limit remaining (Some reader) None = ⊥
MayBeRead limit remaining (Some reader) (Some text) = IsRead limit (remaining reader) text

-- of one text, or of two
abbrev pub AreTextsRead : {R : Type 0} → ℕ → (R → Option (List ℕ)) → Texts R → List ℕ
    → Option (List ℕ) → Type 0
AreTextsRead limit remaining (One text) first second = IsRead limit (remaining text) first
    × (second ≡ None)
AreTextsRead limit remaining (Two text other) first second = IsRead limit (remaining text) first
    × MayBeRead limit remaining (Some other) second

-- of all that a run is given, where the text of a netlist may have so many bytes, and an order text
-- 16,777,216
pub record AreRead {R : Type 0} (limit : ℕ) (remaining : R → Option (List ℕ)) (given : Given R)
    (case : Case) : Type 0 where
  pub texts : AreTextsRead limit remaining given.texts case.first.items (items_of case.second)
  pub order : MayBeRead 16777216 remaining given.order (items_of case.order)
  pub assume : MayBeRead limit remaining given.assume (items_of case.assume)
  pub names : case.names ≡ given.names
  pub outputs : case.outputs ≡ given.outputs
  pub options : case.options ≡ given.options

-- a second text is given
abbrev pub AreTwo : {R : Type 0} → Texts R → Type 0
AreTwo (One text) = ⊥
AreTwo (Two text other) = Unit {0}

-- a run is given a text of this side, which may fail to be read
abbrev pub HasTextOf : {R : Type 0} → Given R → Side → Type 0
HasTextOf given side.First = Unit {0}
HasTextOf given side.Second = AreTwo given.texts
HasTextOf given side.Pair = ⊥
HasTextOf given side.Order = given.order ≢ None
HasTextOf given side.Assume = given.assume ≢ None
HasTextOf given side.Options = ⊥
