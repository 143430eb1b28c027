-- What is at fault in two netlists that make no pair, or in what is given for them: names of
-- outputs, an order text, an
-- assumption.
use Rattle.std.specs.Prelude.{◌≡◌, ℕ, ◌<◌, not, List, [], length, filter, take, Option, Some, None}
use Rattle.std.specs.Option.{option_map_or}
use Rattle.eqc_netlist.specs.Names.{is_named}
use Rattle.eqc_netlist.specs.Names.{StandsTwice}
use Rattle.eqc_netlist.specs.Graph.{FlatOf}
use Rattle.eqc_pair.specs.Matched.{order_words, order_code}
use Rattle.eqc_pair.specs.PairOf.{pair_refusal, pair_refused, order_refused, assumption_refusal}
use Rattle.eqc_pair.specs.PairOf.{assumption_refused}
use Rattle.eqc_pair.specs.declared.finding.Finding.{Finding}
use Rattle.eqc_pair.specs.declared.finding.Finding.TheVariants.{OtherInputs, OtherOutputs}
use Rattle.eqc_pair.specs.declared.finding.Finding.TheVariants.{UnknownOutputs, OrderTooLong}
use Rattle.eqc_pair.specs.declared.finding.Finding.TheVariants.{UnknownWords, WordTwice}
use Rattle.eqc_pair.specs.declared.finding.Finding.TheVariants.{InputsLeftOut, UnknownInputs}
use Rattle.eqc_pair.specs.declared.finding.Finding.TheVariants.{OutputCount}

-- the names that others lack, in order
abbrev pub unmatched : List (List ℕ) → List (List ℕ) → List (List ℕ)
unmatched others names = filter (λ name. not (is_named others name)) names

-- the first ten of some names, and how many they are
abbrev pub AreCut : List (List ℕ) → List (List ℕ) × ℕ → Type 0
AreCut names found = (found.0 ≡ take 10 names) × (found.1 ≡ length names)

-- of the names that others lack the first ten, and how many they are
abbrev pub AreUnmatched : List (List ℕ) → List (List ℕ) → List (List ℕ) × ℕ → Type 0
AreUnmatched others names found = AreCut (unmatched others names) found

-- the words of an order text; there are none without a text
abbrev pub words_of : Option (List ℕ) → List (List ℕ)
words_of order = option_map_or order_words order []

-- what is named holds of the two netlists, the names of outputs and the order text, which are
-- refused for it
abbrev pub IsAtFault : FlatOf → FlatOf → List (List ℕ) → Option (List ℕ) → Finding → Type 0
IsAtFault f g names order (OtherInputs first second) =
    (pair_refusal f g names order ≡ Some (pair_refused 41)) × AreUnmatched g.inputs f.inputs first
    × AreUnmatched f.inputs g.inputs second
IsAtFault f g names order (OtherOutputs first second) =
    (pair_refusal f g names order ≡ Some (pair_refused 42)) × AreUnmatched g.outputs f.outputs first
    × AreUnmatched f.outputs g.outputs second
IsAtFault f g names order (UnknownOutputs unknown) =
    (pair_refusal f g names order ≡ Some (pair_refused 43)) × AreUnmatched f.outputs names unknown
IsAtFault f g names order (OrderTooLong bytes limit) =
    (pair_refusal f g names order ≡ Some (order_refused 2)) × (bytes ≡ option_map_or length order 0)
    × (limit ≡ 16777216) × (limit < bytes)
IsAtFault f g names order (UnknownWords words) =
    (pair_refusal f g names order ≡ Some (order_refused 51))
    × AreUnmatched f.inputs (words_of order) words
IsAtFault f g names order (WordTwice word) =
    (pair_refusal f g names order ≡ Some (order_refused 52)) × StandsTwice (words_of order) word.now
IsAtFault f g names order (InputsLeftOut inputs) =
    (pair_refusal f g names order ≡ Some (order_refused 53))
    × AreUnmatched (words_of order) f.inputs inputs
IsAtFault f g names order (UnknownInputs inputs) = ⊥
IsAtFault f g names order (OutputCount count) = ⊥

-- what is at fault, or none where nothing is refused
abbrev pub IsExplained : FlatOf → FlatOf → List (List ℕ) → Option (List ℕ) → Option Finding → Type 0
IsExplained f g names order None = pair_refusal f g names order ≡ None
IsExplained f g names order (Some finding) = IsAtFault f g names order finding

-- what is at fault in an assumption over these inputs, or none where it is taken
abbrev pub IsAssumptionExplained : List (List ℕ) → FlatOf → Option Finding → Type 0
IsAssumptionExplained inputs h None = assumption_refusal inputs h ≡ None
IsAssumptionExplained inputs h (Some (UnknownInputs unknown)) =
    (assumption_refusal inputs h ≡ Some (assumption_refused 61))
    × AreUnmatched inputs h.inputs unknown
IsAssumptionExplained inputs h (Some (OutputCount count)) =
    (assumption_refusal inputs h ≡ Some (assumption_refused 62)) × (count ≡ length h.outputs)
IsAssumptionExplained inputs h (Some finding) = ⊥

-- what is at fault in an order text over these inputs, or none where it is taken
abbrev pub IsOrderExplained : List (List ℕ) → List ℕ → Option Finding → Type 0
IsOrderExplained inputs text None = order_code inputs text ≡ None
IsOrderExplained inputs text (Some (OrderTooLong bytes limit)) = (order_code inputs text ≡ Some 2)
    × (bytes ≡ length text) × (limit ≡ 16777216) × (limit < bytes)
IsOrderExplained inputs text (Some (UnknownWords words)) = (order_code inputs text ≡ Some 51)
    × AreUnmatched inputs (order_words text) words
IsOrderExplained inputs text (Some (WordTwice word)) = (order_code inputs text ≡ Some 52)
    × StandsTwice (order_words text) word.now
IsOrderExplained inputs text (Some (InputsLeftOut names)) = (order_code inputs text ≡ Some 53)
    × AreUnmatched (order_words text) inputs names
IsOrderExplained inputs text (Some finding) = ⊥
