-- What is asked of a pair in the graph of its steps, and what is found of it, without a diagram.
use Rattle.std.specs.Prelude.{◌≡◌, ◌⊎◌, ℕ, ◌<◌, Bool, List, [], ◌∷◌, length, map}
use Rattle.std.specs.Prelude.{slice_index_or, Contains, Option, None, ⊤}
use Rattle.eqc_xag.specs.declared.node.Node.{Node}
use Rattle.eqc_sweep.specs.Sweeping.{HasValue}
use Rattle.eqc_witness.specs.declared.witness.Witness.{Witness}
use Rattle.eqc_witness.specs.Witnesses.{IsFoundOf}
use Rattle.eqc_pair.specs.PairOf.{PairOf}
use Rattle.eqc_build.specs.Building.{reference_of}
use Rattle.eqc_build.specs.Steps.{StepsOf, goals_of}
use Rattle.eqc_compare.specs.Verdict.{allows_none, differs_under}
use Rattle.eqc_compare.specs.Comparing.{netlist_of, assumption_of, allowed_at, differs_at}
use Rattle.eqc_miter.specs.declared.asking.Question.{Question}
use Rattle.eqc_miter.specs.declared.asking.Answer.{Answer}

-- a literal is true where the assumption allows the values of the variables
abbrev pub SaysAllowed : PairOf → List Node → ℕ → Type 0
SaysAllowed p nodes l = HasValue nodes l (allowed_at p)

-- a literal is true where an output differs
abbrev pub SaysDifferent : PairOf → List Node → ℕ → ℕ → Type 0
SaysDifferent p nodes output l = HasValue nodes l (differs_at p output)

-- whether the assumption allows no assignment is told
abbrev pub TellsVacuous : PairOf → Bool → Type 0
TellsVacuous p none = none ≡ allows_none (netlist_of p.first) (assumption_of p)

-- what is found of the assignments under which the output at a position differs: the least, or that
-- there is none, or any
abbrev pub IsWitnessAt : PairOf → ℕ → Witness → Type 0
IsWitnessAt p output found = IsFoundOf (length p.first.inputs) (differs_under (netlist_of p.first)
    (netlist_of p.second) (assumption_of p) (slice_index_or p.first.outputs output [])) found

-- an output is asked for by a literal that is true where it differs
pub record IsQuestionOf (p : PairOf) (nodes : List Node) (q : Question) : Type 0 where
  pub within : q.output < length p.first.outputs
  pub says : SaysDifferent p nodes q.output q.literal

-- these are some of the elements of a list, in its order
abbrev pub AreSomeOf : List ℕ → List ℕ → Type 0
AreSomeOf some [] = some ≡ []
AreSomeOf [] (x ∷ xs) = ⊤
AreSomeOf (y ∷ some) (x ∷ xs) = ((y ≡ x) × AreSomeOf some xs) ⊎ AreSomeOf (y ∷ some) xs

-- the outputs that are asked for
abbrev pub outputs_asked : List Question → List ℕ
outputs_asked questions = map (λ (q : Question). q.output) questions

-- a step that the comparison of an output needs has no literal
pub record LacksLiteral (g : StepsOf) (literals : List (Option ℕ)) (output : ℕ) : Type 0 where
  pub step : ℕ
  pub needed : Contains (goals_of g output) step
  pub none : reference_of literals step ≡ None

-- an output is asked for, or lacks a literal
abbrev pub IsAskedIn : StepsOf → List (Option ℕ) → List Question → ℕ → Type 0
IsAskedIn g literals questions output = Contains (outputs_asked questions) output
    ⊎ LacksLiteral g literals output

-- what is found of an output that was asked for
abbrev pub IsAnswerOf : PairOf → Answer → Type 0
IsAnswerOf p a = IsWitnessAt p a.output a.witness
