-- Questions about pairs of literals that may be equal, and what is answered.
use Rattle.std.specs.Prelude.{◌≡◌, ◌%◌, List, Option, IfSome}
use Rattle.std.specs.List.{All, Contains}
use Rattle.eqc_xag.specs.declared.node.Node.{Node}
use Rattle.eqc_cdcl.specs.declared.search.Answer.TheVariants.{Refuted}
use Rattle.eqc_sweep.specs.Finding.{AreEqual, IsOlder}
use Rattle.eqc_sweep.specs.declared.finder.team.Answered.{Answered}
use Rattle.eqc_sweep.specs.declared.finder.team.Merge.{Merge}
use Rattle.eqc_sweep.specs.declared.finder.twins.Twins.{Twins}

-- the literal of a node, and one of an older node that has the same value under each assignment
pub record IsMerge (nodes : List Node) (m : Merge) : Type 0 where
  pub plain : m.new % 2 ≡ 0
  pub older : IsOlder nodes m.new m.older

-- what is asked about is answered by a refutation only where it is equal
pub record IsAnswerIn (nodes : List Node) (a : Answered) : Type 0 where
  pub right : a.answer ≡ Refuted → AreEqual nodes a.question.new a.question.older

abbrev pub AreAnswersIn : List Node → List Answered → Type 0
AreAnswersIn nodes all = All (IsAnswerIn nodes) all

-- the same of answers, where there are some
abbrev pub ArePlacedIn : List Node → List (Option Answered) → Type 0
ArePlacedIn nodes all = All (λ x. IfSome x (IsAnswerIn nodes)) all

-- the two literals of a pair have the same value under each assignment
pub record IsTwin (nodes : List Node) (t : Twins) : Type 0 where
  pub equal : AreEqual nodes t.x t.y

-- a pair is one of these, as its caller knows it, whatever it took
pub record IsAsked (pairs : List Twins) (t : Twins) : Type 0 where
  pub pair : Twins
  pub among : Contains pairs pair
  pub place : t.place ≡ pair.place
  pub first : t.x ≡ pair.x
  pub second : t.y ≡ pair.y
