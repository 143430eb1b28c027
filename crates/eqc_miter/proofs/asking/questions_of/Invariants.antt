use Rattle.std.specs.Prelude.{take}
use Rattle.std.specs.List.{All}
use Rattle.eqc_literals.specs.Literals.{IsInside}
use Rattle.eqc_miter.specs.Asking.{AreSomeOf, IsAskedIn, IsQuestionOf, outputs_asked}
use Rattle.eqc_miter.proofs.asking.questions_of.Given as goal

abbrev pub invariant-loop-k : goal.invariant-loop-k
invariant-loop-k l =
    IsInside l.steps l.sweep l.literals
    × All (IsQuestionOf l.steps.pair l.sweep) l.all.items
    × AreSomeOf (outputs_asked l.all.items) (take l.k l.outputs)
    × All (IsAskedIn l.steps l.literals l.all.items) (take l.k l.outputs)
