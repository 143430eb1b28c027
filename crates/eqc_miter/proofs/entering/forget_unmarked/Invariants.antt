use Rattle.std.specs.Prelude.{List}
use Rattle.eqc_xag.specs.declared.node.Node.{Node}
use Rattle.eqc_build.specs.Steps.{StepsOf}
use Rattle.eqc_literals.specs.Literals.{IsInside}
use Rattle.eqc_miter.proofs.entering.forget_unmarked.Given as goal

abbrev pub invariant-loop-step : goal.invariant-loop-step
invariant-loop-step l = (g : StepsOf) (nodes : List Node) → IsInside g nodes l.fn.literals.items
    → IsInside g nodes l.literals.items
