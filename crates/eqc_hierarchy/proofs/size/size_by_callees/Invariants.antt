use Rattle.std.proofs.Common.{◌+◌, length, take}
use Rattle.std.specs.List.{sum_by}
use Rattle.eqc_hierarchy.specs.Hierarchy.{model, callees}
use Rattle.eqc_hierarchy.specs.Signals.{names_of}
use Rattle.eqc_hierarchy.specs.Sizes.{IsTold, model_size}
use Rattle.eqc_hierarchy.proofs.size.size_by_callees.Given as goal

abbrev pub invariant-callees : goal.invariant-callees
invariant-callees l = IsTold l.size (length (names_of (model l.calls l.m))
    + sum_by (λ c. model_size l.calls c + 1) (take l.callee-index (callees l.calls l.m)))
