use Rattle.std.proofs.Common.{◌≡◌, Some, find, length, subst, sym}
use Rattle.eqc_tree.specs.Tree.{Tree, value}
use Rattle.eqc_tree.specs.Assigned.{assigned, assignments, DependsOnlyOn, IsSatisfiable}
use Rattle.eqc_apply.specs.Extending.{holding_of}
use Rattle.eqc_apply.proofs.Answering.{referred_tree, is_referenced, referenced_held, extends_stays}
use Rattle.eqc_apply.proofs.Answering.{stays_keeps, worker_stays}
use Rattle.eqc_apply.proofs.Kept.{cells_stay}
use Rattle.eqc_apply.proofs.diagrams.ApplierDiagrams.least.Goals as goal

pub least-requires-clause-held : goal.least-requires-clause-held
least-requires-clause-held g c = let n = c.args.self.now.names in
    referenced_held n c.args.f.now.name (is_referenced n c.args.f.now.at.value c.args.f.now.name
    c.requires.held)

pub least-requires-clause-within : goal.least-requires-clause-within
unfolding holding_of
least-requires-clause-within g c = c.requires.within

pub least-requires-clause-satisfiable : goal.least-requires-clause-satisfiable
least-requires-clause-satisfiable g c =
    let P : Tree → Type 0 = λ t. IsSatisfiable (value t) in
    subst P (referred_tree c.args.self.now.names c.args.f.now.at.value c.args.f.now.name
    c.requires.held) c.requires.satisfiable

pub least-requires-clause-depends : goal.least-requires-clause-depends
least-requires-clause-depends g c =
    let P : Tree → Type 0 = λ t. DependsOnlyOn c.args.variables.now (value t) in
    subst P (referred_tree c.args.self.now.names c.args.f.now.at.value c.args.f.now.name
    c.requires.held) c.requires.depends

pub invariant_of-self : goal.invariant_of-self
invariant_of-self g c = record {
  cached = cells_stay c.args.self.now.names c.least.new.self
      c.args.self.now.cells.cells.items c.least.ensures.names c.args.self.now.cached;
}

pub returns-in-Ok-clause-least : goal.returns-in-Ok-clause-least
returns-in-Ok-clause-least g c =
    let P : Tree → Type 0 = λ t. Some c.in-Ok.values.items
    ≡ find (λ values. value t (assigned c.args.variables.now values))
    (assignments (length c.args.variables.now)) in
    subst P (sym (referred_tree c.args.self.now.names c.args.f.now.at.value c.args.f.now.name
    c.requires.held)) c.in-Ok.ensures.least

pub returns-in-Ok-clause-kept : goal.returns-in-Ok-clause-kept
returns-in-Ok-clause-kept g c = let n = c.args.self.now.names in
    stays_keeps n c.least.new.self (extends_stays n c.least.new.self c.least.ensures.names)

pub returns-in-Err-clause-kept : goal.returns-in-Err-clause-kept
returns-in-Err-clause-kept g c = let n = c.args.self.now.names in
    stays_keeps n c.least.new.self (extends_stays n c.least.new.self c.least.ensures.names)

pub returns-in-Ok-clause-worker : goal.returns-in-Ok-clause-worker
returns-in-Ok-clause-worker g c = let n = c.args.self.now.names in
    worker_stays n c.least.new.self (extends_stays n c.least.new.self c.least.ensures.names)

pub returns-in-Err-clause-worker : goal.returns-in-Err-clause-worker
returns-in-Err-clause-worker g c = let n = c.args.self.now.names in
    worker_stays n c.least.new.self (extends_stays n c.least.new.self c.least.ensures.names)
