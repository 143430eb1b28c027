use Rattle.std.proofs.Common.{◌≡◌, ◌<◌, ℕ, Some, find, length, subst, sym, ◌∙◌}
use Rattle.std.specs.List.{All}
use Rattle.eqc_tree.specs.Tree.{Tree, value}
use Rattle.eqc_tree.specs.Assigned.{assigned, assignments, DependsOnlyOn, IsSatisfiable}
use Rattle.eqc_plain.specs.Store.{holding_of}
use Rattle.eqc_plain.proofs.Laws.{held_is}
use Rattle.eqc_plain.proofs.Copying.{copy_satisfiable, copy_depends, copy_least}
use Rattle.eqc_plain.proofs.plain.PlainDiagrams.least.Goals as goal

pub diagram-requires : goal.diagram-requires
diagram-requires g c =
    let s = c.args.self.now.store in
    (held_is s.variables s.nodes _ s.counts.items _ c.requires.held).within

pub least-requires-clause-f : goal.least-requires-clause-f
least-requires-clause-f g c = c.in_ok-diagram.ensures.diagram.copy.within

pub least-requires-clause-within : goal.least-requires-clause-within
unfolding holding_of
least-requires-clause-within g c =
    let P : ℕ → Type 0 = λ n. All (λ v. v < n) c.args.variables.now in
    subst P (sym c.in_ok-diagram.ensures.diagram.variables) c.requires.within

pub least-requires-clause-satisfiable : goal.least-requires-clause-satisfiable
least-requires-clause-satisfiable g c =
    let s = c.args.self.now.store in
    let P : Tree → Type 0 = λ t. IsSatisfiable (value t) in
    copy_satisfiable s _ _ _ c.in_ok-diagram.ensures.diagram.copy
    (subst P (held_is s.variables s.nodes _ s.counts.items _ c.requires.held).tree
    c.requires.satisfiable)

pub least-requires-clause-depends : goal.least-requires-clause-depends
least-requires-clause-depends g c =
    let s = c.args.self.now.store in
    let P : Tree → Type 0 = λ t. DependsOnlyOn c.args.variables.now (value t) in
    copy_depends s _ _ _ c.in_ok-diagram.ensures.diagram.copy c.args.variables.now
    (subst P (held_is s.variables s.nodes _ s.counts.items _ c.requires.held).tree
    c.requires.depends)

pub returns-clause-least : goal.returns-clause-least
returns-clause-least g c =
    let s = c.args.self.now.store in
    let P : Tree → Type 0 = λ t. Some c.in_ok-values.values.items
    ≡ find (λ values. value t (assigned c.args.variables.now values))
    (assignments (length c.args.variables.now)) in
    subst P (sym (held_is s.variables s.nodes _ s.counts.items _ c.requires.held).tree)
    (c.in_ok-values.ensures ∙ copy_least s _ _ _ c.in_ok-diagram.ensures.diagram.copy
    c.args.variables.now)
