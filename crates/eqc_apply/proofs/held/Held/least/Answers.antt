use Rattle.std.proofs.Common.{◌<◌, ◌∙◌, ℕ, subst, sym}
use Rattle.std.specs.List.{All}
use Rattle.eqc_apply.proofs.Copying.{copy_was, copy_satisfiable, copy_depends, copy_least}
use Rattle.eqc_apply.proofs.held.Held.least.Goals as goal

pub least-requires-clause-f : goal.least-requires-clause-f
least-requires-clause-f c = c.in_ok-number.ensures.ok.within

pub least-requires-clause-within : goal.least-requires-clause-within
least-requires-clause-within c =
    let P : ℕ → Type 0 = λ n. All (λ v. v < n) c.args.variables.now in
    subst P (sym (c.in_ok-number.ensures.variables ∙ c.copy.ensures.names.variables))
    c.requires.within

pub least-requires-clause-satisfiable : goal.least-requires-clause-satisfiable
least-requires-clause-satisfiable c =
    let n = c.args.self.now in
    let m = c.copy.new.names in
    let s = c.copy.new.self.store in
    copy_satisfiable n s c.args.f c.in_ok-number.number (copy_was n m s c.args.f
    c.in_ok-number.number c.copy.ensures.names c.requires.held c.in_ok-number.ensures.ok)
    c.requires.satisfiable

pub least-requires-clause-depends : goal.least-requires-clause-depends
least-requires-clause-depends c =
    let n = c.args.self.now in
    let m = c.copy.new.names in
    let s = c.copy.new.self.store in
    copy_depends n s c.args.f c.in_ok-number.number
    (copy_was n m s c.args.f c.in_ok-number.number c.copy.ensures.names c.requires.held
    c.in_ok-number.ensures.ok) c.args.variables.now
    c.requires.depends

pub returns-in-Ok-clause-least : goal.returns-in-Ok-clause-least
returns-in-Ok-clause-least c =
    let n = c.args.self.now in
    let m = c.copy.new.names in
    let s = c.copy.new.self.store in
    c.in-Ok.ensures ∙ copy_least n s c.args.f c.in_ok-number.number (copy_was n m s c.args.f
    c.in_ok-number.number c.copy.ensures.names c.requires.held c.in_ok-number.ensures.ok)
    c.args.variables.now
