use Rattle.std.proofs.Common.{ℕ, Bool, true, sym, ◌∙◌, true≢false}
use Rattle.eqc_pair_testing.proofs.answers.least_of_literal.Goals as goal

pub least_assignment-least-requires-clause-satisfiable :
    goal.least_assignment-least-requires-clause-satisfiable
least_assignment-least-requires-clause-satisfiable g c = λ none.
    let all : ℕ → Bool = λ _. true in true≢false (sym (c.in_ok-x.ensures.ok.function all)
    ∙ none all)

pub least_assignment-least-requires-clause-depends :
    goal.least_assignment-least-requires-clause-depends
least_assignment-least-requires-clause-depends g c = λ a b same. c.in_ok-x.ensures.ok.function a
    ∙ (same c.args.variable c.requires.variable ∙ sym (c.in_ok-x.ensures.ok.function b))
