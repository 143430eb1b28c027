use Rattle.std.proofs.Common.{ℕ, Bool, true, ◌||◌, sym, ap₂, ◌∙◌, true≢false, arith}
use Rattle.eqc_pair_testing.proofs.answers.least_of_either.Goals as goal

pub least_assignment-least-requires-clause-satisfiable :
    goal.least_assignment-least-requires-clause-satisfiable
least_assignment-least-requires-clause-satisfiable g c = λ none.
    let all : ℕ → Bool = λ _. true in
    true≢false
    (sym (c.in_ok-either.ensures.ok.function all
    ∙ ap₂ (λ p q. p || q) (c.in_ok-x.ensures.ok.function all) (c.in-Ok.ensures.ok.function all))
    ∙ none all)

pub least_assignment-least-requires-clause-depends :
    goal.least_assignment-least-requires-clause-depends
least_assignment-least-requires-clause-depends g c = λ a b same.
    c.in_ok-either.ensures.ok.function a
    ∙ (ap₂ (λ p q. p || q)
    (c.in_ok-x.ensures.ok.function a ∙ (same 0 (omega (arith, c.requires.two))
    ∙ sym (c.in_ok-x.ensures.ok.function b)))
    (c.in-Ok.ensures.ok.function a ∙ (same 1 c.requires.two ∙ sym (c.in-Ok.ensures.ok.function b)))
    ∙ sym (c.in_ok-either.ensures.ok.function b))
