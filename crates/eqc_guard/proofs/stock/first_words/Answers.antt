use Rattle.std.proofs.Common.{◌+◌, ◌-◌, ◌*◌, ◌++◌, List, ℕ, refl, ap, ◌∙◌}
use Rattle.eqc_core.specs.Words.{announced_words}
use Rattle.eqc_core.specs.State.{repeated, literals}
use Rattle.eqc_guard.proofs.Stocking.{words_laid}
use Rattle.eqc_guard.proofs.stock.first_words.Goals as goal

pub returns : goal.returns
returns c =
    (c.in_ok-extend_with-8.ensures
    ∙ ap (λ (l : List ℕ). l ++ repeated 0 (16 * c.args.sizes.now.workers + 128))
    (c.in_ok-extend_with-7.ensures ∙ ap (λ (l : List ℕ). l ++ repeated 0 c.args.sizes.now.cells)
    (c.in_ok-extend_with-6.ensures
    ∙ ap (λ (l : List ℕ). l ++ repeated 0 (c.args.sizes.now.names - (c.args.n + 2)))
    (c.in_ok-extend_with_literals.ensures ∙ ap (λ (l : List ℕ). l ++ literals 0 c.args.n)
    (c.in_ok-extend_with-5.ensures ∙ ap (λ (l : List ℕ). l ++ repeated 0 2)
    (c.in_ok-extend_with-4.ensures
    ∙ ap (λ (l : List ℕ). l ++ repeated 0 (c.args.sizes.now.names - (c.args.n + 2)))
    (c.in_ok-extend_with-3.ensures ∙ ap (λ (l : List ℕ). l ++ repeated 2 c.args.n)
    (c.in_ok-extend_with-2.ensures ∙ ap (λ (l : List ℕ). l ++ repeated 0 2)
    (c.in_ok-extend_with.ensures
    ∙ ap (λ (l : List ℕ). l ++ repeated 0 (2 * announced_words c.args.sizes.now))
    c.in_ok-words.ensures.items)))))))))
    ∙ words_laid c.args.sizes.now c.args.n (c.args.sizes.now.names - (c.args.n + 2))
    c.args.sizes.now.cells refl refl
