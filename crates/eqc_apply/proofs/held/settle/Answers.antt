use Rattle.std.proofs.Common.{ℕ, List, [], ◌∷◌, ◌++◌, arith}
use Rattle.eqc_core.specs.Words.{slots_of}
use Rattle.eqc_core.proofs.Names.{times-append, times-nil}
use Rattle.eqc_guard.specs.Standing.{Standing}
use Rattle.eqc_apply.specs.Names.{Has}
use Rattle.eqc_apply.proofs.Once.{has_same, has_as, beside_held, back_has, back_settles}
use Rattle.eqc_apply.proofs.held.settle.Goals as goal

-- with nothing else beside it
alone : (x n : ℕ) (s : Standing) (counts : List ℕ) → Has (slots_of (x ∷ [])) n s counts
    → Has (slots_of (x ∷ []) ++ []) n s counts
alone x n s counts h = has_as (slots_of (x ∷ [])) (slots_of (x ∷ []) ++ []) n s counts
    (λ y. omega (arith, times-append y (slots_of (x ∷ [])) [], times-nil y)) h

pub down-requires-clause-held : goal.down-requires-clause-held
down-requires-clause-held c =
    beside_held c.args.name.number c.requires.0 [] c.args.worker.now c.args.counts.now.items
    (alone c.args.name.number c.requires.0 c.args.worker.now c.args.counts.now.items
    c.requires.1)

pub returns-in-Ok-clause-has : goal.returns-in-Ok-clause-has
returns-in-Ok-clause-has c = λ n h. c.count_in.ensures.has n []
    (has_same _ n _ _ _ c.grow_counts.ensures.same (alone c.args.name.number n c.args.worker.now
    c.args.counts.now.items h))

pub returns-in-Err-clause-has : goal.returns-in-Err-clause-has
returns-in-Err-clause-has c =
    λ n h.
    has_same _ n _ _ _ c.grow_counts.ensures.same
    (back_has c.args.name.number n [] c.args.worker.now c.args.counts.now.items
    (alone c.args.name.number n c.args.worker.now c.args.counts.now.items h) c.down.new.self
    c.recall_laws.ensures c.down.ensures.constant
    c.down.ensures.step)

pub returns-in-Err-clause-settles : goal.returns-in-Err-clause-settles
returns-in-Err-clause-settles c =
    back_settles c.args.name.number c.requires.0 [] c.args.worker.now c.args.counts.now.items
    (alone c.args.name.number c.requires.0 c.args.worker.now c.args.counts.now.items c.requires.1)
    c.down.new.self c.recall_laws.ensures
    c.down.ensures.constant c.down.ensures.step
