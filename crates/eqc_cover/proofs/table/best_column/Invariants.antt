use Rattle.std.proofs.Common.{◌≡◌, ℕ, ◌<◌, true, false, get_or, MatchOption}
use Rattle.eqc_cover.proofs.table.best_column.Given as goal

abbrev pub invariant-loop-j : goal.invariant-loop-j
invariant-loop-j l = MatchOption l.best ((i : ℕ) → i < l.j → get_or l.open_columns i false ≡ false)
    (λ b. (b < l.columns) × (get_or l.open_columns b false ≡ true))
