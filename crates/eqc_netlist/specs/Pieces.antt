-- Bytes in pieces of eight, as they are hashed.
use Rattle.std.specs.Prelude.{ℕ, ◌*◌, ◌/◌, List, [], ◌∷◌, ◌++◌, length, map, take, drop}
use Rattle.std.specs.List.{range_with_len}

-- the piece of a number, where there is a whole one
abbrev pub piece : List ℕ → ℕ → List ℕ
piece bytes k = take 8 (drop (8 * k) bytes)

-- all whole pieces, and what is left behind them, of less than eight bytes
abbrev pub pieces : List ℕ → List (List ℕ)
pieces bytes = map (piece bytes) (range_with_len 0 (length bytes / 8))
    ++ drop (8 * (length bytes / 8)) bytes ∷ []
