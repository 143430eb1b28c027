-- Hashes of names that differ in the lowest bits of their last byte alone: they stand in one group
-- of a table.
use Rattle.std.specs.Prelude.{ℕ, ◌+◌, ◌-◌, ◌*◌, ◌/◌, ◌%◌, ◌==◌, List, [], ◌∷◌, ◌++◌, length, take}
use Rattle.std.specs.Prelude.{drop, if◌then◌else◌, bit_xor, slice_index_or}
use Rattle.std.specs.Hash.FoldHasher as folding
use Rattle.eqc_netlist.specs.Pieces.{pieces}
use Rattle.eqc_netlist.specs.declared.near_key.NearHasher.{NearHasher}

-- the writes of a name: its bytes but the last in pieces, and the last
abbrev pub near_pieces : List ℕ → List (List ℕ)
near_pieces bytes = pieces (take (length bytes - 1) bytes) ++ drop (length bytes - 1) bytes ∷ []

-- a single byte is kept back, and the one that was kept back before is hashed; all else is hashed
-- at once
abbrev pub near_write : NearHasher → List ℕ → NearHasher
near_write h bytes = if length bytes == 1
    then record {
      folded = (if h.last == 0 then h.folded else folding.write h.folded (h.last ∷ []));
      last = slice_index_or bytes 0 0;
    }
    else record { folded = folding.write h.folded bytes; last = h.last }

-- the lowest three bits of the byte that is kept back choose a tag in a group, and the others a
-- group, by an odd number
abbrev pub near_finish : NearHasher → ℕ
near_finish h = bit_xor (folding.finish h.folded) ((h.last % 8) * 16777216 + (h.last / 8) * 40503)
