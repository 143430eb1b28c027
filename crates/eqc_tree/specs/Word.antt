-- The layout of the two packed words: a node, and a cached result.
use Rattle.std.specs.Prelude.{ℕ, ◌+◌, ◌*◌, ◌/◌, ◌%◌, ◌^◌}

-- the word of a node: the variable in bits 40 to 55, the low child in 20 to 39, the high child in 0
-- to 19
abbrev pub node_word : (variable low high : ℕ) → ℕ
node_word variable low high = variable * 2 ^ 40 + low * 2 ^ 20 + high

-- bits 40 to 55
abbrev pub node_variable : ℕ → ℕ
node_variable word = word / 2 ^ 40 % 2 ^ 16

-- bits 20 to 39
abbrev pub node_low : ℕ → ℕ
node_low word = word / 2 ^ 20 % 2 ^ 20

-- bits 0 to 19
abbrev pub node_high : ℕ → ℕ
node_high word = word % 2 ^ 20

-- the word of a cached result: the tag in bits 60 to 63, the operands in 40 to 59 and 20 to 39, the
-- result in 0 to 19
abbrev pub cell_word : (tag first second found : ℕ) → ℕ
cell_word tag first second found = tag * 2 ^ 60 + first * 2 ^ 40 + second * 2 ^ 20 + found

-- bits 60 and up
abbrev pub cell_tag : ℕ → ℕ
cell_tag word = word / 2 ^ 60

-- bits 40 to 59
abbrev pub cell_first : ℕ → ℕ
cell_first word = word / 2 ^ 40 % 2 ^ 20

-- bits 20 to 39
abbrev pub cell_second : ℕ → ℕ
cell_second word = word / 2 ^ 20 % 2 ^ 20

-- bits 0 to 19
abbrev pub cell_result : ℕ → ℕ
cell_result word = word % 2 ^ 20
