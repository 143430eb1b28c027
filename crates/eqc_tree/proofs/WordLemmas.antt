use Rattle.std.proofs.Common.{◌≡◌, ℕ, ◌^◌, ◌<◌, arith}
use Rattle.eqc_tree.specs.Word.{node_word, node_variable, node_low, node_high, cell_word, cell_tag}
use Rattle.eqc_tree.specs.Word.{cell_first, cell_second, cell_result}

-- the fields of a packed node
pub record IsNodeWord (v l h w : ℕ) : Type 0 where
  pub variable : node_variable w ≡ v
  pub low : node_low w ≡ l
  pub high : node_high w ≡ h

-- a packed node has its fields
pub node_fields : (v l h : ℕ) → v < 2 ^ 16 → l < 2 ^ 20 → h < 2 ^ 20
    → IsNodeWord v l h (node_word v l h)
node_fields v l h a b c = record { variable = omega arith; low = omega arith; high = omega arith }

-- the fields of a packed result
pub record IsCellWord (t f g r w : ℕ) : Type 0 where
  pub tag : cell_tag w ≡ t
  pub first : cell_first w ≡ f
  pub second : cell_second w ≡ g
  pub found : cell_result w ≡ r

-- a packed result has its fields
pub cell_fields : (t f g r : ℕ) → f < 2 ^ 20 → g < 2 ^ 20 → r < 2 ^ 20
    → IsCellWord t f g r (cell_word t f g r)
cell_fields t f g r b c d = record {
  tag = omega arith;
  first = omega arith;
  second = omega arith;
  found = omega arith;
}
