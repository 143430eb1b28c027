-- Literals under an assumption.
use Rattle.std.specs.Prelude.{◌≡◌, ℕ, Bool, true, List}
use Rattle.eqc_xag.specs.declared.node.Node.{Node}
use Rattle.eqc_xag.specs.Graph.{literal_value, IsWithin}

-- literal l of the new nodes has the value of one of the old nodes wherever the assumption, one of
-- the old nodes, is true
pub record IsUnder (old new : List Node) (assumed literal l : ℕ) : Type 0 where
  pub within : IsWithin new l
  pub value : (a : ℕ → Bool) → literal_value old a assumed ≡ true → literal_value new a l
      ≡ literal_value old a literal
