-- What is left of a graph where a variable has a value.
use Rattle.std.specs.Prelude.{◌≡◌, ℕ, ◌/◌, ◌<◌, Bool, List}
use Rattle.eqc_xag.specs.declared.node.Node.{Node}
use Rattle.eqc_xag.specs.Graph.{literal_value}

-- a literal has the same value in both graphs, where the variable has this one
pub record IsCofactor (old : List Node) (variable : ℕ) (value : Bool) (new : List Node) : Type 0
  where
    pub same : (a : ℕ → Bool) (l : ℕ) → a variable ≡ value
        → literal_value new a l ≡ literal_value old a l
