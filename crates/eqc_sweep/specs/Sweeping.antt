-- What the calls of a sweep say of the literals that they give.
use Rattle.std.specs.Prelude.{◌≡◌, ℕ, Bool, List}
use Rattle.eqc_xag.specs.declared.node.Node.{Node}
use Rattle.eqc_xag.specs.Graph.{literal_value, node_value, IsWithin}

-- literal l is one of the nodes', with this value under each assignment
pub record HasValue (nodes : List Node) (l : ℕ) (f : (ℕ → Bool) → Bool) : Type 0 where
  pub within : IsWithin nodes l
  pub value : (a : ℕ → Bool) → literal_value nodes a l ≡ f a

-- literal l of the new nodes has the value that node n says of the old ones
abbrev pub HasValueOf : (old new : List Node) → Node → ℕ → Type 0
HasValueOf old new n l = HasValue new l (λ a. node_value a (literal_value old a) n)
