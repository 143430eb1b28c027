-- Conjunctions of a graph, and what spans of columns make of carries.
use Rattle.std.specs.Prelude.{◌≡◌, ℕ, ◌*◌, ◌&&◌, Bool, not, List}
use Rattle.eqc_xag.specs.declared.node.Node.{Node}
use Rattle.eqc_xag.specs.Graph.{literal_value}

-- l is the conjunction of x and y under each assignment
pub record IsBoth (nodes : List Node) (l x y : ℕ) : Type 0 where
  pub value : (a : ℕ → Bool) → literal_value nodes a l ≡ literal_value nodes a x
      && literal_value nodes a y

-- x is the conjunction of b and c, and y of b and d
pub record IsShared (nodes : List Node) (x y b c d : ℕ) : Type 0 where
  pub first : IsBoth nodes x b c
  pub second : IsBoth nodes y b d

-- u is p without b and c, and what u passes on, v, is b and d
pub record IsSplit (nodes : List Node) (u v p b c d : ℕ) : Type 0 where
  pub span : (a : ℕ → Bool) → literal_value nodes a u ≡ literal_value nodes a p
      && not (literal_value nodes a b && literal_value nodes a c)
  pub passed : (a : ℕ → Bool) → literal_value nodes a v ≡ literal_value nodes a b
      && literal_value nodes a d

-- node k is u without v and c
pub record IsPrefix (nodes : List Node) (k u v c : ℕ) : Type 0 where
  pub value : (a : ℕ → Bool) → literal_value nodes a (2 * k) ≡ literal_value nodes a u
      && not (literal_value nodes a v && literal_value nodes a c)
