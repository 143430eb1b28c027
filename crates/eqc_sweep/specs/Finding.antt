-- What is found of two literals.
use Rattle.std.specs.Prelude.{◌≡◌, ℕ, ◌/◌, ◌<◌, ◌&&◌, Bool, false, List, ⊤}
use Rattle.eqc_xag.specs.declared.node.Node.{Node}
use Rattle.eqc_xag.specs.Graph.{literal_value}
use Rattle.eqc_sweep.specs.declared.finder.comparison.Comparison.{Comparison}
use Rattle.eqc_sweep.specs.declared.finder.comparison.Comparison.TheVariants.{Equal, Differs}
use Rattle.eqc_sweep.specs.declared.finder.comparison.Comparison.TheVariants.{Unknown}

-- x and y have the same value under each assignment
pub record AreEqual (nodes : List Node) (x y : ℕ) : Type 0 where
  pub value : (a : ℕ → Bool) → literal_value nodes a x ≡ literal_value nodes a y

-- x and y are both true under no assignment
pub record AreNever (nodes : List Node) (x y : ℕ) : Type 0 where
  pub value : (a : ℕ → Bool) → (literal_value nodes a x && literal_value nodes a y) ≡ false

-- y is of an older node than x, and has the same value
pub record IsOlder (nodes : List Node) (x y : ℕ) : Type 0 where
  pub older : y / 2 < x / 2
  pub equal : AreEqual nodes x y

-- what is said of x and y; nothing is promised but that they are equal
abbrev pub IsRight : List Node → (x y : ℕ) → Comparison → Type 0
IsRight nodes x y Equal = AreEqual nodes x y
IsRight nodes x y (Differs model) = ⊤
IsRight nodes x y Unknown = ⊤
