-- What a literal is of its gate's operands, and how literals are related.
use Rattle.std.specs.Prelude.{◌≡◌, ℕ, ◌/◌, ◌&&◌, Bool, false, not, List, ⊤}
use Rattle.eqc_xag.specs.declared.node.Node.{Node}
use Rattle.eqc_xag.specs.Graph.{literal_value, differ, IsWithin}
use Rattle.eqc_sweep.specs.declared.rules.gate.Gate.{Gate}
use Rattle.eqc_sweep.specs.declared.rules.gate.Gate.TheVariants.{Both, NotBoth, Differ, Other}

-- whether not both are true
abbrev pub not_both : Bool → Bool → Bool
not_both b c = not (b && c)

-- p and q are of the nodes, and x has the value that f makes of theirs, under each assignment
pub record Makes (f : Bool → Bool → Bool) (nodes : List Node) (x p q : ℕ) : Type 0 where
  pub first : IsWithin nodes p
  pub second : IsWithin nodes q
  pub value : (a : ℕ → Bool) → literal_value nodes a x ≡ f (literal_value nodes a p)
      (literal_value nodes a q)

-- the gate of x
abbrev pub IsGate : List Node → ℕ → Gate → Type 0
IsGate nodes x (Both p q) = Makes ◌&&◌ nodes x p q
IsGate nodes x (NotBoth p q) = Makes not_both nodes x p q
IsGate nodes x (Differ p q) = Makes differ nodes x p q
IsGate nodes x Other = ⊤

-- y is the complement of x
pub record AreOpposite (x y : ℕ) : Type 0 where
  pub node : y / 2 ≡ x / 2
  pub value : (nodes : List Node) (a : ℕ → Bool) → literal_value nodes a y
      ≡ not (literal_value nodes a x)

-- y is false wherever p and q are true
pub record Excludes (p q y : ℕ) : Type 0 where
  pub value : (nodes : List Node) (a : ℕ → Bool)
      → ((literal_value nodes a p && literal_value nodes a q) && literal_value nodes a y) ≡ false

-- y is true wherever p and q are
pub record Implies (p q y : ℕ) : Type 0 where
  pub value : (nodes : List Node) (a : ℕ → Bool)
      → ((literal_value nodes a p && literal_value nodes a q) && literal_value nodes a y)
      ≡ (literal_value nodes a p && literal_value nodes a q)
