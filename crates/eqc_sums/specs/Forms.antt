-- The values of linear forms over the nodes of a graph, modulo 2^128.
use Rattle.std.specs.Prelude.{◌≡◌, ℕ, suc, ◌+◌, ◌*◌, ◌/◌, ◌%◌, ◌^◌, ◌<◌, ◌≤◌, Bool, true, false}
use Rattle.std.specs.Prelude.{List, [], ◌∷◌, length}
use Rattle.std.specs.List.{All, sum_by}
use Rattle.eqc_xag.specs.declared.node.Node.{Node}
use Rattle.eqc_xag.specs.Graph.{literal_value, IsWithin, Extends}
use Rattle.eqc_sums.specs.declared.form.Form.{Form}
use Rattle.eqc_sums.specs.declared.term.Term.{Term}

-- 1 where a value is true, and else 0
abbrev pub bit : Bool → ℕ
bit true = 1
bit false = 0

-- what coefficients come to, the first of which is node k's, where these are the values of literals
unfoldable pub weighed : (ℕ → Bool) → ℕ → List ℕ → ℕ
weighed value k [] = 0
weighed value k (c ∷ cs) = c * bit (value (2 * k)) + weighed value (suc k) cs

-- the value of a linear form under an assignment
unfoldable pub form_value : List Node → (ℕ → Bool) → Form → ℕ
form_value nodes a f = (f.constant + weighed (literal_value nodes a) 0 f.coefficients.items) % 2 ^
    128

-- what terms come to, where these are the values of literals
abbrev pub terms_sum : (ℕ → Bool) → List Term → ℕ
terms_sum value ts = sum_by (λ t. t.factor * bit (value t.literal)) ts

-- terms of nodes of the graph, which come to this under each assignment
pub record HasSum (nodes : List Node) (ts : List Term) (f : (ℕ → Bool) → ℕ) : Type 0 where
  pub within : All (λ t. IsWithin nodes t.literal) ts
  pub sum : (a : ℕ → Bool) → terms_sum (literal_value nodes a) ts % 2 ^ 128 ≡ f a % 2 ^ 128

-- terms that may be added to any form: they come to 0 under each assignment
abbrev pub IsZeroStep : List Node → List Term → Type 0
IsZeroStep nodes ts = HasSum nodes ts (λ _. 0)

-- a form whose nodes are of the graph
abbrev pub IsOver : List Node → Form → Type 0
IsOver nodes f = length f.coefficients.items ≤ length nodes

-- the new graph extends the old one, and the new form has the value there that the old one had,
-- under each assignment
pub record Keeps (old new : List Node) (f g : Form) : Type 0 where
  pub extends : Extends old new
  pub over : IsOver old f → IsOver new g
  pub value : IsOver old f → (a : ℕ → Bool) → form_value new a g ≡ form_value old a f
