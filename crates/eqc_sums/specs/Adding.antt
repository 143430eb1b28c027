-- What adders make of three values, and the numbers that words stand for.
use Rattle.std.specs.Prelude.{◌≡◌, ℕ, ◌+◌, ◌-◌, ◌*◌, ◌/◌, ◌%◌, ◌^◌, ◌<◌, ◌≤◌, ◌&&◌, ◌||◌, Bool}
use Rattle.std.specs.Prelude.{true, false, List, [], ◌∷◌, length, slice_index}
use Rattle.std.specs.List.{All}
use Rattle.eqc_xag.specs.declared.node.Node.{Node}
use Rattle.eqc_xag.specs.Graph.{literal_value, IsWithin}
use Rattle.eqc_sweep.specs.Finding.{AreEqual}
use Rattle.eqc_sums.specs.declared.form.Form.{Form}
use Rattle.eqc_sums.specs.Forms.{bit, form_value, IsOver}

-- whether two or three of three are true
abbrev pub majority : Bool → Bool → Bool → Bool
majority true y z = y || z
majority false y z = y && z

-- the number that a gate makes of two that are 0 or 1, modulo 2^128: their product, or x + y - 2 x
-- y
abbrev pub gate_number : Bool → ℕ → ℕ → ℕ
gate_number true x y = x * y
gate_number false x y = x + (y + (2 ^ 128 - 2) * (x * y))

-- node k is the conjunction of x and y, or else whether just one of them is true
pub record IsGateOf (nodes : List Node) (k : ℕ) (is_and : Bool) (x y : ℕ) : Type 0 where
  pub first : IsWithin nodes x
  pub second : IsWithin nodes y
  pub value : (a : ℕ → Bool) → bit (literal_value nodes a (2 * k)) % 2 ^ 128
      ≡ gate_number is_and (bit (literal_value nodes a x)) (bit (literal_value nodes a y)) % 2 ^ 128

-- the number of which these literals are the binary digits, the lowest first, where these are the
-- values of literals
unfoldable pub number : (ℕ → Bool) → List ℕ → ℕ
number value [] = 0
number value (l ∷ ls) = bit (value l) + 2 * number value ls

-- the form whose value is 0 where two words of at most 128 literals, and of as many, stand for the
-- same number
pub record IsFormOf (nodes : List Node) (f : Form) (ps qs : List ℕ) : Type 0 where
  pub over : IsOver nodes f
  pub some : 0 < length ps
  pub few : length ps ≤ 128
  pub same : length qs ≡ length ps
  pub first : All (IsWithin nodes) ps
  pub second : All (IsWithin nodes) qs
  pub value : (a : ℕ → Bool)
      → (form_value nodes a f + 2 ^ (128 - length ps) * number (literal_value nodes a) qs) % 2 ^ 128
      ≡ (2 ^ (128 - length ps) * number (literal_value nodes a) ps) % 2 ^ 128

-- two words have as many literals, and these are equal one by one, under each assignment
pub record AreEqualWords (nodes : List Node) (ps qs : List ℕ) : Type 0 where
  pub same : length qs ≡ length ps
  pub equal : (k : ℕ) → k < length ps → AreEqual nodes (slice_index ps k) (slice_index qs k)
