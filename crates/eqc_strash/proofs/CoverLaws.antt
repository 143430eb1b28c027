-- What a cover makes of the classes of its columns.
use Rattle.std.proofs.Common.{◌≡◌, ℕ, ◌<◌, Bool, true, false, ◌==◌, ◌||◌, List, [], ◌∷◌, length}
use Rattle.std.proofs.Common.{get_or, map, refl, ◌∙◌, ap, arith}
use Rattle.std.proofs.lemmas.List.{length-map, get_or-map}
use Rattle.std.proofs.lemmas.Bool.{eqb-true}
use Rattle.eqc_strash.specs.Structure.{Structure, gate, in_row, is_constant, passes_on}
use Rattle.eqc_strash.specs.Structure.{cover_structure}
use Rattle.eqc_strash.specs.Shapes.{structure_at}
use Rattle.eqc_strash.specs.Numbering.{said_by}

not_zero : (n : ℕ) → (n ≡ 0 → ⊥) → (n == 0) ≡ false
not_zero n h = by (n == 0) refl
  where
    by : (b : Bool) → (n == 0) ≡ b → b ≡ false
    by true e = absurd (h (eqb-true n 0 e))
    by false e = refl

-- the classes of columns are there
pub columns_known : (numbers signals columns : List ℕ) (n : ℕ)
    → columns ≡ map (λ s. get_or numbers s 0) signals
    → ((k : ℕ) → k < length signals → get_or numbers (get_or signals k 0) 0 < n) → (k : ℕ)
    → k < length columns
    → get_or columns k 0 < n
columns_known numbers signals columns n e known k less =
    let inside : k < length signals =
    omega (arith, less, ap length e, length-map signals (λ s. get_or numbers s 0)) in
    let is : get_or columns k 0 ≡ get_or numbers (get_or signals k 0) 0 = ap (λ l. get_or l k 0) e
    ∙ get_or-map (λ s. get_or numbers s 0) signals k 0 0 inside in
    let there = known k inside in
    omega (arith, is, there)

along : (structures : List Structure) (numbers signals : List ℕ)
    → map (structure_at structures) (map (λ s. get_or numbers s 0) signals)
    ≡ map (said_by structures numbers) signals
along structures numbers [] = refl
along structures numbers (s ∷ signals) = ap (λ l. said_by structures numbers s ∷ l)
    (along structures numbers signals)

gate_cover : (rows : List (List ℕ)) (xs : List Structure) → (length rows == 0) ≡ false
    → (length xs == 0) ≡ false → passes_on rows (length xs) ≡ false → gate rows (in_row xs)
    ≡ cover_structure rows xs
gate_cover rows xs some any other =
    let neither : is_constant rows (length xs) ≡ false = ap (λ b. b || (length xs == 0)) some
    ∙ any in
    rw (neither, other) refl

-- a gate over the classes of columns
pub gate_made : (all : List (List (List ℕ))) (structures : List Structure) (rows : List (List ℕ))
    (r : ℕ) (numbers signals columns : List ℕ)
    → get_or all r [] ≡ rows → columns ≡ map (λ s. get_or numbers s 0) signals → (length rows == 0)
    ≡ false
    → (length signals ≡ 0 → ⊥) → passes_on rows (length signals) ≡ false
    → gate (get_or all r []) (in_row (map (structure_at structures) columns))
    ≡ cover_structure rows (map (said_by structures numbers) signals)
gate_made all structures rows r numbers signals columns at e some any other =
    let size : length (map (said_by structures numbers) signals) ≡ length signals =
    length-map signals (said_by structures numbers) in
    ap (λ l. gate l (in_row (map (structure_at structures) columns))) at
    ∙ (ap (λ l. gate rows (in_row l)) (ap (map (structure_at structures)) e
    ∙ along structures numbers signals)
    ∙ gate_cover rows (map (said_by structures numbers) signals) some (ap (λ n. n == 0) size
    ∙ not_zero (length signals) any) (ap (passes_on rows) size ∙ other))
