-- Rows as keys: two lists of rows are equal where all rows are.
use Rattle.std.proofs.Common.{◌≡◌, ◌⊎◌, ℕ, suc, ◌+◌, ◌<◌, Bool, true, false, not, List, [], ◌∷◌}
use Rattle.std.proofs.Common.{length, get_or, refl, sym, ◌∙◌, ap, arith, inl, inr}
use Rattle.std.specs.Cmp.Lexicographic.{pointwise, pointwise_decides, bytes_decides}
use Rattle.std.specs.Str.{bytes_eq}
use Rattle.std.specs.Bool.{Decides}
use Rattle.std.proofs.lemmas.Bool.{true≢false, cases_eq}

pub rows_decide : (xs ys : List (List ℕ)) → Decides (pointwise bytes_eq xs ys) (xs ≡ ys)
rows_decide = pointwise_decides bytes_decides

pub rows_differ : (xs ys : List (List ℕ)) → (xs ≡ ys → ⊥) → pointwise bytes_eq xs ys ≡ false
rows_differ xs ys other = by (pointwise bytes_eq xs ys) refl
  where
    by : (b : Bool) → pointwise bytes_eq xs ys ≡ b → b ≡ false
    by true e = absurd (other ((rows_decide xs ys).0 e))
    by false e = refl

each_same : (xs ys : List (List ℕ)) → length xs ≡ length ys → ((k : ℕ) → k < length xs
    → get_or xs k [] ≡ get_or ys k []) → xs ≡ ys
each_same [] [] e same = refl
each_same [] (y ∷ ys) e same = absurd (omega (arith, e))
each_same (x ∷ xs) [] e same = absurd (omega (arith, e))
each_same (x ∷ xs) (y ∷ ys) e same =
    let here : x ≡ y = same 0 (omega arith) in
    let others : xs ≡ ys = each_same xs ys (omega (arith, e)) (λ k h. same (suc k) (omega arith)) in
    cc

pub rows_same : (xs ys : List (List ℕ)) → length xs ≡ length ys → ((k : ℕ) → k < length xs
    → get_or xs k [] ≡ get_or ys k []) → pointwise bytes_eq xs ys ≡ true
rows_same xs ys e same = (rows_decide xs ys).1 (each_same xs ys e same)

-- what a test of two rows has told
pub row_apart : (xs ys : List ℕ) → true ≡ not (bytes_eq xs ys) → xs ≡ ys → ⊥
row_apart xs ys e same = true≢false (e ∙ ap not ((bytes_decides xs ys).1 same))

row_alike : (xs ys : List ℕ) → false ≡ not (bytes_eq xs ys) → xs ≡ ys
row_alike xs ys e = (bytes_decides xs ys).0 (by (bytes_eq xs ys) e)
  where
    by : (b : Bool) → false ≡ not b → b ≡ true
    by true h = refl
    by false h = absurd (true≢false (sym h))

pub rows_more : (xs ys : List (List ℕ)) (k : ℕ) (row other : List ℕ)
    → ((j : ℕ) → j < k → get_or xs j [] ≡ get_or ys j [])
    → row ≡ get_or xs k [] → other ≡ get_or ys k [] → false ≡ not (bytes_eq row other) → (j : ℕ)
    → j < k + 1
    → get_or xs j [] ≡ get_or ys j []
rows_more xs ys k row other h is there e j less = by (cases_eq j k)
  where
    by : (j ≡ k) ⊎ (j ≡ k → ⊥) → get_or xs j [] ≡ get_or ys j []
    by (inl same) = ap (λ i. get_or xs i []) same
        ∙ (sym is ∙ (row_alike row other e ∙ (there ∙ ap (λ i. get_or ys i []) (sym same))))
    by (inr apart) = h j (omega (arith, less, apart))
