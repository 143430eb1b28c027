-- The rows that the drivers of a netlist name, and their places among others.
use Rattle.std.proofs.Common.{◌≡◌, ◌⊎◌, ℕ, ◌+◌, ◌<◌, ◌≤◌, List, [], ◌∷◌, ◌++◌, length, get_or, sym}
use Rattle.std.proofs.Common.{◌∙◌, ap, subst, arith, inl, inr}
use Rattle.std.proofs.Math.ListN.{get_or-append}
use Rattle.std.proofs.Math.Seq.{get_or-append_seam}
use Rattle.std.proofs.lemmas.Bool.{cases_eq}
use Rattle.eqc_netlist.specs.Graph.{FlatOf, IsFlat, DriverOf, input, tie, cover, driver_at}
use Rattle.eqc_netlist.specs.Graph.{IsWithinSizes}
use Rattle.eqc_strash.specs.Tables.{Grows, Stands}
use Rattle.eqc_strash.specs.Numbering.{rows_until, AreRowClasses}
use Rattle.eqc_strash.proofs.KeyLaws.{stands_still}

until_within : (inputs n rows : ℕ) (driver : DriverOf) → IsWithinSizes inputs n rows driver
    → rows_until driver ≤ rows
until_within inputs n rows (input position) h = omega arith
until_within inputs n rows (tie other) h = omega arith
until_within inputs n rows (cover columns r) h = let less = h.1 in omega (arith, less)

pub rows_within : (f : FlatOf) (s : ℕ) → IsFlat f → s < length f.drivers
    → rows_until (driver_at f s) ≤ length f.rows
rows_within f s h inside = until_within (length f.inputs) (length f.drivers) (length f.rows)
    (driver_at f s) (h.drivers_within s inside)

-- one signal more
pub named_more : (f : FlatOf) (s count next : ℕ) → ((t : ℕ) → t < s → rows_until (driver_at f t)
    ≤ count) → count ≤ next
    → rows_until (driver_at f s) ≤ next → (t : ℕ) → t < s + 1 → rows_until (driver_at f t) ≤ next
named_more f s count next h more here t less = by (cases_eq t s)
  where
    by : (t ≡ s) ⊎ (t ≡ s → ⊥) → rows_until (driver_at f t) ≤ next
    by (inl e) = subst (λ u. rows_until (driver_at f u) ≤ next) (sym e) here
    by (inr other) = let before = h t (omega (arith, less, other)) in omega (arith, before, more)

-- one place more
pub places_more : (rows old new : List (List (List ℕ))) (places now : List ℕ) (r n place : ℕ)
    (what : List (List ℕ))
    → length places ≡ r → ((j : ℕ) → j < r → Stands [] old (get_or places j 0) (get_or rows j []))
    → Grows [] old new n
    → Stands [] new place what → what ≡ get_or rows r [] → now ≡ places ++ place ∷ [] → (j : ℕ)
    → j < r + 1
    → Stands [] new (get_or now j 0) (get_or rows j [])
places_more rows old new places now r n place what size h g here is e j less =
    subst (λ l. Stands [] new (get_or l j 0) (get_or rows j [])) (sym e) (by (cases_eq j r))
  where
    last : Stands [] new (get_or (places ++ place ∷ []) r 0) (get_or rows r [])
    last =
        let at : get_or (places ++ place ∷ []) r 0 ≡ place =
        ap (λ k. get_or (places ++ place ∷ []) k 0) (sym size)
        ∙ get_or-append_seam places place [] 0 in
        subst (λ p. Stands [] new p (get_or rows r [])) (sym at) (subst (λ x. Stands [] new place x)
        is here)

    by : (j ≡ r) ⊎ (j ≡ r → ⊥) → Stands [] new (get_or (places ++ place ∷ []) j 0)
        (get_or rows j [])
    by (inl same) = subst (λ k. Stands [] new (get_or (places ++ place ∷ []) k 0)
        (get_or rows k [])) (sym same) last
    by (inr other) =
        let before : j < r = omega (arith, less, other) in
        subst (λ p. Stands [] new p (get_or rows j []))
        (sym (get_or-append places (place ∷ []) 0 j (omega (arith, before, size))))
        (stands_still [] old new n (get_or places j 0) (get_or rows j []) g (h j before))

pub are_row_classes : (f : FlatOf) (rows : List (List (List ℕ))) (places : List ℕ) (count r : ℕ)
    → length places ≡ r → count ≤ r
    → ((s : ℕ) → s < length f.drivers → rows_until (driver_at f s) ≤ count)
    → ((j : ℕ) → j < r → Stands [] rows (get_or places j 0) (get_or f.rows j []))
    → AreRowClasses f rows places
are_row_classes f rows places count r size all named each = record {
  named = λ s inside. let few = named s inside in omega (arith, few, all, size);
  each = λ j less. each j (omega (arith, less, size));
}

-- places stay
pub row_classes_still : (f : FlatOf) (rows new : List (List (List ℕ))) (places : List ℕ) (n : ℕ)
    → Grows [] rows new n → AreRowClasses f rows places → AreRowClasses f new places
row_classes_still f rows new places n g h = record {
  named = h.named;
  each = λ r less. stands_still [] rows new n (get_or places r 0) (get_or f.rows r []) g
      (h.each r less);
}
