-- Outputs that are chosen by their names.
use Rattle.std.proofs.Common.{◌≡◌, ℕ, suc, ◌+◌, ◌<◌, ◌≤◌, Bool, true, false, not, ◌||◌, List, []}
use Rattle.std.proofs.Common.{◌∷◌, map, length, take, set, eqb, get_or, refl, sym, ◌∙◌, ap, arith}
use Rattle.std.proofs.Common.{inl, inr}
use Rattle.std.specs.List.{list_any}
use Rattle.std.specs.Str.{bytes_eq}
use Rattle.std.proofs.Math.Bool.{or-false, or-true}
use Rattle.std.proofs.lemmas.Bool.{eq-eqb, ne_eqb, true≢false}
use Rattle.std.proofs.lemmas.Bool.Decides.{eqb_tells}
use Rattle.std.proofs.lemmas.List.{length-map, take_all, get_or-set_same, get_or-set_other}
use Rattle.std.proofs.lemmas.List.Folds.{list_any_more}
use Rattle.eqc_netlist.specs.Names.{is_named, has_twice}
use Rattle.eqc_pair.specs.Matched.{position_of, has_all, is_chosen, AreLeftOut}
use Rattle.eqc_pair.proofs.PlaceLemmas.{same_bytes, bytes_itself, name_at, place_itself}
use Rattle.eqc_pair.proofs.PlaceLemmas.{place_within, all_named}

-- ---- marks of all but some places

-- one more place
pub unmarked_more : (marks : List Bool) (places : List ℕ) (i count : ℕ) → i < length places
    → length marks ≡ count → get_or places i 0 < count
    → ((o : ℕ) → o < count → get_or marks o false ≡ not (list_any (eqb o) (take i places)))
    → (o : ℕ) → o < count →
    get_or (set marks (get_or places i 0) false) o false
    ≡ not (list_any (eqb o) (take (i + 1) places))
unmarked_more marks places i count inside size below before o lt =
    let more = list_any_more (eqb o) places i 0 inside in
    elim (eqb_tells o (get_or places i 0)) [
      | inl t ↦ rw t.1 (get_or-set_same marks (get_or places i 0) false false
          (omega (arith, size, below)))
          ∙ sym (ap not (more ∙ (ap (λ b. list_any (eqb o) (take i places) || b) t.0
          ∙ or-true (list_any (eqb o) (take i places)))))
      | inr t ↦ get_or-set_other marks (get_or places i 0) o false false t.1
          ∙ (before o lt ∙ sym (ap not (more ∙ (ap (λ b. list_any (eqb o) (take i places) || b) t.0
          ∙ or-false (list_any (eqb o) (take i places))))))
    ]

-- all of them
pub unmarked_all : (marks : List Bool) (places : List ℕ) (i count : ℕ) → length places ≤ i →
    ((o : ℕ) → o < count → get_or marks o false ≡ not (list_any (eqb o) (take i places))) → (o : ℕ)
    → o < count →
    get_or marks o false ≡ not (list_any (eqb o) places)
unmarked_all marks places i count whole done o lt = done o lt
    ∙ ap (λ l. not (list_any (eqb o) l)) (take_all i places whole)

-- ---- outputs by their names

-- an output stands at the place of a name exactly where it has that name
place_is : (outputs : List (List ℕ)) (name : List ℕ) (o : ℕ) → has_twice outputs ≡ false
    → o < length outputs → is_named outputs name ≡ true →
    eqb o (position_of outputs name) ≡ bytes_eq (get_or outputs o []) name
place_is outputs name o once inside named = by (bytes_eq (get_or outputs o []) name) refl
  where
    by : (b : Bool) → bytes_eq (get_or outputs o []) name ≡ b → eqb o (position_of outputs name) ≡ b
    by true e = eq-eqb o (position_of outputs name)
        (sym (ap (position_of outputs) (sym (same_bytes (get_or outputs o []) name e))
        ∙ place_itself outputs o once inside))
    by false e =
        ne_eqb o (position_of outputs name)
        (λ same. true≢false (sym (ap (bytes_eq (get_or outputs o []))
        (sym (name_at outputs name named) ∙ ap (λ k. get_or outputs k []) (sym same))
        ∙ bytes_itself (get_or outputs o [])) ∙ e))

-- it stands at one of their places exactly where it has one of the names
named_there : (outputs names : List (List ℕ)) (o : ℕ) → has_twice outputs ≡ false
    → o < length outputs →
    ((i : ℕ) → i < length names → is_named outputs (get_or names i []) ≡ true) →
    list_any (eqb o) (map (position_of outputs) names) ≡ is_named names (get_or outputs o [])
named_there outputs [] o once inside all = refl
named_there outputs (name ∷ names) o once inside all =
    rw (
      place_is outputs name o once inside (all 0 (omega arith)),
      named_there outputs names o once
          inside (λ i h. all (suc i) (omega arith)),
    ) refl

-- so marks of all others are those of the outputs that are not chosen
pub marked_left_out : (outputs names : List (List ℕ)) (places : List ℕ) (marks : List Bool)
    → has_twice outputs ≡ false → (length names ≡ 0 → ⊥) →
    has_all outputs names ≡ true → places ≡ map (position_of outputs) names
    → ((o : ℕ) → o < length outputs → get_or marks o false ≡ not (list_any (eqb o) places))
    → AreLeftOut names outputs marks
marked_left_out outputs [] places marks once some all are marked = absurd (some refl)
marked_left_out outputs (name ∷ names) places marks once some all are marked = record {
  each = λ o inside. marked o inside ∙ ap not (ap (list_any (eqb o)) are
      ∙ named_there outputs (name ∷ names) o once inside (all_named outputs (name ∷ names) all));
}

-- without a name all are chosen
pub none_left_out : (outputs : List (List ℕ)) → AreLeftOut [] outputs []
none_left_out outputs = record { each = λ o inside. refl }

-- a place that was found is below the number of outputs
pub chosen_within : (outputs names : List (List ℕ)) (places : List ℕ) → has_all outputs names ≡ true
    → places ≡ map (position_of outputs) names →
    (k : ℕ) → k < length places → get_or places k 0 < length outputs
chosen_within outputs names places all are k inside = omega (
  arith,
  ap (λ l. get_or l k 0) are,
  place_within outputs names all k (omega (
    arith,
    ap length are,
    length-map names (position_of outputs),
  )),
)
