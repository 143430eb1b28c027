-- Two lists of the same names, none twice: where each name of one stands in the other.
use Rattle.std.proofs.Common.{◌≡◌, ℕ, zero, suc, ◌<◌, ◌≤◌, Bool, true, false, not, Option, Some}
use Rattle.std.proofs.Common.{None, Result, Ok, Err, Vec, IfOk, MatchOption, List, [], ◌∷◌, map}
use Rattle.std.proofs.Common.{length, get_or, eqb, refl, sym, ◌∙◌, ap, arith, rules, inl, inr, ◌⊎◌}
use Rattle.std.specs.List.{position_or_len, range_with_len}
use Rattle.std.specs.Str.{bytes_eq}
use Rattle.std.proofs.lemmas.Slice.Eq.{bytes_eq-Decides}
use Rattle.std.proofs.lemmas.Bool.{cases_Bool, or_parts, eq-eqb, ne_eqb, ltb-true, true≢false}
use Rattle.std.proofs.lemmas.Bool.{false≢true}
use Rattle.std.proofs.lemmas.List.{get_or-map, length-map}
use Rattle.std.proofs.lemmas.List.Folds.{list_any_at, list_all_at}
use Rattle.std.proofs.lemmas.List.FromFn.{length-range_with_len, get_or-range_with_len}
use Rattle.std.proofs.lemmas.List.FromFn.{get_or-map-range_with_len, length-map-range_with_len}
use Rattle.std.proofs.lemmas.List.Sums.{position_or_len_is, passes_at_first}
use Rattle.std.proofs.lemmas.Grind.{same_number_lists}
use Rattle.std.proofs.lemmas.Map.Steps.{le-length_from_below}
use Rattle.eqc_netlist.specs.Names.{is_named, has_twice}
use Rattle.std.specs.Option.{is_some}
use Rattle.std.specs.declared.alloc.Global.{Global}
use Rattle.std.specs.declared.alloc.AllocError.{AllocError}
use Rattle.eqc_pair.specs.Matched.{position_of, has_all, same_names, ArePlaces}
use Rattle.eqc_pair.proofs.NameLemmas.{named_at}
use Rattle.eqc_netlist.proofs.NameLemmas.{bytes_eq-sym}

pub same_bytes : (a b : List ℕ) → bytes_eq a b ≡ true → a ≡ b
same_bytes a b e = search (rules, bytes_eq-Decides a b)

pub bytes_itself : (a : List ℕ) → bytes_eq a a ≡ true
bytes_itself [] = refl
bytes_itself (x ∷ xs) = rw (eq-eqb x x refl, bytes_itself xs) refl

-- a name stands below the length of the list that has it
pub place_below : (xs : List (List ℕ)) (w : List ℕ) → is_named xs w ≡ true → position_of xs w
    < length xs
place_below xs w e = ltb-true (position_of xs w) (length xs) (sym (named_at xs w) ∙ e)

-- and there it is
pub name_at : (xs : List (List ℕ)) (w : List ℕ) → is_named xs w ≡ true
    → get_or xs (position_of xs w) [] ≡ w
name_at xs w e = sym (same_bytes w (get_or xs (position_of xs w) [])
    (passes_at_first (λ other. bytes_eq w other) xs [] (place_below xs w e)))

pub named_index : (xs : List (List ℕ)) (i : ℕ) → i < length xs → is_named xs (get_or xs i []) ≡ true
named_index xs i inside = list_any_at (λ other. bytes_eq (get_or xs i []) other) xs i [] inside
    (bytes_itself (get_or xs i []))

-- each name of a list stands at its own place, where none stands twice
pub place_itself : (xs : List (List ℕ)) (i : ℕ) → has_twice xs ≡ false → i < length xs
    → position_of xs (get_or xs i []) ≡ i
place_itself [] i once inside = absurd (omega arith)
place_itself (x ∷ xs) zero once inside = rw (bytes_itself x) refl
place_itself (x ∷ xs) (suc i) once inside =
    by (place_itself xs i (or_parts (is_named xs x) (has_twice xs) once).1 (omega arith))
    (cases_Bool (bytes_eq (get_or xs i []) x))
  where
    by : position_of xs (get_or xs i []) ≡ i → (bytes_eq (get_or xs i []) x ≡ true)
        ⊎ (bytes_eq (get_or xs i []) x ≡ false) → position_of (x ∷ xs) (get_or xs i []) ≡ suc i
    by rest (inl same) =
        absurd (true≢false (sym (list_any_at (λ other. bytes_eq x other) xs i [] (omega arith)
        (bytes_eq-sym x (get_or xs i []) ∙ same))
        ∙ (or_parts (is_named xs x) (has_twice xs) once).0))
    by rest (inr other) = rw other (omega (arith, rest))

-- each of the others is among the names
pub all_named : (names others : List (List ℕ)) → has_all names others ≡ true → (i : ℕ)
    → i < length others → is_named names (get_or others i []) ≡ true
all_named names others all i inside = elim (cases_Bool (is_named names (get_or others i []))) [
  | inl is ↦ is
  | inr isnt ↦ absurd (false≢true (sym (list_all_at (λ name. is_named names name) others i [] inside
      isnt) ∙ all))
]

-- the places of the others among the names
pub place_at : (names others : List (List ℕ)) (v : ℕ) → v < length others
    → get_or (map (position_of names) others) v 0 ≡ position_of names (get_or others v [])
place_at names others v inside = get_or-map (position_of names) others v [] 0 inside

pub place_within : (names others : List (List ℕ)) → has_all names others ≡ true → (v : ℕ)
    → v < length others → get_or (map (position_of names) others) v 0 < length names
place_within names others all v inside = omega (
  arith,
  place_at names others v inside,
  place_below names (get_or others v []) (all_named names others all v inside),
)

-- the place of a name in the order that other names give
module _ (xs ws : List (List ℕ)) (once : has_twice xs ≡ false) (back : has_all ws xs ≡ true) (i : ℕ)
    (inside : i < length xs) where
  pub word_below : position_of ws (get_or xs i []) < length ws
  word_below = place_below ws (get_or xs i []) (all_named ws xs back i inside)

  -- a name's place in the other list leads back to it
  pub word_back : get_or (map (position_of xs) ws) (position_of ws (get_or xs i [])) 0 ≡ i
  word_back = place_at xs ws (position_of ws (get_or xs i [])) word_below
      ∙ (ap (position_of xs) (name_at ws (get_or xs i []) (all_named ws xs back i inside))
      ∙ place_itself xs i once inside)

-- a list whose names are all in another, none of them twice, is no longer
no_longer : (xs ws : List (List ℕ)) → has_twice xs ≡ false → has_all ws xs ≡ true
    → length xs ≤ length ws
no_longer xs ws once back =
    let less =
    le-length_from_below (map (position_of xs) ws) (length xs)
    (λ q inside.
    list_any_at (λ x. eqb q x) (map (position_of xs) ws) (position_of ws (get_or xs q [])) 0
    (omega (arith, length-map ws (position_of xs), word_below xs ws once back q inside))
    (eq-eqb q (get_or (map (position_of xs) ws) (position_of ws (get_or xs q [])) 0)
    (sym (word_back xs ws once back q inside)))) in
    omega (arith, less, length-map ws (position_of xs))

module _ (xs ws : List (List ℕ)) (xs_once : has_twice xs ≡ false) (ws_once : has_twice ws ≡ false)
    (all : has_all xs ws ≡ true) (back : has_all ws xs ≡ true) where
  pub same_count : length ws ≡ length xs
  same_count = omega (arith, no_longer xs ws xs_once back, no_longer ws xs ws_once all)

  -- the variable of a position is the place of its name among the words
  pub variable_at : (i : ℕ) → i < length xs → position_or_len (λ other. eqb i other)
      (map (position_of xs) ws) ≡ position_of ws (get_or xs i [])
  variable_at i inside =
      let v = position_of ws (get_or xs i []) in
      let few : v < length ws = word_below xs ws xs_once back i inside in
      position_or_len_is (λ other. eqb i other) (map (position_of xs) ws) v 0
      (omega (arith, length-map ws (position_of xs)))
      (λ k less. ne_eqb i (get_or (map (position_of xs) ws) k 0) (λ e. earlier k less e))
      (λ _. eq-eqb i (get_or (map (position_of xs) ws) v 0)
      (sym (word_back xs ws xs_once back i inside)))
    where
      earlier : (k : ℕ) → k < position_of ws (get_or xs i [])
          → i ≡ get_or (map (position_of xs) ws) k 0 → ⊥
      earlier k less e =
          let few : position_of ws (get_or xs i []) < length ws =
          word_below xs ws xs_once back i inside in
          let here : k < length ws = omega arith in
          let place : i ≡ position_of xs (get_or ws k []) = e ∙ place_at xs ws k here in
          let word : get_or xs i [] ≡ get_or ws k [] = ap (λ n. get_or xs n []) place
          ∙ name_at xs (get_or ws k []) (all_named xs ws all k here) in
          let same : position_of ws (get_or xs i []) ≡ k = ap (position_of ws) word
          ∙ place_itself ws k ws_once here in
          absurd (omega arith)

  -- a variable's position leads back to it
  pub position_back : (v : ℕ) → v < length ws
      → position_or_len (λ other. eqb (get_or (map (position_of xs) ws) v 0) other)
      (map (position_of xs) ws) ≡ v
  position_back v inside =
      let i = get_or (map (position_of xs) ws) v 0 in
      let word : get_or xs i [] ≡ get_or ws v [] =
      ap (λ n. get_or xs n []) (place_at xs ws v inside)
      ∙ name_at xs (get_or ws v []) (all_named xs ws all v inside) in
      variable_at i (place_within xs ws all v inside) ∙ (ap (position_of ws) word
      ∙ place_itself ws v ws_once inside)

  -- the variables of all positions
  pub variables_all : map (position_of ws) xs ≡ map (λ i. position_or_len (λ other. eqb i other)
      (map (position_of xs) ws)) (range_with_len 0 (length xs))
  variables_all =
      same_number_lists (map (position_of ws) xs) (map (λ i. position_or_len (λ other. eqb i other)
      (map (position_of xs) ws)) (range_with_len 0 (length xs)))
      (length-map xs (position_of ws)
      ∙ sym (length-map-range_with_len (λ i. position_or_len (λ other. eqb i other)
      (map (position_of xs) ws)) 0 (length xs)))
      (λ i inside.
      let less : i < length xs = omega (arith, length-map xs (position_of ws)) in
      get_or-map (position_of ws) xs i [] 0 less
      ∙ (sym (variable_at i less)
      ∙ sym (get_or-map-range_with_len (λ i. position_or_len (λ other. eqb i other)
      (map (position_of xs) ws)) 0 (length xs) i i 0 less (omega arith))))

-- places behind other names of the two lists
pub places_as : (names others xs ys : List (List ℕ)) (found : Option (Vec ℕ Global)) → xs ≡ names
    → ys ≡ others → ArePlaces xs ys found → ArePlaces names others found
places_as names others xs ys found ex ey h = rw (ex, ey) at h

-- where both lists have each other's names, their places are those of lists with the same names
pub same_places : (names others xs ys : List (List ℕ)) (back : Option (Vec ℕ Global)) (none : Bool)
    (result : Result (Option (Vec ℕ Global)) AllocError) →
    xs ≡ names → ys ≡ others → ArePlaces others names back → is_some back ≡ not none → none ≡ false
    → IfOk result (ArePlaces xs ys)
    → IfOk result (λ found. MatchOption found (same_names names others ≡ false)
    (λ all. (same_names names others ≡ true) × (all.items ≡ map (position_of names) others)))
same_places names others xs ys None none result ex ey back some here h =
    absurd (false≢true (rw here at some))
same_places names others xs ys (Some v) none (Err e) ex ey back some here h = tt
same_places names others xs ys (Some v) none (Ok None) ex ey back some here h =
    let h' = places_as names others xs ys None ex ey h in rw h' refl
same_places names others xs ys (Some v) none (Ok (Some all)) ex ey back some here h =
    let h' = places_as names others xs ys (Some all) ex ey h in (rw (h'.0, back.0) refl, h'.1)

-- ---- the order that is declared

pub declared_at : (n i : ℕ) → i < n → position_or_len (λ other. eqb i other) (range_with_len 0 n)
    ≡ i
declared_at n i inside =
    position_or_len_is (λ other. eqb i other) (range_with_len 0 n) i 0
    (omega (arith, length-range_with_len 0 n))
    (λ k less. ne_eqb i (get_or (range_with_len 0 n) k 0)
    (λ e. absurd (omega (arith, e, get_or-range_with_len 0 n k 0 (omega arith)))))
    (λ _. eq-eqb i (get_or (range_with_len 0 n) i 0) (omega (
      arith,
      get_or-range_with_len 0 n i 0
          inside,
    )))

pub declared_all : (n : ℕ) → range_with_len 0 n ≡ map (λ i. position_or_len (λ other. eqb i other)
    (range_with_len 0 n)) (range_with_len 0 n)
declared_all n =
    same_number_lists (range_with_len 0 n) (map (λ i. position_or_len (λ other. eqb i other)
    (range_with_len 0 n)) (range_with_len 0 n))
    (length-range_with_len 0 n
    ∙ sym (length-map-range_with_len (λ i. position_or_len (λ other. eqb i other)
    (range_with_len 0 n)) 0 n))
    (λ i inside.
    let less : i < n = omega (arith, length-range_with_len 0 n) in
    omega (
      arith,
      get_or-range_with_len 0 n i 0 less,
      declared_at n i less,
      get_or-map-range_with_len (λ i. position_or_len (λ other. eqb i other) (range_with_len 0 n))
          0 n i i 0 less (omega arith),
    ))
