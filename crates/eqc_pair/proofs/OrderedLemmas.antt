-- The orders that a text gives and that a netlist declares.
use Rattle.std.proofs.Common.{◌≡◌, ℕ, zero, suc, ◌+◌, ◌<◌, ◌≤◌, Bool, true, false, not, ◌&&◌}
use Rattle.std.proofs.Common.{nat_lt, if◌then◌else◌, Option, Some, None, List, [], ◌∷◌, ◌++◌, map}
use Rattle.std.proofs.Common.{length, get_or, refl, sym, ◌∙◌, ap, subst, arith, add-zero, zero-add}
use Rattle.std.proofs.Common.{add-one}
use Rattle.std.specs.List.{range_with_len}
use Rattle.std.proofs.lemmas.List.{length-map, get_or-map}
use Rattle.std.proofs.lemmas.List.FromFn.{length-range_with_len, get_or-range_with_len}
use Rattle.std.proofs.lemmas.List.FromFn.{get_or-map-range_with_len, length-map-range_with_len}
use Rattle.std.proofs.lemmas.Grind.{same_number_lists}
use Rattle.eqc_netlist.specs.Names.{has_twice}
use Rattle.eqc_pair.specs.Matched.{position_of, has_all, same_names, order_words, order_code}
use Rattle.eqc_pair.specs.PairOf.{IsOrder, variable_in, variables_in}
use Rattle.eqc_pair.proofs.PlaceLemmas.{place_below, all_named, place_within, word_below, word_back}
use Rattle.eqc_pair.proofs.PlaceLemmas.{same_count, variable_at, position_back, variables_all}
use Rattle.eqc_pair.proofs.PlaceLemmas.{declared_at, declared_all}

-- the order of words, each of which names one input
pub words_order : (inputs words : List (List ℕ)) → has_twice inputs ≡ false
    → has_twice words ≡ false → has_all inputs words ≡ true →
    has_all words inputs ≡ true → IsOrder (length inputs) (map (position_of inputs) words)
words_order inputs words once words_once all back =
    let count = same_count inputs words once words_once all back in
    record {
      count = length-map words (position_of inputs) ∙ count;
      position_within = λ v inside. place_within inputs words all v (omega arith);
      variable_within = λ i inside. omega (
        arith,
        variable_at inputs words once words_once all back
            i inside,
        word_below inputs words once back i inside,
      );
      at_variable = λ i inside. ap (λ v. get_or (map (position_of inputs) words) v 0)
          (variable_at inputs words once words_once all back i inside)
          ∙ word_back inputs words once back i inside;
      at_position = λ v inside. position_back inputs words once words_once all back v (omega arith);
    }

-- its variables
pub words_variables : (inputs words : List (List ℕ)) → has_twice inputs ≡ false
    → has_twice words ≡ false → has_all inputs words ≡ true →
    has_all words inputs ≡ true → map (position_of words) inputs ≡ variables_in (length inputs)
    (map (position_of inputs) words)
words_variables inputs words once words_once all back = variables_all inputs words once words_once
    all back

pub declared_order : (n : ℕ) → IsOrder n (range_with_len 0 n)
declared_order n = record {
  count = length-range_with_len 0 n;
  position_within = λ v inside. omega (arith, get_or-range_with_len 0 n v 0 inside);
  variable_within = λ i inside. omega (arith, declared_at n i inside);
  at_variable = λ i inside. ap (λ v. get_or (range_with_len 0 n) v 0) (declared_at n i inside)
      ∙ omega (arith, get_or-range_with_len 0 n i 0 inside);
  at_position = λ v inside. ap (variable_in (range_with_len 0 n))
      (let at : get_or (range_with_len 0 n) v 0 ≡ v =
      omega (arith, get_or-range_with_len 0 n v 0 inside) in at) ∙ declared_at n v inside;
}

pub declared_variables : (n : ℕ) → range_with_len 0 n ≡ variables_in n (range_with_len 0 n)
declared_variables n = declared_all n

-- ---- numbers that fit two bytes

range_push : (a n : ℕ) → range_with_len a (suc n) ≡ range_with_len a n ++ (a + n) ∷ []
range_push a zero = ap (λ k. k ∷ []) (sym (add-zero a))
range_push a (suc n) = ap (λ l. a ∷ l) (range_push (a + 1) n
    ∙ ap (λ k. range_with_len (a + 1) n ++ k ∷ []) (omega arith))

-- one more number of a range
pub range_more : (n : ℕ) (numbers more : List ℕ) → numbers ≡ range_with_len 0 n
    → more ≡ numbers ++ n ∷ [] → more ≡ range_with_len 0 (n + 1)
range_more n numbers more is grown = grown ∙ (ap (λ l. l ++ n ∷ []) is
    ∙ (ap (λ k. range_with_len 0 n ++ k ∷ []) (sym (zero-add n)) ∙ (sym (range_push 0 n)
    ∙ ap (range_with_len 0) (sym (add-one n)))))

pub range_small : (n : ℕ) (numbers slice : List ℕ) → n ≤ 65535 → numbers ≡ range_with_len 0 n
    → slice ≡ numbers → (i : ℕ) → i < length slice → get_or slice i 0 < 65536
range_small n numbers slice few is same i inside =
    let e = same ∙ is in
    omega (
      arith,
      ap (λ l. get_or l i 0) e,
      ap length e,
      get_or-range_with_len 0 n i 0
          (omega (arith, ap length e, length-range_with_len 0 n)),
      length-range_with_len 0 n,
    )

pub range_variables : (n k : ℕ) (numbers slice other order variables : List ℕ) → k ≡ n
    → numbers ≡ range_with_len 0 k → slice ≡ numbers →
    order ≡ slice → other ≡ numbers → variables ≡ other → variables ≡ variables_in n order
range_variables n k numbers slice other order variables whole is s o t v =
    let range = is ∙ ap (range_with_len 0) whole in
    v ∙ (t ∙ (range ∙ (declared_variables n ∙ ap (variables_in n) (sym (o ∙ (s ∙ range))))))

pub range_order : (n k : ℕ) (numbers slice order : List ℕ) → k ≡ n → numbers ≡ range_with_len 0 k
    → slice ≡ numbers → order ≡ slice → IsOrder n order
range_order n k numbers slice order whole is s o =
    subst (IsOrder n) (sym (o ∙ (s ∙ (is ∙ ap (range_with_len 0) whole)))) (declared_order n)

module _ (inputs words : List (List ℕ)) (once : has_twice inputs ≡ false) (words_once : has_twice
    words ≡ false)
    (all : has_all inputs words ≡ true) (back : has_all words inputs ≡ true) (few : length inputs
    ≤ 65535) where
  words_small : (k : ℕ) → k < length (map (position_of inputs) words)
      → get_or (map (position_of inputs) words) k 0 < 65536
  words_small k inside = omega (
    arith,
    place_within inputs words all k
        (omega (arith, length-map words (position_of inputs))),
  )

  inputs_small : (k : ℕ) → k < length (map (position_of words) inputs)
      → get_or (map (position_of words) inputs) k 0 < 65536
  inputs_small k inside = omega (
    arith,
    place_within words inputs back k
        (omega (arith, length-map inputs (position_of words))),
    same_count inputs words once
        words_once all back,
  )

-- the code of an order text by its tests
abbrev code_by : Bool → Bool → Bool → Bool → Option ℕ
code_by long all twice back = if long then Some 2 else if not all then Some 51 else if twice then
    Some 52 else if not back then Some 53 else None

-- what an order text that is taken says of its words
taken_words : (inputs : List (List ℕ)) (text : List ℕ) → order_code inputs text ≡ None →
    (has_all inputs (order_words text) ≡ true) × (has_twice (order_words text) ≡ false)
    × (has_all (order_words text) inputs ≡ true)
taken_words inputs text taken = by (nat_lt 16777216 (length text))
    (has_all inputs (order_words text)) (has_twice (order_words text)) (has_all (order_words text)
    inputs) taken
  where
    by : (long all twice back : Bool) → code_by long all twice back ≡ None → (all ≡ true)
        × (twice ≡ false) × (back ≡ true)
    by true all twice back e = absurd (cc)
    by false false twice back e = absurd (cc)
    by false true true back e = absurd (cc)
    by false true false false e = absurd (cc)
    by false true false true e = (refl, refl, refl)

-- an order text that is taken: its words' places among the inputs, and the inputs' among the words
module _ (inputs : List (List ℕ)) (text : List ℕ) (once : has_twice inputs ≡ false)
    (few : length inputs ≤ 65535) (taken : order_code inputs text ≡ None) where
  taken_positions_small : (k : ℕ) → k < length (map (position_of inputs) (order_words text))
      → get_or (map (position_of inputs) (order_words text)) k 0 < 65536
  taken_positions_small = let t = taken_words inputs text taken in
      words_small inputs (order_words text) once t.1 t.0 t.2 few

  taken_variables_small : (k : ℕ) → k < length (map (position_of (order_words text)) inputs)
      → get_or (map (position_of (order_words text)) inputs) k 0 < 65536
  taken_variables_small = let t = taken_words inputs text taken in
      inputs_small inputs (order_words text) once t.1 t.0 t.2 few

  pub positions_small : (slice positions : List ℕ) → slice ≡ positions
      → positions ≡ map (position_of inputs) (order_words text) → (k : ℕ) → k < length slice
      → get_or slice k 0 < 65536
  positions_small slice positions is are = subst (λ (l : List ℕ). (k : ℕ) → k < length l
      → get_or l k 0 < 65536) (sym (is ∙ are)) taken_positions_small

  pub variables_small : (slice variables : List ℕ) → slice ≡ variables
      → variables ≡ map (position_of (order_words text)) inputs → (k : ℕ) → k < length slice
      → get_or slice k 0 < 65536
  variables_small slice variables is are = subst (λ (l : List ℕ). (k : ℕ) → k < length l
      → get_or l k 0 < 65536) (sym (is ∙ are)) taken_variables_small

  pub taken_order : (order : List ℕ) → order ≡ map (position_of inputs) (order_words text)
      → IsOrder (length inputs) order
  taken_order order are = let t = taken_words inputs text taken in
      subst (IsOrder (length inputs)) (sym are) (words_order inputs (order_words text) once t.1 t.0
      t.2)

  pub taken_variables : (order variables : List ℕ)
      → order ≡ map (position_of inputs) (order_words text) →
      variables ≡ map (position_of (order_words text)) inputs
      → variables ≡ variables_in (length inputs) order
  taken_variables order variables are is =
      let t = taken_words inputs text taken in
      is ∙ (words_variables inputs (order_words text) once t.1 t.0 t.2
      ∙ ap (variables_in (length inputs)) (sym are))

-- ---- what a comparison reads

map_map : {A B C : Type 0} (f : B → C) (g : A → B) (xs : List A) → map f (map g xs)
    ≡ map (λ x. f (g x)) xs
map_map f g [] = refl
map_map f g (x ∷ xs) = ap (λ l. f (g x) ∷ l) (map_map f g xs)

pub signals_picked : (signals places all : List ℕ) (names others : List (List ℕ))
    → places ≡ map (position_of names) others →
    all ≡ map (λ place. get_or signals place 0) places
    → all ≡ map (λ name. get_or signals (position_of names name) 0) others
signals_picked signals places all names others are picked = picked
    ∙ (ap (map (λ place. get_or signals place 0)) are ∙ map_map (λ place. get_or signals place 0)
    (position_of names) others)

pub length-variables_in : (n : ℕ) (order : List ℕ) → length (variables_in n order) ≡ n
length-variables_in n order = length-map-range_with_len (variable_in order) 0 n

pub variables_picked : (order variables places all : List ℕ) (names others : List (List ℕ))
    → has_all names others ≡ true →
    variables ≡ variables_in (length names) order → places ≡ map (position_of names) others
    → all ≡ map (λ place. get_or variables place 0) places
    → all ≡ map (λ name. variable_in order (position_of names name)) others
variables_picked order variables places all names others each are at picked =
    let whole = signals_picked variables places all names others at picked in
    same_number_lists all (map (λ name. variable_in order (position_of names name)) others)
    (ap length whole ∙ (length-map others (λ name. get_or variables (position_of names name) 0)
    ∙ sym (length-map others (λ name. variable_in order (position_of names name)))))
    (λ k inside.
    let less : k < length others =
    omega (
      arith,
      ap length whole,
      length-map others (λ name. get_or variables (position_of names name) 0),
    ) in
    let name = get_or others k [] in
    let below = place_below names name (all_named names others each k less) in
    ap (λ l. get_or l k 0) whole ∙ (get_or-map (λ name. get_or variables (position_of names name) 0)
    others k [] 0 less
    ∙ (ap (λ l. get_or l (position_of names name) 0) are
    ∙ (get_or-map-range_with_len (variable_in order) 0 (length names) (position_of names name)
    (position_of names name) 0 below (omega arith)
    ∙ sym (get_or-map (λ name. variable_in order (position_of names name)) others k [] 0 less)))))

pub places_fit : (names others : List (List ℕ)) (places : List ℕ) (n : ℕ) → has_all names others
    ≡ true →
    places ≡ map (position_of names) others → n ≡ length names → (k : ℕ) → k < length places
    → get_or places k 0 < n
places_fit names others places n each are whole k inside =
    omega (
      arith,
      ap (λ l. get_or l k 0) are,
      place_within names others each k
          (omega (arith, ap length are, length-map others (position_of names))),
    )

-- two lists with the same names have each other's
pub both_ways : (xs ys : List (List ℕ)) → same_names xs ys ≡ true → (has_all xs ys ≡ true)
    × (has_all ys xs ≡ true)
both_ways xs ys same = by (has_all xs ys) (has_all ys xs) same
  where
    by : (a b : Bool) → (a && b) ≡ true → (a ≡ true) × (b ≡ true)
    by true b e = (refl, e)
    by false b e = absurd (cc)
