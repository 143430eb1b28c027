-- Signals of equal structure have equal values.
use Rattle.std.proofs.Common.{◌≡◌, ℕ, zero, suc, ◌<◌, Bool, true, false, not, ◌&&◌, ◌||◌, ◌==◌}
use Rattle.std.proofs.Common.{cond, List, [], ◌∷◌, length, get_or, map, refl, sym, ◌∙◌, ap, subst}
use Rattle.std.proofs.Common.{arith}
use Rattle.std.specs.List.{list_any}
use Rattle.std.specs.Str.{bytes_eq}
use Rattle.std.proofs.lemmas.Bool.{and_parts, true≢false, eqb-true}
use Rattle.eqc_netlist.specs.Cover.{cover_value, is_on, is_on_set, row_matches}
use Rattle.eqc_netlist.specs.Graph.{FlatOf, IsFlat, FollowsDrivers, DriverOf, input, tie, cover}
use Rattle.eqc_netlist.specs.Graph.{driver_at, dependencies, driven, value_of}
use Rattle.eqc_netlist.proofs.EvaluationLaws.{dep_before, step_of}
use Rattle.eqc_netlist.proofs.NameSetLaws.{bytes_same}
use Rattle.eqc_strash.specs.Structure.{Structure, Structures, variable, constant, gate, no_more}
use Rattle.eqc_strash.specs.Structure.{then_more, in_row, is_constant, repeats, passes_on}
use Rattle.eqc_strash.specs.Structure.{cover_structure, driver_structure, structure_of}
use Rattle.eqc_strash.specs.Classes.{inputs_under}
use Rattle.eqc_strash.proofs.ShapeLaws.{map_alike}
use Rattle.eqc_strash.proofs.StructureLaws.{structure_follows}

-- the value of a structure under values of variables
abbrev mutual
  structure_value : (ℕ → Bool) → Structure → Bool
  structure_value a (variable v) = a v
  structure_value a (constant b) = b
  structure_value a (gate rows columns) = cover_value rows (structure_values a columns)

  structure_values : (ℕ → Bool) → Structures → List Bool
  structure_values a no_more = []
  structure_values a (then_more x xs) = structure_value a x ∷ structure_values a xs

values_in_row : (a : ℕ → Bool) (xs : List Structure) → structure_values a (in_row xs)
    ≡ map (structure_value a) xs
values_in_row a [] = refl
values_in_row a (x ∷ xs) = ap (λ l. structure_value a x ∷ l) (values_in_row a xs)

-- ---- covers

-- without columns the first row decides
no_columns : (rows : List (List ℕ)) → cover_value rows [] ≡ is_on_set rows
no_columns [] = refl
no_columns (row ∷ rows) = by (is_on row)
  where
    by : (b : Bool) → cond b (list_any (λ (r : List ℕ). row_matches r []) (row ∷ rows))
        (not (list_any (λ (r : List ℕ). row_matches r []) (row ∷ rows))) ≡ b
    by true = refl
    by false = refl

constant_cover : (a : ℕ → Bool) (rows : List (List ℕ)) (xs : List Structure)
    → is_constant rows (length xs) ≡ true → cover_value rows (map (structure_value a) xs)
    ≡ is_on_set rows
constant_cover a [] xs e = refl
constant_cover a (row ∷ rows) [] e = no_columns (row ∷ rows)
constant_cover a (row ∷ rows) (x ∷ xs) e = absurd (by (length (row ∷ rows) == 0) refl)
  where
    by : (b : Bool) → (length (row ∷ rows) == 0) ≡ b → ⊥
    by true h = let none = eqb-true (length (row ∷ rows)) 0 h in omega (arith, none)
    by false h =
        let rest : (length (x ∷ xs) == 0) ≡ true = rw h at e in
        let none = eqb-true (length (x ∷ xs)) 0 rest in
        omega (arith, none)

repeated : (row : List ℕ) (v : Bool) → repeats row ≡ true → cover_value (row ∷ []) (v ∷ []) ≡ v
repeated row v e = by (bytes_eq row (49 ∷ 49 ∷ [])) refl
  where
    high : (b : Bool) → cover_value ((49 ∷ 49 ∷ []) ∷ []) (b ∷ []) ≡ b
    high true = refl
    high false = refl

    low : (b : Bool) → cover_value ((48 ∷ 48 ∷ []) ∷ []) (b ∷ []) ≡ b
    low true = refl
    low false = refl

    by : (b : Bool) → bytes_eq row (49 ∷ 49 ∷ []) ≡ b → cover_value (row ∷ []) (v ∷ []) ≡ v
    by true h = subst (λ r. cover_value (r ∷ []) (v ∷ []) ≡ v)
        (sym (bytes_same row (49 ∷ 49 ∷ []) h)) (high v)
    by false h =
        let other : bytes_eq row (48 ∷ 48 ∷ []) ≡ true =
        sym (ap (λ b. b || bytes_eq row (48 ∷ 48 ∷ [])) h) ∙ e in
        subst (λ r. cover_value (r ∷ []) (v ∷ []) ≡ v) (sym (bytes_same row (48 ∷ 48 ∷ []) other))
        (low v)

passing_cover : (a : ℕ → Bool) (rows : List (List ℕ)) (xs : List Structure)
    → passes_on rows (length xs) ≡ true
    → cover_value rows (map (structure_value a) xs)
    ≡ structure_value a (get_or xs 0 (constant false))
passing_cover a rows [] e = absurd (true≢false (sym e))
passing_cover a [] (x ∷ []) e = absurd (true≢false (sym e))
passing_cover a (row ∷ []) (x ∷ []) e = repeated row (structure_value a x) e
passing_cover a (row ∷ other ∷ rows) (x ∷ []) e =
    let one = eqb-true (length (row ∷ other ∷ rows)) 1 (and_parts (length (row ∷ other ∷ rows) == 1)
    (repeats row) e).0 in
    absurd (omega (arith, one))
passing_cover a rows (x ∷ y ∷ xs) e =
    let one = eqb-true (length (x ∷ y ∷ xs)) 1 (and_parts (length (x ∷ y ∷ xs) == 1)
    ((length rows == 1) && repeats (get_or rows 0 [])) e).0 in
    absurd (omega (arith, one))

cover_same : (a : ℕ → Bool) (rows : List (List ℕ)) (xs : List Structure)
    → cover_value rows (map (structure_value a) xs) ≡ structure_value a (cover_structure rows xs)
cover_same a rows xs = by (is_constant rows (length xs)) refl (passes_on rows (length xs)) refl
  where
    by : (b : Bool) → is_constant rows (length xs) ≡ b → (c : Bool) → passes_on rows (length xs) ≡ c
        → cover_value rows (map (structure_value a) xs)
        ≡ structure_value a (cover_structure rows xs)
    by true h c g = rw h (constant_cover a rows xs h)
    by false h true g = rw (h, g) (passing_cover a rows xs g)
    by false h false g = rw (h, g) (ap (cover_value rows) (sym (values_in_row a xs)))

-- ---- signals

map_map : (a : ℕ → Bool) (t : ℕ → Structure) (xs : List ℕ) → map (λ x. structure_value a (t x)) xs
    ≡ map (structure_value a) (map t xs)
map_map a t [] = refl
map_map a t (x ∷ xs) = ap (λ l. structure_value a (t x) ∷ l) (map_map a t xs)

driven_same : (rows : List (List (List ℕ))) (variables : List ℕ) (a v : ℕ → Bool) (t : ℕ
    → Structure) (driver : DriverOf)
    → ((c : ℕ) → c < length (dependencies driver)
    → v (get_or (dependencies driver) c 0)
    ≡ structure_value a (t (get_or (dependencies driver) c 0)))
    → driven rows (inputs_under variables a) v driver
    ≡ structure_value a (driver_structure rows variables t driver)
driven_same rows variables a v t (input position) same = refl
driven_same rows variables a v t (tie other) same = same 0 (omega arith)
driven_same rows variables a v t (cover columns r) same =
    ap (cover_value (get_or rows r [])) (map_alike v (λ x. structure_value a (t x)) columns same
    ∙ map_map a t columns)
    ∙ cover_same a (get_or rows r []) (map t columns)

value_below : (f : FlatOf) (variables : List ℕ) (a : ℕ → Bool) (m k : ℕ) → IsFlat f
    → FollowsDrivers f → k < m
    → k < length f.steps
    → value_of f (inputs_under variables a) (get_or f.steps k 0)
    ≡ structure_value a (structure_of f variables (get_or f.steps k 0))
value_below f variables a zero k h follows below inside = absurd (omega (arith, below))
value_below f variables a (suc m) k h follows below inside =
    let s = get_or f.steps k 0 in
    let within = h.steps_within k inside in
    follows (inputs_under variables a) s within
    ∙ (driven_same f.rows variables a (value_of f (inputs_under variables a))
    (structure_of f variables) (driver_at f s) (λ c among.
    let w = dep_before f k c h inside among in
    let earlier = value_below f variables a m w.0 h follows (omega (arith, w.1, below))
    (omega (arith, w.1, inside)) in
    subst (λ d. value_of f (inputs_under variables a) d
    ≡ structure_value a (structure_of f variables d)) w.2 earlier)
    ∙ ap (structure_value a) (sym (structure_follows f variables s h within)))

value_is : (f : FlatOf) (variables : List ℕ) (a : ℕ → Bool) (s : ℕ) → IsFlat f → FollowsDrivers f
    → s < length f.drivers
    → value_of f (inputs_under variables a) s ≡ structure_value a (structure_of f variables s)
value_is f variables a s h follows inside =
    let w = step_of f s h inside in
    subst (λ t. value_of f (inputs_under variables a) t
    ≡ structure_value a (structure_of f variables t)) w.2 (value_below f variables a (suc w.0)
    w.0 h follows (omega arith) w.1)

pub equal_values : (f g : FlatOf) (variables others : List ℕ) (s t : ℕ) (a : ℕ → Bool) → IsFlat f
    → FollowsDrivers f → IsFlat g
    → FollowsDrivers g → s < length f.drivers → t < length g.drivers → structure_of f variables s
    ≡ structure_of g others t
    → value_of f (inputs_under variables a) s ≡ value_of g (inputs_under others a) t
equal_values f g variables others s t a h follows i leads inside within same =
    value_is f variables a s h follows inside ∙ (ap (structure_value a) same
    ∙ sym (value_is g others a t i leads within))
