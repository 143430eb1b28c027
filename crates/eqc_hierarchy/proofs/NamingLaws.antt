-- Names that occur in a model, and formals that the models of the instances have.
use Rattle.std.proofs.Common.{
  ◌≡◌,
  ℕ,
  ◌+◌,
  ◌<◌,
  ◌≤◌,
  inl,
  inr,
  Bool,
  true,
  false,
  not,
  ◌||◌,
  List,
  [],
  ◌∷◌,
  ◌++◌,
  length,
  map,
  take,
  get_or,
  refl,
  sym,
  ◌∙◌,
  ap,
  subst,
  arith,
  position,
  Some,
  suc,
  nat_lt,
  if◌then◌else◌,
}
use Rattle.std.specs.Prelude.{slice_index_or, filter}
use Rattle.std.specs.List.{flat_map, list_any, position_or_len}
use Rattle.std.specs.Str.{bytes_eq}
use Rattle.std.proofs.lemmas.Bool.{true≢false, or_cases, or_left, or_parts, cases_lt, lt-ltb}
use Rattle.std.proofs.lemmas.Bool.{le-ltb}
use Rattle.std.proofs.lemmas.List.{get_or-map, get_or_past, length-map, map-append, take_more}
use Rattle.std.proofs.lemmas.List.{append_assoc, append-nil}
use Rattle.std.proofs.lemmas.List.Sums.{passes_at_first}
use Rattle.eqc_blif.specs.Netlist.{ModelOf, InstanceOf, no_cover, no_model}
use Rattle.eqc_netlist.specs.Names.{is_named, has_twice}
use Rattle.eqc_hierarchy.specs.Hierarchy.{model, model_number, callees, reached, model_at, paths}
use Rattle.eqc_hierarchy.specs.Signals.{cover_names, actuals, once_each, names_of}
use Rattle.eqc_hierarchy.specs.Codes.{formals, has_unknown_formal}
use Rattle.eqc_hierarchy.proofs.Distinct.{Member, member_left, member_right, member_get}
use Rattle.eqc_hierarchy.proofs.Distinct.{member_piece, member_map}
use Rattle.eqc_hierarchy.proofs.PathLaws.{models_reached}
use Rattle.eqc_netlist.proofs.Depth.{or_right}
use Rattle.eqc_netlist.proofs.NameSetLaws.{bytes_same, bytes_self}
use Rattle.std.proofs.lemmas.Grind.{flat_map-append}
use Rattle.eqc_hierarchy.specs.Columns.{columns_of}

-- what stands for an instance where there is none
abbrev pub no_instance : InstanceOf
no_instance = record { model = []; pairs = [] }

pub member_named : (name : List ℕ) (names : List (List ℕ)) → Member name names → is_named names name
    ≡ true
member_named name [] h = absurd h
member_named name (x ∷ names) (inl same) = or_left (bytes_eq name x) (is_named names name)
    (rw same (bytes_self name))
member_named name (x ∷ names) (inr there) = or_right (bytes_eq name x) (is_named names name)
    (member_named name names there)

pub named_member : (name : List ℕ) (names : List (List ℕ)) → is_named names name ≡ true
    → Member name names
named_member name [] e = absurd (true≢false (sym e))
named_member name (x ∷ names) e = elim (or_cases (bytes_eq name x) (is_named names name) e) [
  | inl same ↦ inl (sym (bytes_same name x same))
  | inr there ↦ inr (named_member name names there)
]

-- where a name first stands it stands
pub named_at : (names : List (List ℕ)) (name : List ℕ) (k : ℕ)
    → k ≡ position_or_len (λ other. bytes_eq name other) names → k < length names
    → slice_index_or names k [] ≡ name
named_at names name k at inside =
    let found : bytes_eq name (get_or names (position_or_len (λ other. bytes_eq name other) names)
    []) ≡ true = passes_at_first (λ other. bytes_eq name other) names [] (rw (sym at) inside) in
    ap (λ j. get_or names j []) at
    ∙ sym (bytes_same name (get_or names (position_or_len (λ other. bytes_eq name other) names)
    []) found)

kept : (name : List ℕ) (x : List ℕ) (xs : List (List ℕ)) → Member name xs → bytes_eq x name ≡ false
    → Member name (filter (λ other. not (bytes_eq x other)) xs)
kept name x [] h e = absurd h
kept name x (y ∷ xs) h e = by_test (bytes_eq x y) refl h (λ k. kept name x xs k e)
  where
    by_test : (b : Bool) → bytes_eq x y ≡ b → Member name (y ∷ xs)
        → (Member name xs → Member name (filter (λ other. not (bytes_eq x other)) xs))
        → Member name (filter (λ other. not (bytes_eq x other)) (y ∷ xs))
    by_test true k (inl same) up = let P : List ℕ → Type 0 = λ z. bytes_eq x z ≡ true in
        absurd (true≢false (sym (subst P same k) ∙ e))
    by_test true k (inr there) up = rw k (up there)
    by_test false k (inl same) up = rw k (inl same)
    by_test false k (inr there) up = rw k (inr (up there))

pub once_member : (name : List ℕ) (names : List (List ℕ)) → Member name names
    → Member name (once_each names)
once_member name [] h = absurd h
once_member name (x ∷ names) (inl same) = inl same
once_member name (x ∷ names) (inr there) =
    by_test (bytes_eq x name) refl (once_member name names there)
  where
    by_test : (b : Bool) → bytes_eq x name ≡ b → Member name (once_each names)
        → Member name (once_each (x ∷ names))
    by_test true e up = inl (bytes_same x name e)
    by_test false e up = inr (kept name x (once_each names) up e)

-- the names of a model before each is put in once
all_names : ModelOf → List (List ℕ)
all_names m = m.inputs ++ m.outputs ++ flat_map cover_names m.covers ++ flat_map actuals m.instances

occurs : (m : ModelOf) (name : List ℕ)
    → Member name (m.inputs ++ m.outputs ++ flat_map cover_names m.covers
    ++ flat_map actuals m.instances) → is_named (names_of m) name ≡ true
unfolding names_of
occurs m name h =
    member_named name (once_each (m.inputs ++ m.outputs ++ flat_map cover_names m.covers
    ++ flat_map actuals m.instances))
    (once_member name (m.inputs ++ m.outputs ++ flat_map cover_names m.covers
    ++ flat_map actuals m.instances) h)

pub input_named : (m : ModelOf) (k : ℕ) → k < length m.inputs
    → is_named (names_of m) (slice_index_or m.inputs k []) ≡ true
input_named m k h =
    occurs m (get_or m.inputs k [])
    (member_left (get_or m.inputs k []) (m.inputs ++ m.outputs ++ flat_map cover_names m.covers)
    (flat_map actuals m.instances)
    (member_left (get_or m.inputs k []) (m.inputs ++ m.outputs) (flat_map cover_names m.covers)
    (member_left (get_or m.inputs k []) m.inputs m.outputs (member_get m.inputs k [] h))))

pub output_named : (m : ModelOf) (k : ℕ) → k < length m.outputs
    → is_named (names_of m) (slice_index_or m.outputs k []) ≡ true
output_named m k h =
    occurs m (get_or m.outputs k [])
    (member_left (get_or m.outputs k []) (m.inputs ++ m.outputs ++ flat_map cover_names m.covers)
    (flat_map actuals m.instances)
    (member_left (get_or m.outputs k []) (m.inputs ++ m.outputs) (flat_map cover_names m.covers)
    (member_right (get_or m.outputs k []) m.inputs m.outputs (member_get m.outputs k [] h))))

in_cover : (m : ModelOf) (k : ℕ) (name : List ℕ) → k < length m.covers
    → Member name (cover_names (slice_index_or m.covers k no_cover)) → is_named (names_of m) name
    ≡ true
in_cover m k name h there =
    occurs m name
    (member_left name (m.inputs ++ m.outputs ++ flat_map cover_names m.covers)
    (flat_map actuals m.instances)
    (member_right name (m.inputs ++ m.outputs) (flat_map cover_names m.covers)
    (member_piece cover_names m.covers (get_or m.covers k no_cover) name (member_get m.covers k
    no_cover h) there)))

pub column_named : (m : ModelOf) (k j : ℕ) → k < length m.covers
    → j < length (slice_index_or m.covers k no_cover).columns
    → is_named (names_of m) (slice_index_or (slice_index_or m.covers k no_cover).columns j [])
    ≡ true
column_named m k j h here =
    let c = get_or m.covers k no_cover in
    in_cover m k (get_or c.columns j []) h (member_left (get_or c.columns j []) c.columns (c.output
    ∷ []) (member_get c.columns j [] here))

pub driven_named : (m : ModelOf) (k : ℕ) → k < length m.covers
    → is_named (names_of m) (slice_index_or m.covers k no_cover).output ≡ true
driven_named m k h =
    let c = get_or m.covers k no_cover in
    in_cover m k c.output h (member_right c.output c.columns (c.output ∷ []) (inl refl))

pub actual_named : (m : ModelOf) (i j : ℕ) → i < length m.instances
    → j < length (slice_index_or m.instances i no_instance).pairs
    → is_named (names_of m) (slice_index_or (slice_index_or m.instances i no_instance).pairs j (
      [],
      [],
    )).1 ≡ true
actual_named m i j h here =
    let one = get_or m.instances i no_instance in
    let pair = get_or one.pairs j ([], []) in
    occurs m pair.1
    (member_right pair.1 (m.inputs ++ m.outputs ++ flat_map cover_names m.covers)
    (flat_map actuals m.instances)
    (member_piece actuals m.instances one pair.1 (member_get m.instances i no_instance h)
    (member_map (λ (p : List ℕ × List ℕ). p.1) pair one.pairs (member_get one.pairs j ([], [])
    here))))

pub formal_named : (m : ModelOf) (formal : List ℕ) → is_named (m.inputs ++ m.outputs) formal ≡ true
    → is_named (names_of m) formal ≡ true
formal_named m formal e =
    occurs m formal
    (member_left formal (m.inputs ++ m.outputs ++ flat_map cover_names m.covers)
    (flat_map actuals m.instances)
    (member_left formal (m.inputs ++ m.outputs) (flat_map cover_names m.covers)
    (named_member formal (m.inputs ++ m.outputs) e)))

-- what no element passes a member does not pass
pub none_member : {X : Type 0} (p : X → Bool) (xs : List X) (x : X) → list_any p xs ≡ false
    → Member x xs → p x ≡ false
none_member p [] x e h = absurd h
none_member {X} p (y ∷ xs) x e (inl same) = let P : X → Type 0 = λ w. p w ≡ false in
    subst P same ((or_parts (p y) (list_any p xs) e).0)
none_member p (y ∷ xs) x e (inr there) = none_member p xs x ((or_parts (p y) (list_any p xs) e).1)
    there

-- the model of an instance is that of the name at its position
pub callee_at : (library : List ModelOf) (m p : ℕ) → p < length (model library m).instances
    → slice_index_or (callees library m) p (length library)
    ≡ model_number library (slice_index_or (model library m).instances p no_instance).model
unfolding callees
callee_at library m p h = get_or-map (λ (i : InstanceOf). model_number library i.model)
    (model library m).instances p no_instance (length library) h

pub callee_count : (library : List ModelOf) (m : ℕ) → length (callees library m)
    ≡ length (model library m).instances
unfolding callees
callee_count library m = length-map (model library m).instances (λ (i : InstanceOf). model_number
    library i.model)

-- without code 23 each formal is a port of its model
pub formal_there : (library : List ModelOf) (top : ℕ) (path : List ℕ) (i : InstanceOf)
    (pair : List ℕ × List ℕ)
    → has_unknown_formal library top ≡ false → Member path (paths library top)
    → Member i (model library (model_at library top path)).instances → Member pair i.pairs
    → is_named ((model library (model_number library i.model)).inputs
    ++ (model library (model_number library i.model)).outputs) pair.0
    ≡ true
unfolding has_unknown_formal
formal_there library top path i pair none of here there =
    let unknown : InstanceOf → List ℕ → Bool = λ (i : InstanceOf) (formal : List ℕ).
    not (is_named ((model library (model_number library i.model)).inputs
    ++ (model library (model_number library i.model)).outputs)
    formal) in
    let P : List ℕ → Type 0 = λ ms. Member (model_at library top path) ms in
    let reaches : Member (model_at library top path) (reached library top) =
    subst P (models_reached library top (length library)) (member_map (model_at library top)
    path (paths library top) of) in
    let of_model = none_member (λ m. list_any (λ (i : InstanceOf). list_any (unknown i) (formals i))
    (model library m).instances) (reached library top) (model_at library top path) none reaches
    in
    let of_instance = none_member (λ (i : InstanceOf). list_any (unknown i) (formals i))
    (model library (model_at library top path)).instances i of_model here in
    not_false
    (is_named ((model library (model_number library i.model)).inputs
    ++ (model library (model_number library i.model)).outputs) pair.0)
    (none_member (unknown i) (formals i) pair.0 of_instance (member_map (λ (p : List ℕ
    × List ℕ). p.0) pair i.pairs there))
  where
    not_false : (b : Bool) → not b ≡ false → b ≡ true
    not_false true e = refl
    not_false false e = absurd (true≢false e)

-- the sets of names of the models
sets_place : {Y : Type 0} (f : ModelOf → Y) (library : List ModelOf) (m : ℕ) (d : Y)
    → m < length library → get_or (map f library) m d ≡ f (model library m)
sets_place f library m d h = get_or-map f library m no_model d h

pub sets_size : (library : List ModelOf) (sets : List (List (List ℕ))) → sets ≡ map names_of library
    → length sets ≡ length library
sets_size library sets is = ap length is ∙ length-map library names_of

pub no_names : (library : List ModelOf) (m : ℕ) → length library ≤ m
    → length (names_of (model library m)) ≡ 0
unfolding names_of
no_names library m past =
    ap (λ (one : ModelOf).
    length (once_each (one.inputs ++ one.outputs ++ flat_map cover_names one.covers
    ++ flat_map actuals one.instances)))
    (get_or_past library m no_model past)

-- a model with a name is there
pub some_name : (library : List ModelOf) (m k : ℕ) → k < length (names_of (model library m))
    → m < length library
some_name library m k h = elim (cases_lt m (length library)) [
  | inl inside ↦ inside
  | inr past ↦
      absurd (omega (arith, no_names library m past, h))
]

named_some : (names : List (List ℕ)) (name : List ℕ) → is_named names name ≡ true → 0 < length names
named_some [] name e = absurd (true≢false (sym e))
named_some (x ∷ names) name e = omega arith

pub named_there : (library : List ModelOf) (m : ℕ) (name : List ℕ)
    → is_named (names_of (model library m)) name ≡ true → m < length library
named_there library m name e = some_name library m 0 (named_some (names_of (model library m)) name
    e)

-- the set of a model has its names
pub set_is : (library : List ModelOf) (sets : List (List (List ℕ))) (m : ℕ) (set : List (List ℕ))
    → sets ≡ map names_of library
    → m < length library → set ≡ get_or sets m set → set ≡ names_of (model library m)
set_is library sets m set is inside read = read ∙ (ap (λ xs. get_or xs m set) is
    ∙ sets_place names_of library m set inside)

-- a name that occurs is found
pub found_first : (names : List (List ℕ)) (name : List ℕ) → is_named names name ≡ true
    → position_or_len (λ other. bytes_eq name other) names < length names
found_first [] name e = absurd (true≢false (sym e))
found_first (x ∷ names) name e = by_test (bytes_eq name x) refl e (found_first names name)
  where
    by_test : (b : Bool) → bytes_eq name x ≡ b → (b || is_named names name) ≡ true
        → (is_named names name ≡ true → position_or_len (λ other. bytes_eq name other) names
        < length names)
        → position_or_len (λ other. bytes_eq name other) (x ∷ names) < length (x ∷ names)
    by_test true k h up = rw k (omega arith)
    by_test false k h up = rw k (let less = up h in omega (arith, less))

pub position_found : (names : List (List ℕ)) (name : List ℕ) → is_named names name ≡ true
    → position (λ other. bytes_eq name other) names
    ≡ Some (position_or_len (λ other. bytes_eq name other) names)
position_found names name e = rw (lt-ltb (position_or_len (λ other. bytes_eq name other) names)
    (length names) (found_first names name e)) refl

-- the place at which a name that occurs was found
pub position_is : (names : List (List ℕ)) (name : List ℕ) (k : ℕ) → is_named names name ≡ true
    → Some k ≡ position (λ other. bytes_eq name other) names → (k < length names)
    × (slice_index_or names k [] ≡ name)
position_is names name k e found =
    let same : k ≡ position_or_len (λ other. bytes_eq name other) names = let h : Some k
    ≡ Some (position_or_len (λ other. bytes_eq name other) names) = found
    ∙ position_found names name e in cc in
    let inside : k < length names = omega (arith, same, found_first names name e) in
    (inside, named_at names name k same inside)

pub position_first : (names : List (List ℕ)) (name : List ℕ) (k : ℕ) → is_named names name ≡ true
    → Some k ≡ position (λ other. bytes_eq name other) names
    → k ≡ position_or_len (λ other. bytes_eq name other) names
position_first names name k e found = let h : Some k
    ≡ Some (position_or_len (λ other. bytes_eq name other) names) = found
    ∙ position_found names name e in cc

-- the names of one model more
pub sets_more : (library : List ModelOf) (m : ℕ) (sets now : List (List (List ℕ)))
    (set : List (List ℕ))
    → sets ≡ map names_of (take m library) → m < length library → set ≡ names_of (model library m)
    → now ≡ sets ++ set ∷ []
    → now ≡ map names_of (take (m + 1) library)
sets_more library m sets now set is inside here grown =
    grown
    ∙ (ap (λ l. l ++ set ∷ []) is
    ∙ (ap (λ x. map names_of (take m library) ++ x ∷ []) here
    ∙ (sym (map-append names_of (take m library) (model library m ∷ []))
    ∙ ap (map names_of) (sym (take_more library m no_model inside)))))

-- some more elements stand behind the names that are put in once
once_front : (xs ys : List (List ℕ)) → (zs : List (List ℕ))
    × (once_each (xs ++ ys) ≡ once_each xs ++ zs)
once_front [] ys = (once_each ys, refl)
once_front (x ∷ xs) ys =
    let rest = once_front xs ys in
    let p = λ (other : List ℕ). not (bytes_eq x other) in (
      filter p rest.0,
      ap (λ zs. x ∷ filter p zs) rest.1
          ∙ ap (λ zs. x ∷ zs) (filter_join p (once_each xs) rest.0),
    )
  where
    filter_join : (p : List ℕ → Bool) (xs ys : List (List ℕ)) → filter p (xs ++ ys) ≡ filter p xs
        ++ filter p ys
    filter_join p [] ys = refl
    filter_join p (x ∷ xs) ys = by_test (p x) (filter_join p xs ys)
      where
        by_test : (b : Bool) → filter p (xs ++ ys) ≡ filter p xs ++ filter p ys
            → (if b then x ∷ filter p (xs ++ ys) else filter p (xs ++ ys))
            ≡ (if b then x ∷ filter p xs else filter p xs) ++ filter p ys
        by_test true e = ap (λ zs. x ∷ zs) e
        by_test false e = e

neither : (a b : Bool) → (a || b) ≡ false → (a ≡ false) × (b ≡ false)
neither false b e = (refl, e)
neither true b e = absurd (true≢false e)

unnamed_kept : (x : List ℕ) (xs : List (List ℕ)) → is_named xs x ≡ false
    → filter (λ other. not (bytes_eq x other)) xs ≡ xs
unnamed_kept x [] e = refl
unnamed_kept x (y ∷ xs) e = let both = neither (bytes_eq x y) (is_named xs x) e in
    rw (both.0) (ap (λ ys. y ∷ ys) (unnamed_kept x xs both.1))

once_same : (xs : List (List ℕ)) → has_twice xs ≡ false → once_each xs ≡ xs
once_same [] e = refl
once_same (x ∷ xs) e = let both = neither (is_named xs x) (has_twice xs) e in
    rw (once_same xs both.1) (ap (λ ys. x ∷ ys) (unnamed_kept x xs both.0))

succ_lt : (a b : ℕ) → nat_lt (1 + a) (suc b) ≡ nat_lt a b
succ_lt a b = elim (cases_lt a b) [
  | inl less ↦ lt-ltb (1 + a) (suc b) (omega (arith, less)) ∙ sym (lt-ltb a b less)
  | inr more ↦ le-ltb (1 + a) (suc b) (omega (arith, more)) ∙ sym (le-ltb a b more)
]

pub front_place : {X : Type 0} (p : X → Bool) (xs ys : List X)
    → nat_lt (position_or_len p (xs ++ ys)) (length xs) ≡ list_any p xs
front_place p [] ys = le-ltb (position_or_len p ys) 0 (omega arith)
front_place p (x ∷ xs) ys = by_test (p x) refl (front_place p xs ys)
  where
    by_test : (b : Bool) → p x ≡ b → nat_lt (position_or_len p (xs ++ ys)) (length xs)
        ≡ list_any p xs → nat_lt (position_or_len p (x ∷ xs ++ ys)) (length (x ∷ xs))
        ≡ list_any p (x ∷ xs)
    by_test true e up = rw e (lt-ltb 0 (suc (length xs)) (omega arith))
    by_test false e up = rw e (succ_lt (position_or_len p (xs ++ ys)) (length xs) ∙ up)

-- a name is an input where it stands among the first names of its model
pub input_place : (m : ModelOf) (name : List ℕ) (k : ℕ) → has_twice m.inputs ≡ false
    → k ≡ position_or_len (λ other. bytes_eq name other) (names_of m) → nat_lt k (length m.inputs)
    ≡ is_named m.inputs name
unfolding names_of
input_place m name k once at =
    let rest = m.outputs ++ (flat_map cover_names m.covers ++ flat_map actuals m.instances) in
    let whole : m.inputs ++ m.outputs ++ flat_map cover_names m.covers
    ++ flat_map actuals m.instances ≡ m.inputs ++ rest =
    append_assoc (m.inputs ++ m.outputs) (flat_map cover_names m.covers)
    (flat_map actuals m.instances)
    ∙ append_assoc m.inputs m.outputs (flat_map cover_names m.covers
    ++ flat_map actuals m.instances) in
    let front = once_front m.inputs rest in
    let names : names_of m ≡ m.inputs ++ front.0 = ap once_each whole
    ∙ (front.1 ∙ ap (λ xs. xs ++ front.0) (once_same m.inputs once)) in
    ap (λ j. nat_lt j (length m.inputs)) (at ∙ ap (position_or_len (λ other. bytes_eq name other))
    names) ∙ front_place (λ other. bytes_eq name other) m.inputs front.0

-- the columns of one model more
pub columns_more : (library : List ModelOf) (m : ℕ) → m < length library
    → flat_map columns_of (take (m + 1) library) ≡ flat_map columns_of (take m library)
    ++ columns_of (model library m)
columns_more library m inside =
    ap (flat_map columns_of) (take_more library m no_model inside)
    ∙ (flat_map-append columns_of (take m library) (model library m ∷ [])
    ∙ ap (λ xs. flat_map columns_of (take m library) ++ xs)
    (append-nil (columns_of (model library m))))
