-- Names each once, as a set that they are put into has them; and where a name stands among others.
use Rattle.std.proofs.Common.{
  ◌≡◌,
  ℕ,
  zero,
  suc,
  Bool,
  true,
  false,
  not,
  ◌||◌,
  cond,
  List,
  [],
  ◌∷◌,
  ◌++◌,
  map,
  refl,
  sym,
  ◌∙◌,
  ap,
  nat_eq,
  nat_lt,
  inl,
  inr,
  arith,
  ◌+◌,
  ◌<◌,
  length,
  take,
  drop,
  get_or,
  ltb,
  position,
  Bor,
  is_some,
  filter,
  Option,
  Some,
  None,
  IfSome,
}
use Rattle.std.specs.List.{list_any, position_or_len, fold, flat_map, IsDistinct}
use Rattle.std.specs.Str.{bytes_eq}
use Rattle.std.proofs.Math.Seq.{split_at}
use Rattle.std.proofs.lemmas.List.{map-append, append-nil, append_assoc, length-map, take_more}
use Rattle.std.proofs.lemmas.Map.Keys.{apart_from_distinct, IsDistinct-tail}
use Rattle.std.proofs.lemmas.List.Folds.{list_any_at}
use Rattle.std.proofs.lemmas.List.Sums.{fold-append}
use Rattle.std.proofs.lemmas.List.Elements.{filter-append}
use Rattle.std.proofs.lemmas.Bool.{cases_lt, and_parts, or_parts, eq-eqb, eqb-true, true≢false}
use Rattle.std.proofs.lemmas.Bool.{false≢true, lt-ltb, le-ltb}
use Rattle.eqc_netlist.specs.Names.{is_named, has_twice}
use Rattle.eqc_blif.specs.Netlist.{ModelOf, CoverOf}
use Rattle.eqc_netlist.specs.NameSets.{with_name, place_in}
use Rattle.eqc_hierarchy.specs.Columns.{places_in, columns_in}
use Rattle.eqc_hierarchy.specs.Signals.{once_each, cover_names, actuals, names_of}
use Rattle.eqc_netlist.proofs.NameLemmas.{bytes_eq-sym, named_append, once_more, twice_there}
use Rattle.eqc_netlist.proofs.NameSetLaws.{any_mapped, bytes_same, with_new}

-- names without one of them: the others are there as before
others_named : (n x : List ℕ) (ys : List (List ℕ)) → bytes_eq x n ≡ false
    → is_named (filter (λ other. not (bytes_eq n other)) ys) x ≡ is_named ys x
others_named n x [] apart = refl
others_named n x (y ∷ ys) apart = by (bytes_eq n y) refl (others_named n x ys apart)
  where
    by : (b : Bool) → bytes_eq n y ≡ b → is_named (filter (λ other. not (bytes_eq n other)) ys) x
        ≡ is_named ys x → is_named (filter (λ other. not (bytes_eq n other)) (y ∷ ys)) x
        ≡ is_named (y ∷ ys) x
    by true e rest =
        let same : n ≡ y = bytes_same n y e in
        let differs : bytes_eq x y ≡ false = ap (bytes_eq x) (sym same) ∙ apart in
        rw (e, differs) rest
    by false e rest = rw e (ap (λ b. bytes_eq x y || b) rest)

-- and that one isn't
left_out : (n : List ℕ) (ys : List (List ℕ))
    → is_named (filter (λ other. not (bytes_eq n other)) ys) n ≡ false
left_out n [] = refl
left_out n (y ∷ ys) = by (bytes_eq n y) refl (left_out n ys)
  where
    by : (b : Bool) → bytes_eq n y ≡ b → is_named (filter (λ other. not (bytes_eq n other)) ys) n
        ≡ false → is_named (filter (λ other. not (bytes_eq n other)) (y ∷ ys)) n ≡ false
    by true e rest = rw e rest
    by false e rest = rw (e, e) rest

-- the same names, each once
pub once_named : (xs : List (List ℕ)) (x : List ℕ) → is_named (once_each xs) x ≡ is_named xs x
once_named [] x = refl
once_named (n ∷ ns) x = by (bytes_eq x n) refl (once_named ns x)
  where
    by : (b : Bool) → bytes_eq x n ≡ b → is_named (once_each ns) x ≡ is_named ns x
        → is_named (once_each (n ∷ ns)) x ≡ is_named (n ∷ ns) x
    by true e rest = rw e refl
    by false e rest = rw e (others_named n x (once_each ns) e ∙ rest)

-- one more name
pub once_push : (xs : List (List ℕ)) (x : List ℕ) → once_each (xs ++ x ∷ [])
    ≡ with_name (once_each xs) x
once_push [] x = refl
once_push (n ∷ ns) x = by (bytes_eq x n) refl (is_named ns x) refl (once_push ns x)
  where
    or_there : (a b : Bool) → b ≡ true → (a || b) ≡ true
    or_there true b h = refl
    or_there false b h = h

    by : (b : Bool) → bytes_eq x n ≡ b → (d : Bool) → is_named ns x ≡ d → once_each (ns ++ x ∷ [])
        ≡ with_name (once_each ns) x → once_each ((n ∷ ns) ++ x ∷ [])
        ≡ with_name (once_each (n ∷ ns)) x
    by b e true there rest =
        let old : is_named (once_each ns) x ≡ true = once_named ns x ∙ there in
        let here : is_named (once_each (n ∷ ns)) x ≡ true = once_named (n ∷ ns) x
        ∙ or_there (bytes_eq x n) (is_named ns x) there in
        let same : once_each (ns ++ x ∷ []) ≡ once_each ns = rest
        ∙ ap (λ b. cond b (once_each ns) (once_each ns ++ x ∷ [])) old in
        ap (λ l. n ∷ filter (λ other. not (bytes_eq n other)) l) same
        ∙ sym (ap (λ b. cond b (once_each (n ∷ ns)) (once_each (n ∷ ns) ++ x ∷ [])) here)
    by true e false there rest =
        let old : is_named (once_each ns) x ≡ false = once_named ns x ∙ there in
        let here : is_named (once_each (n ∷ ns)) x ≡ true = once_named (n ∷ ns) x
        ∙ ap (λ b. b || is_named ns x) e in
        let more : once_each (ns ++ x ∷ []) ≡ once_each ns ++ x ∷ [] = rest
        ∙ ap (λ b. cond b (once_each ns) (once_each ns ++ x ∷ [])) old in
        let none : filter (λ other. not (bytes_eq n other)) (x ∷ []) ≡ [] =
        ap (λ b. cond (not b) (x ∷ []) []) (bytes_eq-sym n x ∙ e) in
        ap (λ l. n ∷ filter (λ other. not (bytes_eq n other)) l) more
        ∙ (ap (λ l. n ∷ l)
        (filter-append (λ other. not (bytes_eq n other)) (once_each ns) (x ∷ [])
        ∙ (ap (λ l. filter (λ other. not (bytes_eq n other)) (once_each ns) ++ l) none
        ∙ append-nil (filter (λ other. not (bytes_eq n other)) (once_each ns))))
        ∙ sym (ap (λ b. cond b (once_each (n ∷ ns)) (once_each (n ∷ ns) ++ x ∷ [])) here))
    by false e false there rest =
        let old : is_named (once_each ns) x ≡ false = once_named ns x ∙ there in
        let here : is_named (once_each (n ∷ ns)) x ≡ false = once_named (n ∷ ns) x
        ∙ (ap (λ b. b || is_named ns x) e ∙ there) in
        let more : once_each (ns ++ x ∷ []) ≡ once_each ns ++ x ∷ [] = rest
        ∙ ap (λ b. cond b (once_each ns) (once_each ns ++ x ∷ [])) old in
        let one : filter (λ other. not (bytes_eq n other)) (x ∷ []) ≡ x ∷ [] =
        ap (λ b. cond (not b) (x ∷ []) []) (bytes_eq-sym n x ∙ e) in
        ap (λ l. n ∷ filter (λ other. not (bytes_eq n other)) l) more
        ∙ (ap (λ l. n ∷ l) (filter-append (λ other. not (bytes_eq n other)) (once_each ns) (x ∷ [])
        ∙ ap (λ l. filter (λ other. not (bytes_eq n other)) (once_each ns) ++ l) one)
        ∙ sym (ap (λ b. cond b (once_each (n ∷ ns)) (once_each (n ∷ ns) ++ x ∷ [])) here))

-- putting names in, after others
once_fold : (xs ys : List (List ℕ)) → fold with_name (once_each xs) ys ≡ once_each (xs ++ ys)
once_fold xs [] = ap once_each (sym (append-nil xs))
once_fold xs (y ∷ ys) = ap (λ l. fold with_name l ys) (sym (once_push xs y))
    ∙ (once_fold (xs ++ y ∷ []) ys ∙ ap once_each (append_assoc xs (y ∷ []) ys))

-- putting names into a set without names
pub fold_once : (ys : List (List ℕ)) → fold with_name [] ys ≡ once_each ys
fold_once ys = once_fold [] ys

filter_once : (n : List ℕ) (ys : List (List ℕ)) → has_twice ys ≡ false
    → has_twice (filter (λ other. not (bytes_eq n other)) ys) ≡ false
filter_once n [] e = refl
filter_once n (y ∷ ys) e =
    by (bytes_eq n y) refl (filter_once n ys (or_parts (is_named ys y) (has_twice ys) e).1)
  where
    by : (b : Bool) → bytes_eq n y ≡ b → has_twice (filter (λ other. not (bytes_eq n other)) ys)
        ≡ false → has_twice (filter (λ other. not (bytes_eq n other)) (y ∷ ys)) ≡ false
    by true h rest = rw h rest
    by false h rest = rw (
      h,
      others_named n y ys (bytes_eq-sym y n ∙ h),
      (or_parts (is_named ys y) (has_twice ys) e).0,
    ) rest

-- no name stands twice among names each once
pub once_differ : (xs : List (List ℕ)) → has_twice (once_each xs) ≡ false
once_differ [] = refl
once_differ (n ∷ ns) = rw (left_out n (once_each ns)) (filter_once n (once_each ns)
    (once_differ ns))

-- ---- the names of a model

pub fold_flat_more : {X : Type 0} (f : X → List (List ℕ)) (a : List (List ℕ)) (xs : List X) (x : X)
    → fold with_name (fold with_name a (flat_map f xs)) (f x)
    ≡ fold with_name a (flat_map f (xs ++ x ∷ []))
fold_flat_more {X = X} f a xs x = sym (fold-append with_name a (flat_map f xs) (f x))
    ∙ ap (fold with_name a) (flat_more xs)
  where
    flat_more : (xs : List X) → flat_map f xs ++ f x ≡ flat_map f (xs ++ x ∷ [])
    flat_more [] = sym (append-nil (f x))
    flat_more (y ∷ xs) = append_assoc (f y) (flat_map f xs) (f x)
        ∙ ap (λ l. f y ++ l) (flat_more xs)

pub names_made : (m : ModelOf) (a b c d : List (List ℕ)) → a ≡ fold with_name [] m.inputs
    → b ≡ fold with_name a m.outputs
    → c ≡ fold with_name b (flat_map cover_names m.covers)
    → d ≡ fold with_name c (flat_map actuals m.instances) → d ≡ names_of m
unfolding names_of
names_made m a b c d ea eb ec ed =
    let ab : b ≡ fold with_name [] (m.inputs ++ m.outputs) = eb
    ∙ (ap (λ l. fold with_name l m.outputs) ea
    ∙ sym (fold-append with_name [] m.inputs m.outputs)) in
    let abc : c ≡ fold with_name [] (m.inputs ++ m.outputs ++ flat_map cover_names m.covers) =
    ec
    ∙ (ap (λ l. fold with_name l (flat_map cover_names m.covers)) ab
    ∙ sym (fold-append with_name [] (m.inputs ++ m.outputs) (flat_map cover_names m.covers))) in
    let abcd : d ≡ fold with_name [] (m.inputs ++ m.outputs ++ flat_map cover_names m.covers
    ++ flat_map actuals m.instances) =
    ed
    ∙ (ap (λ l. fold with_name l (flat_map actuals m.instances)) abc
    ∙ sym (fold-append with_name [] (m.inputs ++ m.outputs ++ flat_map cover_names m.covers)
    (flat_map actuals m.instances))) in
    abcd ∙ fold_once (m.inputs ++ m.outputs ++ flat_map cover_names m.covers
    ++ flat_map actuals m.instances)

-- ---- slices and their bytes

-- whether a name is among the formals of some pairs
pub formal_named : (pairs : List (List ℕ × List ℕ)) (name : List ℕ)
    → list_any (λ (pair : List ℕ × List ℕ). bytes_eq name pair.0) pairs
    ≡ is_named (map (λ (pair : List ℕ × List ℕ). pair.0) pairs) name
formal_named pairs name = sym (any_mapped (λ other. bytes_eq name other) (λ (pair : List ℕ
    × List ℕ). pair.0) pairs)

-- the names of the elements of a list, and one more
pub named_more : {X : Type 0} (f : X → List ℕ) (xs : List X) (i : ℕ) (d : X) → i < length xs
    → map f (take (i + 1) xs) ≡ map f (take i xs) ++ f (get_or xs i d) ∷ []
named_more f xs i d inside = ap (map f) (take_more xs i d inside)
    ∙ map-append f (take i xs) (get_or xs i d ∷ [])

-- one of them that was there before
pub named_twice : {X : Type 0} (f : X → List ℕ) (xs : List X) (i : ℕ) (d : X) → i < length xs
    → is_named (map f (take i xs)) (f (get_or xs i d)) ≡ true → has_twice (map f xs) ≡ true
named_twice f xs i d inside there =
    ap (λ l. has_twice (map f l)) (split_at xs i d inside)
    ∙ (ap has_twice (map-append f (take i xs) (get_or xs i d ∷ drop (suc i) xs))
    ∙ twice_there (map f (take i xs)) (map f (drop (suc i) xs)) (f (get_or xs i d)) there)

mapped_at : {X : Type 0} (f : X → List ℕ) (xs : List X) (i : ℕ) (x : X) → i < length xs
    → get_or (map f xs) i (f x) ≡ f (get_or xs i x)
mapped_at f [] i x h = absurd (omega arith)
mapped_at f (y ∷ xs) zero x h = refl
mapped_at f (y ∷ xs) (suc i) x h = mapped_at f xs i x (omega arith)

-- an element whose name was there already
pub twice_found : {X : Type 0} (f : X → List ℕ) (xs : List X) (i : ℕ) (x : X)
    (names : List (List ℕ)) (fresh : Bool)
    → i < length xs → x ≡ get_or xs i x → names ≡ map f (take i xs)
    → fresh ≡ not (is_named names (f x)) → fresh ≡ false
    → has_twice (map f xs) ≡ true
twice_found f xs i x names fresh inside here is e stale =
    named_twice f xs i x inside (ap (λ l. is_named l (f (get_or xs i x))) (sym is)
    ∙ (ap (λ y. is_named names (f y)) (sym here) ∙ by (is_named names (f x)) (sym e ∙ stale)))
  where
    by : (b : Bool) → not b ≡ false → b ≡ true
    by true h = refl
    by false h = absurd (true≢false h)

-- an element whose name wasn't there
pub once_kept : {X : Type 0} (f : X → List ℕ) (xs : List X) (i : ℕ) (x : X)
    (names new : List (List ℕ)) (fresh : Bool)
    → i < length xs → x ≡ get_or xs i x → names ≡ map f (take i xs) → has_twice (map f (take i xs))
    ≡ false
    → fresh ≡ not (is_named names (f x)) → fresh ≡ true → new ≡ with_name names (f x)
    → (new ≡ map f (take (i + 1) xs)) × (has_twice (map f (take (i + 1) xs)) ≡ false)
once_kept f xs i x names new fresh inside here is once e was grown =
    let absent : is_named names (f x) ≡ false = by (is_named names (f x)) (sym e ∙ was) in
    let more : map f (take (i + 1) xs) ≡ names ++ f x ∷ [] = named_more f xs i x inside
    ∙ (ap (λ y. map f (take i xs) ++ f y ∷ []) (sym here) ∙ ap (λ l. l ++ f x ∷ []) (sym is)) in (
      grown ∙ (with_new names (f x) absent ∙ sym more),
      ap has_twice more ∙ once_more names (f x) (ap has_twice is ∙ once) absent,
    )
  where
    by : (b : Bool) → not b ≡ true → b ≡ false
    by true h = absurd (false≢true h)
    by false h = refl

-- an element whose name is not among those before it
pub once_next : {X : Type 0} (f : X → List ℕ) (xs : List X) (i : ℕ) (x : X) → i < length xs
    → x ≡ get_or xs i x
    → has_twice (map f (take i xs)) ≡ false → is_named (map f (take i xs)) (f x) ≡ false
    → has_twice (map f (take (i + 1) xs)) ≡ false
once_next f xs i x inside here once absent =
    ap has_twice (named_more f xs i x inside ∙ ap (λ y. map f (take i xs) ++ f y ∷ []) (sym here))
    ∙ once_more (map f (take i xs)) (f x) once absent

-- an element whose name is not among some
pub some_other : {X : Type 0} (f : X → List ℕ) (names : List (List ℕ)) (xs : List X) (i : ℕ) (x : X)
    (has : Bool) → i < length xs
    → x ≡ get_or xs i x → has ≡ is_named names (f x) → has ≡ false
    → list_any (λ formal. not (is_named names formal)) (map f xs) ≡ true
some_other f names xs i x has inside here e absent =
    list_any_at (λ formal. not (is_named names formal)) (map f xs) i (f x)
    (omega (arith, length-map xs f))
    (ap (λ y. not (is_named names y)) (mapped_at f xs i x inside ∙ ap f (sym here))
    ∙ ap not (sym e ∙ absent))

-- names that are put in after others
pub ports_made : (inputs outputs a b : List (List ℕ)) → a ≡ fold with_name [] inputs
    → b ≡ fold with_name a outputs → b ≡ once_each (inputs ++ outputs)
ports_made inputs outputs a b ea eb = eb ∙ (ap (λ l. fold with_name l outputs) ea
    ∙ (sym (fold-append with_name [] inputs outputs) ∙ fold_once (inputs ++ outputs)))

-- ---- where a name stands

-- one column more
pub places_more : (names next : List (List ℕ)) (places now : List ℕ) (columns : List (List ℕ))
    (k place : ℕ) (column : List ℕ)
    → k < length columns → column ≡ get_or columns k column
    → ((later : List (List ℕ)) → places ≡ places_in (fold with_name names later) (take k columns))
    → next ≡ with_name names column
    → ((later : List (List ℕ)) → place ≡ place_in (fold with_name next later) column)
    → now ≡ places ++ place ∷ []
    → (later : List (List ℕ)) → now ≡ places_in (fold with_name next later) (take (k + 1) columns)
places_more names next places now columns k place column inside read before put here grown =
    λ later.
    let all = fold with_name next later in
    let old : places ≡ places_in all (take k columns) = before (column ∷ later)
    ∙ ap (λ ns. places_in (fold with_name ns later) (take k columns)) (sym put) in
    grown
    ∙ (ap (λ xs. xs ++ place ∷ []) old
    ∙ (ap (λ n. places_in all (take k columns) ++ n ∷ []) (here later)
    ∙ (sym (map-append (place_in all) (take k columns) (column ∷ []))
    ∙ ap (places_in all) (ap (λ x. take k columns ++ x ∷ []) read
    ∙ sym (take_more columns k column inside)))))

-- one cover more
pub columns_grown : (names middle next : List (List ℕ)) (before old now : List (List ℕ))
    (covers : List CoverOf) (k : ℕ) (cover : CoverOf)
    (places : List ℕ) → k < length covers → cover ≡ get_or covers k cover
    → ((later : List (List ℕ)) → old ≡ before ++ columns_in (fold with_name names later)
    (take k covers))
    → middle ≡ fold with_name names cover.columns
    → ((later : List (List ℕ)) → places ≡ places_in (fold with_name middle later) cover.columns)
    → next ≡ with_name middle cover.output → now ≡ old ++ places ∷ [] → (later : List (List ℕ))
    → now ≡ before ++ columns_in (fold with_name next later) (take (k + 1) covers)
columns_grown names middle next before old now covers k cover places inside read kept first here put
    grown = λ later.
    let all = fold with_name next later in
    let last : fold with_name middle (cover.output ∷ later) ≡ all =
    ap (λ ns. fold with_name ns later) (sym put) in
    let whole : fold with_name names (cover.columns ++ cover.output ∷ later) ≡ all =
    fold-append with_name names cover.columns (cover.output ∷ later)
    ∙ (ap (λ ns. fold with_name ns (cover.output ∷ later)) (sym first) ∙ last) in
    let f = λ (c : CoverOf). places_in all c.columns in
    let old_is : old ≡ before ++ map f (take k covers) = kept (cover.columns ++ cover.output
    ∷ later) ∙ ap (λ ns. before ++ columns_in ns (take k covers)) whole in
    let new : places ≡ f cover = here (cover.output ∷ later)
    ∙ ap (λ ns. places_in ns cover.columns) last in
    grown
    ∙ (ap (λ xs. xs ++ places ∷ []) old_is
    ∙ (ap (λ x. (before ++ map f (take k covers)) ++ x ∷ []) new
    ∙ (append_assoc before (map f (take k covers)) (f cover ∷ [])
    ∙ ap (λ xs. before ++ xs) (sym (map-append f (take k covers) (cover ∷ []))
    ∙ ap (map f) (ap (λ x. take k covers ++ x ∷ []) read
    ∙ sym (take_more covers k cover inside))))))

-- one name more of a list that is put in
pub put_more : (a xs : List (List ℕ)) (k : ℕ) (x : List ℕ) → k < length xs → x ≡ get_or xs k x
    → with_name (fold with_name a (take k xs)) x ≡ fold with_name a (take (k + 1) xs)
put_more a xs k x inside read = sym (fold-append with_name a (take k xs) (x ∷ []))
    ∙ ap (fold with_name a) (ap (λ y. take k xs ++ y ∷ []) read ∙ sym (take_more xs k x inside))

-- the names of one cover more
pub cover_put : (a names middle next : List (List ℕ)) (covers : List CoverOf) (k : ℕ)
    (cover : CoverOf) → k < length covers
    → cover ≡ get_or covers k cover
    → names ≡ fold with_name a (flat_map cover_names (take k covers))
    → middle ≡ fold with_name names cover.columns → next ≡ with_name middle cover.output
    → next ≡ fold with_name a (flat_map cover_names (take (k + 1) covers))
cover_put a names middle next covers k cover inside read is first last =
    let put : next ≡ fold with_name names (cover_names cover) = last
    ∙ (ap (λ l. with_name l cover.output) first
    ∙ sym (fold-append with_name names cover.columns (cover.output ∷ []))) in
    put
    ∙ (ap (λ l. fold with_name l (cover_names cover)) is
    ∙ (fold_flat_more cover_names a (take k covers) cover
    ∙ ap (λ cs. fold with_name a (flat_map cover_names cs))
    (ap (λ y. take k covers ++ y ∷ []) read ∙ sym (take_more covers k cover inside))))
