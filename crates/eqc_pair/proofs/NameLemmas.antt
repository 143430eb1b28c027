-- Lists of names: whether one is among them, where it stands, and whether one stands twice.
use Rattle.std.proofs.Common.{◌≡◌, ℕ, suc, Bool, true, false, not, List, [], ◌∷◌, ◌++◌, map, refl}
use Rattle.std.proofs.Common.{sym, ◌∙◌, ap, nat_lt, arith, ◌+◌, ◌<◌, ◌≤◌, length, take, drop}
use Rattle.std.proofs.Common.{get_or, ltb, Some, None, position, Bor, if◌then◌else◌}
use Rattle.std.specs.Str.{bytes_eq}
use Rattle.std.proofs.Math.Seq.{split_at}
use Rattle.std.proofs.lemmas.List.{map-append, take_more, take_all, get_or-map, length-map}
use Rattle.std.proofs.lemmas.List.Folds.{list_all-append, list_all_at}
use Rattle.std.proofs.lemmas.Bool.{true≢false, false≢true, false_from_ne_true, lt-ltb}
use Rattle.eqc_netlist.specs.Names.{is_named, has_twice}
use Rattle.eqc_netlist.specs.Names.{StandsTwice}
use Rattle.eqc_pair.specs.Matched.{position_of, has_all}
use Rattle.eqc_netlist.specs.NameSets.{with_name}
use Rattle.eqc_netlist.proofs.NameLemmas.{once_more, twice_there, twice_at}
use Rattle.eqc_netlist.proofs.NameSetLaws.{first_mapped, ltb-suc, bytes_in}

-- ---- where a name stands

-- one more slice
pub bytes_more : (names : List (Bor (List ℕ))) (i : ℕ) (d : Bor (List ℕ)) → i < length names
    → bytes_in (take (i + 1) names) ≡ bytes_in (take i names) ++ (get_or names i d).now ∷ []
bytes_more names i d inside = ap bytes_in (take_more names i d inside)
    ∙ map-append (λ (name : Bor (List ℕ)). name.now) (take i names) (get_or names i d ∷ [])

-- a place among slices is the place among their bytes
pub position_mapped : (test : List ℕ → Bool) (names : List (Bor (List ℕ)))
    → position (λ (name : Bor (List ℕ)). test name.now) names ≡ position test (bytes_in names)
position_mapped test names = sym (rw (
  first_mapped test (λ (name : Bor (List ℕ)). name.now) names,
  length-map names (λ (name : Bor (List ℕ)). name.now),
) refl)

-- a name is among others exactly where its place is
pub named_at : (names : List (List ℕ)) (name : List ℕ) → is_named names name
    ≡ nat_lt (position_of names name) (length names)
named_at [] name = refl
named_at (x ∷ xs) name = by (bytes_eq name x) refl (named_at xs name)
  where
    by : (b : Bool) → bytes_eq name x ≡ b → is_named xs name ≡ nat_lt (position_of xs name)
        (length xs) → is_named (x ∷ xs) name ≡ nat_lt (position_of (x ∷ xs) name) (length (x ∷ xs))
    by true e rest = rw (e, lt-ltb 0 (length (x ∷ xs)) (omega arith)) refl
    by false e rest = rw e (rest ∙ sym (ap (λ n. ltb (1 + position_of xs name) n) (omega arith)
        ∙ ltb-suc (position_of xs name) (length xs)))

-- what a search for a name found
pub named_found : (names : List (List ℕ)) (name : List ℕ) (n : ℕ)
    → position (λ other. bytes_eq name other) names ≡ Some n → (is_named names name ≡ true)
    × (position_of names name ≡ n)
named_found names name n e = by (nat_lt (position_of names name) (length names)) refl
  where
    by : (b : Bool) → nat_lt (position_of names name) (length names) ≡ b
        → (is_named names name ≡ true) × (position_of names name ≡ n)
    by true h = (
      named_at names name ∙ h,
      let f : Some (position_of names name) ≡ Some n =
          rw h at e in cc,
    )
    by false h = absurd (let f : None ≡ Some n = rw h at e in cc)

pub named_missing : (names : List (List ℕ)) (name : List ℕ)
    → position (λ other. bytes_eq name other) names ≡ None → is_named names name ≡ false
named_missing names name e = by (nat_lt (position_of names name) (length names)) refl
  where
    by : (b : Bool) → nat_lt (position_of names name) (length names) ≡ b → is_named names name
        ≡ false
    by true h = absurd (let f : Some (position_of names name) ≡ None = rw h at e in cc)
    by false h = named_at names name ∙ h

-- ---- the set of names so far

-- a name that the set has is among those before it
seen_before : (set : List (List ℕ)) (names : List (Bor (List ℕ))) (i : ℕ) (name : List ℕ)
    (fresh : Bool) → set ≡ bytes_in (take i names) →
    fresh ≡ not (is_named set name) → fresh ≡ false → is_named (bytes_in (take i names)) name ≡ true
seen_before set names i name fresh e f stale = sym (ap (λ l. is_named l name) e)
    ∙ by (is_named set name) (sym f ∙ stale)
  where
    by : (b : Bool) → not b ≡ false → b ≡ true
    by true h = refl
    by false h = absurd (true≢false h)

-- the names before one, that one and those behind it
names_cut : (names : List (Bor (List ℕ))) (i : ℕ) (d : Bor (List ℕ)) → i < length names
    → bytes_in names ≡ bytes_in (take i names) ++ (get_or names i d).now
    ∷ bytes_in (drop (suc i) names)
names_cut names i d inside = ap bytes_in (split_at names i d inside)
    ∙ map-append (λ (name : Bor (List ℕ)). name.now) (take i names) (get_or names i d
    ∷ drop (suc i) names)

-- a name that the set has stands twice
pub seen_twice : (set : List (List ℕ)) (names : List (Bor (List ℕ))) (i : ℕ) (d : Bor (List ℕ))
    (fresh : Bool) → i < length names → set ≡ bytes_in (take i names)
    → fresh ≡ not (is_named set (get_or names i d).now) → fresh ≡ false → has_twice (bytes_in names)
    ≡ true
seen_twice set names i d fresh inside e f stale =
    ap has_twice (names_cut names i d inside)
    ∙ twice_there (bytes_in (take i names)) (bytes_in (drop (suc i) names)) (get_or names i d).now
    (seen_before set names i (get_or names i d).now fresh e f stale)

-- and where it stands
pub seen_at : (set : List (List ℕ)) (names : List (Bor (List ℕ))) (i : ℕ) (d : Bor (List ℕ))
    (fresh : Bool) → i < length names → set ≡ bytes_in (take i names)
    → fresh ≡ not (is_named set (get_or names i d).now) → fresh ≡ false
    → StandsTwice (bytes_in names) (get_or names i d).now
seen_at set names i d fresh inside e f stale =
    let name = (get_or names i d).now in
    let behind = bytes_in (drop (suc i) names) in
    twice_at (bytes_in (take i names)) (name ∷ behind) behind (bytes_in names) name name
    (sym (names_cut names i d inside)) refl refl (seen_before set names i name fresh e f stale)

-- a name that the set didn't have
pub seen_more : (set new : List (List ℕ)) (names : List (Bor (List ℕ))) (i : ℕ) (d : Bor (List ℕ))
    (fresh : Bool) → i < length names →
    set ≡ bytes_in (take i names) → has_twice (bytes_in (take i names)) ≡ false
    → fresh ≡ not (is_named set (get_or names i d).now) → fresh ≡ true
    → new ≡ with_name set (get_or names i d).now
    → (new ≡ bytes_in (take (i + 1) names)) × (has_twice (bytes_in (take (i + 1) names)) ≡ false)
seen_more set new names i d fresh inside e once f is n =
    let name = (get_or names i d).now in
    let absent : is_named set name ≡ false = by (is_named set name) (sym f ∙ is) in
    let unnamed : is_named (bytes_in (take i names)) name ≡ false =
    sym (ap (λ l. is_named l name) e) ∙ absent in
    let more = bytes_more names i d inside in
    let grown : new ≡ set ++ name ∷ [] = n ∙ ap (λ b. if b then set else set ++ name ∷ []) absent in (
      grown ∙ (ap (λ l. l ++ name ∷ []) e ∙ sym more),
      ap has_twice more ∙ once_more (bytes_in (take i names)) name once unnamed,
    )
  where
    by : (b : Bool) → not b ≡ true → b ≡ false
    by true h = absurd (false≢true h)
    by false h = refl

-- one more name of a list in which none stands twice
pub once_added : (set new : List (List ℕ)) (names : List (Bor (List ℕ))) (i : ℕ) (d : Bor (List ℕ))
    → i < length names → has_twice (bytes_in names) ≡ false → set ≡ bytes_in (take i names)
    → new ≡ with_name set (get_or names i d).now → new ≡ bytes_in (take (i + 1) names)
once_added set new names i d inside once e n =
    let name = (get_or names i d).now in
    let absent : is_named set name ≡ false =
    false_from_ne_true (is_named set name)
    (λ there. true≢false (sym (seen_twice set names i d (not (is_named set name)) inside e refl
    (ap not there)) ∙ once)) in
    n ∙ (ap (λ b. if b then set else set ++ name ∷ []) absent ∙ (ap (λ l. l ++ name ∷ []) e
    ∙ sym (bytes_more names i d inside)))

-- ---- the places of names among others

-- one more name whose place was found
pub place_more : (names : List (List ℕ)) (words : List (Bor (List ℕ))) (i : ℕ) (d : Bor (List ℕ))
    (places more : List ℕ) (n : ℕ) → i < length words
    → has_all names (bytes_in (take i words)) ≡ true
    → places ≡ map (position_of names) (bytes_in (take i words))
    → position (λ other. bytes_eq (get_or words i d).now other) names ≡ Some n → more ≡ places ++ n
    ∷ []
    → (has_all names (bytes_in (take (i + 1) words)) ≡ true)
    × (more ≡ map (position_of names) (bytes_in (take (i + 1) words)))
place_more names words i d places more n inside all is found grown =
    let word = (get_or words i d).now in
    let at = named_found names word n found in
    let one = bytes_more words i d inside in (
      ap (has_all names) one ∙ (list_all-append (λ name. is_named names name)
          (bytes_in (take i words)) (word ∷ []) ∙ rw (all, at.0) refl),
      grown
          ∙ (ap (λ l. l ++ n ∷ []) is
          ∙ (ap (λ m. map (position_of names) (bytes_in (take i words)) ++ m ∷ []) (sym at.1)
          ∙ sym (ap (map (position_of names)) one
          ∙ map-append (position_of names) (bytes_in (take i words)) (word ∷ [])))),
    )

-- a name that isn't there
pub place_missing : (names : List (List ℕ)) (words : List (Bor (List ℕ))) (i : ℕ) (d : Bor (List ℕ))
    → i < length words
    → position (λ other. bytes_eq (get_or words i d).now other) names ≡ None
    → has_all names (bytes_in words) ≡ false
place_missing names words i d inside none =
    let word = (get_or words i d).now in
    let here : get_or (bytes_in words) i d.now ≡ word =
    get_or-map (λ (name : Bor (List ℕ)). name.now) words i d d.now inside in
    list_all_at (λ name. is_named names name) (bytes_in words) i d.now
    (omega (arith, length-map words (λ (name : Bor (List ℕ)). name.now)))
    (ap (is_named names) here ∙ named_missing names word none)

-- the places of all names
pub places_all : (self : List (List ℕ)) (names : List (Bor (List ℕ))) (i : ℕ) (all : List ℕ)
    → length names ≤ i →
    has_all self (bytes_in (take i names)) ≡ true
    → all ≡ map (position_of self) (bytes_in (take i names)) →
    (has_all self (bytes_in names) ≡ true) × (all ≡ map (position_of self) (bytes_in names))
places_all self names i all whole each found = let e = take_all i names whole in
    (rw e at each, rw e at found)
