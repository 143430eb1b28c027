-- Names each once, as a set that they are put into has them; and where a name stands among others.
use Rattle.std.proofs.Common.{◌≡◌, ℕ, zero, suc, Bool, true, false, not, ◌||◌, cond, List, [], ◌∷◌}
use Rattle.std.proofs.Common.{◌++◌, map, refl, sym, ◌∙◌, ap, nat_eq, nat_lt, inl, inr, arith, ◌+◌}
use Rattle.std.proofs.Common.{◌<◌, length, get_or, ltb, position, Bor, is_some, Option, Some, None}
use Rattle.std.proofs.Common.{IfSome}
use Rattle.std.specs.List.{list_any, position_or_len, fold, IsDistinct}
use Rattle.std.specs.Str.{bytes_eq}
use Rattle.std.proofs.lemmas.Map.Keys.{apart_from_distinct, IsDistinct-tail}
use Rattle.std.proofs.lemmas.Bool.{cases_lt, and_parts, eq-eqb, eqb-true, true≢false, false≢true}
use Rattle.std.proofs.lemmas.Bool.{lt-ltb, le-ltb}
use Rattle.eqc_netlist.specs.Names.{is_named}
use Rattle.eqc_netlist.specs.NameSets.{with_name, place_in}
use Rattle.eqc_netlist.proofs.NameLemmas.{bytes_eq-sym, named_append}

-- the bytes of slices
abbrev pub bytes_in : List (Bor (List ℕ)) → List (List ℕ)
bytes_in names = map (λ (name : Bor (List ℕ)). name.now) names

-- ---- equal bytes

pub bytes_same : (xs ys : List ℕ) → bytes_eq xs ys ≡ true → xs ≡ ys
bytes_same [] [] e = refl
bytes_same [] (y ∷ ys) e = absurd (true≢false (sym e))
bytes_same (x ∷ xs) [] e = absurd (true≢false (sym e))
bytes_same (x ∷ xs) (y ∷ ys) e =
    let both = and_parts (nat_eq x y) (bytes_eq xs ys) e in
    let here : x ≡ y = eqb-true x y both.0 in
    let there : xs ≡ ys = bytes_same xs ys both.1 in
    cc

-- ---- each name once

pub any_mapped : {A B : Type 0} (p : B → Bool) (f : A → B) (xs : List A) → list_any p (map f xs)
    ≡ list_any (λ x. p (f x)) xs
any_mapped p f [] = refl
any_mapped p f (x ∷ xs) = ap (λ b. p (f x) || b) (any_mapped p f xs)

pub first_mapped : {A B : Type 0} (p : B → Bool) (f : A → B) (xs : List A)
    → position_or_len p (map f xs) ≡ position_or_len (λ x. p (f x)) xs
first_mapped p f [] = refl
first_mapped p f (x ∷ xs) = ap (λ n. cond (not (p (f x))) (1 + n) 0) (first_mapped p f xs)

pub ltb-suc : (a b : ℕ) → ltb (1 + a) (1 + b) ≡ ltb a b
ltb-suc a b = elim (cases_lt a b) [
  | inl less ↦ rw (lt-ltb a b less, lt-ltb (1 + a) (1 + b) (omega arith)) refl
  | inr more ↦ rw (le-ltb a b more, le-ltb (1 + a) (1 + b) (omega arith)) refl
]

-- a name is among others exactly where its place is
named_at : (names : List (List ℕ)) (name : List ℕ) → is_named names name
    ≡ nat_lt (position_or_len (λ other. bytes_eq name other) names) (length names)
named_at [] name = refl
named_at (x ∷ xs) name = by (bytes_eq name x) refl (named_at xs name)
  where
    by : (b : Bool) → bytes_eq name x ≡ b
        → is_named xs name ≡ nat_lt (position_or_len (λ other. bytes_eq name other) xs) (length xs)
        → is_named (x ∷ xs) name ≡ nat_lt (position_or_len (λ other. bytes_eq name other) (x ∷ xs))
        (length (x ∷ xs))
    by true e rest = rw (e, lt-ltb 0 (length (x ∷ xs)) (omega arith)) refl
    by false e rest =
        rw e
        (rest
        ∙ sym (ap (λ n. ltb (1 + position_or_len (λ other. bytes_eq name other) xs) n) (omega arith)
        ∙ ltb-suc (position_or_len (λ other. bytes_eq name other) xs) (length xs)))

-- a name is among others where its place was found
pub named_if_found : (names : List (List ℕ)) (name : List ℕ)
    → is_some (position (λ other. bytes_eq name other) names) ≡ is_named names name
named_if_found names name = by (nat_lt (position_or_len (λ other. bytes_eq name other) names)
    (length names)) refl
  where
    by : (b : Bool) → nat_lt (position_or_len (λ other. bytes_eq name other) names) (length names)
        ≡ b → is_some (position (λ other. bytes_eq name other) names) ≡ is_named names name
    by true h = rw h (sym (named_at names name ∙ h))
    by false h = rw h (sym (named_at names name ∙ h))

-- ---- a name twice

-- a name that wasn't there goes to the end
pub with_new : (names : List (List ℕ)) (name : List ℕ) → is_named names name ≡ false
    → with_name names name ≡ names ++ name ∷ []
with_new names name e = rw e refl

-- ---- the names of the elements of a list, one by one

-- a place in names is the same with more names behind
place_before : (names more : List (List ℕ)) (name : List ℕ) → is_named names name ≡ true
    → place_in (names ++ more) name ≡ place_in names name
place_before [] more name e = absurd (true≢false (sym e))
place_before (x ∷ names) more name e = by (bytes_eq name x) refl e (place_before names more name)
  where
    by : (b : Bool) → bytes_eq name x ≡ b → (b || is_named names name) ≡ true
        → (is_named names name ≡ true → place_in (names ++ more) name ≡ place_in names name)
        → place_in ((x ∷ names) ++ more) name ≡ place_in (x ∷ names) name
    by true h e rest = rw h refl
    by false h e rest = rw (h, rest e) refl

pub bytes_self : (xs : List ℕ) → bytes_eq xs xs ≡ true
bytes_self [] = refl
bytes_self (x ∷ xs) = rw (eq-eqb x x refl, bytes_self xs) refl

-- a name that is put at the end stands where it was looked for
place_behind : (names : List (List ℕ)) (name : List ℕ) → place_in (names ++ name ∷ []) name
    ≡ place_in names name
place_behind [] name = rw (bytes_self name) refl
place_behind (x ∷ names) name = ap (λ n. cond (not (bytes_eq name x)) (1 + n) 0)
    (place_behind names name)

-- a name that is put in stands where it was looked for
place_put : (names : List (List ℕ)) (name : List ℕ) → place_in (with_name names name) name
    ≡ place_in names name
place_put names name = by (is_named names name) refl
  where
    by : (b : Bool) → is_named names name ≡ b → place_in (with_name names name) name
        ≡ place_in names name
    by true e = rw e refl
    by false e = rw e (place_behind names name)

named_put : (names : List (List ℕ)) (name : List ℕ) → is_named (with_name names name) name ≡ true
named_put names name = by (is_named names name) refl
  where
    or_true : (b : Bool) → (b || true) ≡ true
    or_true true = refl
    or_true false = refl

    by : (b : Bool) → is_named names name ≡ b → is_named (with_name names name) name ≡ true
    by true e = rw e e
    by false e = rw (e, named_append names (name ∷ []) name, bytes_self name)
        (or_true (is_named names name))

-- and stays there, whatever is put in later
place_stays : (names later : List (List ℕ)) (name : List ℕ) → is_named names name ≡ true
    → place_in (fold with_name names later) name ≡ place_in names name
place_stays names [] name e = refl
place_stays names (x ∷ later) name e =
    by (is_named names x) refl (place_stays names later name e)
    (place_stays (names ++ x ∷ []) later name
    (named_append names (x ∷ []) name ∙ or_here (is_named names name) (is_named (x ∷ []) name) e))
  where
    or_here : (a b : Bool) → a ≡ true → (a || b) ≡ true
    or_here true b h = refl
    or_here false b h = absurd (true≢false (sym h))

    by : (b : Bool) → is_named names x ≡ b → place_in (fold with_name names later) name
        ≡ place_in names name
        → place_in (fold with_name (names ++ x ∷ []) later) name ≡ place_in (names ++ x ∷ []) name
        → place_in (fold with_name (with_name names x) later) name ≡ place_in names name
    by true h same more = ap (λ ns. place_in (fold with_name ns later) name)
        (let kept : with_name names x ≡ names = rw h refl in kept) ∙ same
    by false h same more = ap (λ ns. place_in (fold with_name ns later) name) (with_new names x h)
        ∙ (more ∙ place_before names (x ∷ []) name e)

-- a name that stands at a place first stands there, where no name stands twice
first_there : (names : List (List ℕ)) (k : ℕ) (name : List ℕ) → IsDistinct bytes_eq names
    → k < length names → get_or names k [] ≡ name
    → position_or_len (λ other. bytes_eq name other) names ≡ k
first_there [] k name once inside here = absurd (omega arith)
first_there (x ∷ xs) zero name once inside here =
    let same : bytes_eq name x ≡ true = ap (bytes_eq name) here ∙ bytes_self name in
    rw same refl
first_there (x ∷ xs) (suc k) name once inside here =
    let apart : bytes_eq x name ≡ false = ap (bytes_eq x) (sym here)
    ∙ apart_from_distinct bytes_eq (x ∷ xs) 0 (suc k) [] once (omega arith) inside in
    let other : bytes_eq name x ≡ false = bytes_eq-sym name x ∙ apart in
    let rest : position_or_len (λ other. bytes_eq name other) xs ≡ k =
    first_there xs k name (IsDistinct-tail bytes_eq x xs once) (omega arith) here in
    let more : 1 + k ≡ suc k = omega arith in
    rw other (ap (λ n. 1 + n) rest ∙ more)

-- and is found there
pub place_there : (names : List (List ℕ)) (k : ℕ) (name : List ℕ) → IsDistinct bytes_eq names
    → k < length names → get_or names k [] ≡ name
    → position (λ other. bytes_eq name other) names ≡ Some k
place_there names k name once inside here =
    let at : position_or_len (λ other. bytes_eq name other) names ≡ k =
    first_there names k name once inside here in
    let less : ltb (position_or_len (λ other. bytes_eq name other) names) (length names) ≡ true =
    lt-ltb (position_or_len (λ other. bytes_eq name other) names) (length names)
    (omega (arith, at, inside)) in
    rw less (ap Some at)

-- what an answer says of itself
pub if_answered : {X : Type 0} (found known : Option X) → found ≡ known
    → IfSome found (λ k. known ≡ Some k)
if_answered None known e = tt
if_answered (Some k) known e = sym e

-- what is known where an answer was some
pub some_answered : {X : Type 0} (found known : Option X) → is_some found ≡ true
    → IfSome found (λ k. known ≡ Some k) → is_some known ≡ true
some_answered None known e told = absurd (false≢true e)
some_answered (Some k) known e told = ap is_some told

-- a place that was found
place_is : {X : Type 0} (p : X → Bool) (xs : List X) (k : ℕ) → position p xs ≡ Some k
    → k ≡ position_or_len p xs
place_is p xs k e = by (ltb (position_or_len p xs) (length xs)) refl
  where
    by : (b : Bool) → ltb (position_or_len p xs) (length xs) ≡ b → k ≡ position_or_len p xs
    by true h = cc
    by false h = cc

-- a name whose place was found is there already, and stays at its place
pub name_found : (names later : List (List ℕ)) (name : List ℕ) (k : ℕ)
    → position (λ other. bytes_eq name other) names ≡ Some k
    → (is_named names name ≡ true) × (k ≡ place_in (fold with_name names later) name)
name_found names later name k e =
    let there : is_named names name ≡ true = sym (named_if_found names name) ∙ ap is_some e in (
      there,
      place_is (λ other. bytes_eq name other) names k e
          ∙ sym (place_stays names later name there),
    )

-- the place at which a name is put in
pub place_kept : (keys new : List (List ℕ)) (name : List ℕ) (place : ℕ) (later : List (List ℕ))
    → place ≡ place_in keys name
    → new ≡ with_name keys name → place ≡ place_in (fold with_name new later) name
place_kept keys new name place later at put =
    at
    ∙ (sym (place_put keys name)
    ∙ (sym (place_stays (with_name keys name) later name (named_put keys name))
    ∙ ap (λ ns. place_in (fold with_name ns later) name) (sym put)))

-- ---- the places of columns
