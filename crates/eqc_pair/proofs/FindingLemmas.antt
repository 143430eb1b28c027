-- Names that others lack, taken one by one.
use Rattle.std.proofs.Common.{◌≡◌, ℕ, zero, suc, ◌+◌, ◌<◌, ◌≤◌, Bool, true, false, not, ◌&&◌, List}
use Rattle.std.proofs.Common.{[], ◌∷◌, ◌++◌, length, take, eqb, get_or, position, Option, Some}
use Rattle.std.proofs.Common.{None, MatchOption, Bor, refl, sym, ap, ◌∙◌, arith, append-nil}
use Rattle.std.specs.Option.{is_some}
use Rattle.std.specs.Str.{bytes_eq}
use Rattle.std.proofs.lemmas.Bool.{true≢false, false≢true, ne_eqb, eq-eqb, le-ltb}
use Rattle.std.proofs.lemmas.List.{length-map, length-take}
use Rattle.std.proofs.lemmas.List.Filters.{length-filter_both}
use Rattle.std.proofs.lemmas.List.Elements.{filter-append}
use Rattle.eqc_netlist.specs.Names.{is_named, has_twice}
use Rattle.eqc_netlist.specs.Names.{StandsTwice}
use Rattle.eqc_pair.specs.Matched.{has_all, same_names, order_words, order_code}
use Rattle.eqc_pair.specs.Finding.{unmatched, AreCut, AreUnmatched}
use Rattle.eqc_pair.proofs.NameLemmas.{bytes_more, named_found, named_missing}
use Rattle.eqc_netlist.proofs.NameSetLaws.{bytes_in}

-- one more name that the others have, or lack
pub known_more : (others : List (List ℕ)) (names : List (Bor (List ℕ))) (i : ℕ) (d : Bor (List ℕ))
    → i < length names →
    is_named others (get_or names i d).now ≡ true → unmatched others (bytes_in (take (i + 1) names))
    ≡ unmatched others (bytes_in (take i names))
known_more others names i d inside is =
    let name = (get_or names i d).now in
    ap (unmatched others) (bytes_more names i d inside)
    ∙ (filter-append (λ n. not (is_named others n)) (bytes_in (take i names)) (name ∷ [])
    ∙ rw is (append-nil (unmatched others (bytes_in (take i names)))))

pub lacked_more : (others : List (List ℕ)) (names : List (Bor (List ℕ))) (i : ℕ) (d : Bor (List ℕ))
    → i < length names →
    is_named others (get_or names i d).now ≡ false →
    unmatched others (bytes_in (take (i + 1) names)) ≡ unmatched others (bytes_in (take i names))
    ++ (get_or names i d).now ∷ []
lacked_more others names i d inside isnt =
    let name = (get_or names i d).now in
    ap (unmatched others) (bytes_more names i d inside)
    ∙ (filter-append (λ n. not (is_named others n)) (bytes_in (take i names)) (name ∷ [])
    ∙ rw isnt refl)

-- there are no more of them than names
pub few_lacked : (others : List (List ℕ)) (names : List (Bor (List ℕ))) (i : ℕ)
    → length (unmatched others (bytes_in (take i names))) ≤ i
few_lacked others names i =
    let all = length-filter_both (λ n. not (is_named others n)) (λ n. not (not (is_named others n)))
    (λ n. refl) (bytes_in (take i names)) in
    omega (
      arith,
      all,
      length-map (take i names) (λ (name : Bor (List ℕ)). name.now),
      length-take i names,
    )

module _ (others : List (List ℕ)) (names : List (Bor (List ℕ))) (i : ℕ) (d : Bor (List ℕ))
    (inside : i < length names) (old new : List (List ℕ) × ℕ) where
  -- what was found so far, with one more name
  pub with_lacked : (found : Option ℕ)
      → found ≡ position (λ other. bytes_eq (get_or names i d).now other) others
      → is_some found ≡ false → AreUnmatched others (bytes_in (take i names)) old
      → ((ns : List (List ℕ)) → AreCut ns old → AreCut (ns ++ (get_or names i d).now ∷ []) new)
      → AreUnmatched others (bytes_in (take (i + 1) names)) new
  with_lacked None is none so_far takes =
      rw (lacked_more others names i d inside (named_missing others (get_or names i d).now
      (sym is))) (takes (unmatched others (bytes_in (take i names))) so_far)
  with_lacked (Some k) is none so_far takes = absurd (true≢false none)

  pub with_known : (found : Option ℕ)
      → found ≡ position (λ other. bytes_eq (get_or names i d).now other) others
      → is_some found ≡ true →
      AreUnmatched others (bytes_in (take i names)) old → new ≡ old
      → AreUnmatched others (bytes_in (take (i + 1) names)) new
  with_known None is some so_far same = absurd (false≢true some)
  with_known (Some k) is some so_far same =
      rw (
        same,
        known_more others names i d inside (named_found others (get_or names i d).now k
            (sym is)).0,
      ) so_far

-- no name is lacked where the others have all
pub none_lacked : (others names : List (List ℕ)) → has_all others names
    ≡ eqb (length (unmatched others names)) 0
none_lacked others [] = refl
none_lacked others (name ∷ names) = by (is_named others name) refl (none_lacked others names)
  where
    by : (b : Bool) → is_named others name ≡ b → has_all others names
        ≡ eqb (length (unmatched others names)) 0 → has_all others (name ∷ names)
        ≡ eqb (length (unmatched others (name ∷ names))) 0
    by true e rest = rw e rest
    by false e rest = rw (
      e,
      ne_eqb (suc (length (unmatched others names))) 0
          (λ h. absurd (omega arith)),
    ) refl

-- where one of two lists lacks names of the other, they have not the same ones
pub not_the_same : (names others : List (List ℕ)) (m n : ℕ) → has_all others names ≡ eqb m 0
    → has_all names others ≡ eqb n 0 → (m ≡ 0 → n ≡ 0 → ⊥) → same_names names others ≡ false
not_the_same names others zero zero first second some = absurd (some refl refl)
not_the_same names others zero (suc n) first second some =
    rw (second, ne_eqb (suc n) 0 (λ e. absurd (omega arith))) refl
not_the_same names others (suc m) n first second some =
    rw (first, ne_eqb (suc m) 0 (λ e. absurd (omega arith))) (and_false (has_all names others))
  where
    and_false : (b : Bool) → (b && false) ≡ false
    and_false true = refl
    and_false false = refl

-- a list that lacks some names of another, behind other names for both
pub some_lacked : (xs ys others names : List (List ℕ)) (found : List (List ℕ) × ℕ) → xs ≡ others
    → ys ≡ names → has_all xs ys ≡ eqb found.1 0 → AreUnmatched xs ys found → 0 < found.1
    → (has_all others names ≡ false) × AreUnmatched others names found
some_lacked xs ys others names found ex ey none are some =
    let all = rw (ex, ey) at none in
    let left = rw (ex, ey) at are in
    (all ∙ ne_eqb found.1 0 (λ e. absurd (omega arith)), left)

pub none_left : (xs ys others names : List (List ℕ)) (count : ℕ) → xs ≡ others → ys ≡ names
    → has_all xs ys ≡ eqb count 0 → count ≤ 0 → has_all others names ≡ true
none_left xs ys others names count ex ey none few =
    let all = rw (ex, ey) at none in
    all ∙ eq-eqb count 0 (omega arith)

-- no word stands twice where none was found
pub once_left : (found : Option (Bor (List ℕ))) (xs words : List (List ℕ)) → xs ≡ words →
    MatchOption found (has_twice xs ≡ false) (λ word. (has_twice xs ≡ true)
    × StandsTwice xs word.now) →
    ((word : Bor (List ℕ)) → found ≡ Some word → ⊥) → has_twice words ≡ false
once_left None xs words e once none = rw e at once
once_left (Some word) xs words e twice none = absurd (none word refl)

-- the code of an order text that isn't too long
pub code_of_unknown : (inputs : List (List ℕ)) (text : List ℕ) → length text ≤ 16777216
    → has_all inputs (order_words text) ≡ false → order_code inputs text ≡ Some 51
code_of_unknown inputs text short unknown = rw (le-ltb 16777216 (length text) short, unknown) refl

pub code_of_left_out : (inputs : List (List ℕ)) (text : List ℕ) → length text ≤ 16777216
    → has_all inputs (order_words text) ≡ true →
    has_twice (order_words text) ≡ false → has_all (order_words text) inputs ≡ false
    → order_code inputs text ≡ Some 53
code_of_left_out inputs text short known once left_out = rw (
  le-ltb 16777216 (length text) short,
  known,
  once,
  left_out,
) refl
