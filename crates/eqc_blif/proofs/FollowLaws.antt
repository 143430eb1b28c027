-- Texts put one behind the other, and the numbers of their lines.
use Rattle.std.proofs.Common.{◌≡◌, ℕ, zero, suc, ◌+◌, ◌-◌, ◌≤◌, Bool, true, false, not, cond, List}
use Rattle.std.proofs.Common.{[], ◌∷◌, ◌++◌, length, map, filter, get_or, eqb, refl, sym, ◌∙◌, ap}
use Rattle.std.proofs.Common.{arith, inl, inr}
use Rattle.std.specs.List.{slice_split, onto_first, enumerate_from, list_any, list_all}
use Rattle.std.proofs.lemmas.List.{map-append, length-map}
use Rattle.std.proofs.lemmas.List.Elements.{filter-append}
use Rattle.std.proofs.lemmas.Bool.{cases_Bool, or_parts, eqb-true, and_parts, true≢false}
use Rattle.eqc_blif.specs.Lines.{is_seen, is_blank, physical, clean, continues, spaced, onto_next}
use Rattle.eqc_blif.specs.Lines.{joined, numbered, logical, logical_lines}
use Rattle.eqc_blif.specs.Laws.{ends_open, contents, rises, with_line_ends, TextsFollow}
use Rattle.eqc_blif.specs.Laws.{BlankLinesOnlyRenumber, LineNumbersRise, LinesMakeTheText}
use Rattle.eqc_blif.specs.Laws.{LinesAreCutAgain}

abbrev is_lf : ℕ → Bool
is_lf byte = eqb byte 10

-- some list with a first item
abbrev IsSome_list : {A : Type 0} → List A → Type 0
IsSome_list {A} xs = (first : A) × (rest : List A) × (xs ≡ first ∷ rest)

parts_some : (xs : List ℕ) → IsSome_list (slice_split is_lf xs)
parts_some [] = ([], [], refl)
parts_some (x ∷ xs) = elim (cases_Bool (is_lf x)) [
  | inl ends ↦ ([], slice_split is_lf xs, rw ends refl)
  | inr goes ↦ let more = parts_some xs in (x ∷ more.0, more.1, rw (goes, more.2) refl)
]

onto_first-append : (x : ℕ) (parts more : List (List ℕ)) → IsSome_list parts
    → onto_first x (parts ++ more) ≡ onto_first x parts ++ more
onto_first-append x parts more some = rw some.2 refl

-- a text behind an LF adds its parts
split_append : (xs ys : List ℕ) → slice_split is_lf (xs ++ 10 ∷ ys) ≡ slice_split is_lf xs
    ++ slice_split is_lf ys
split_append [] ys = refl
split_append (x ∷ xs) ys = elim (cases_Bool (is_lf x)) [
  | inl ends ↦ rw (ends, split_append xs ys) refl
  | inr goes ↦ rw (goes, split_append xs ys) (onto_first-append x (slice_split is_lf xs)
      (slice_split is_lf ys) (parts_some xs))
]

enumerate_append : (n : ℕ) (xs ys : List (List ℕ)) → enumerate_from n (xs ++ ys)
    ≡ enumerate_from n xs ++ enumerate_from (n + length xs) ys
enumerate_append n [] ys = let same : n + 0 ≡ n = omega arith in rw same refl
enumerate_append n (x ∷ xs) ys =
    let same : n + suc (length xs) ≡ n + 1 + length xs = omega arith in
    rw (same, enumerate_append (n + 1) xs ys) refl

onto_some : (n : ℕ) (line : List ℕ) (lines : List (ℕ × List ℕ))
    → IsSome_list (onto_next n line lines)
onto_some n line [] = ((n, line), [], refl)
onto_some n line (next ∷ more) = ((n, line ++ next.1), more, refl)

joined_some : (line : ℕ × List ℕ) (lines : List (ℕ × List ℕ)) → IsSome_list (joined (line ∷ lines))
joined_some line lines = elim (cases_Bool (continues line.1)) [
  | inl more ↦ let some = onto_some line.0 (spaced line.1) (joined lines) in
      (some.0, some.1, rw more some.2)
  | inr last ↦ (line, joined lines, rw last refl)
]

onto-append : (n : ℕ) (line : List ℕ) (lines more : List (ℕ × List ℕ)) → IsSome_list lines
    → onto_next n line (lines ++ more) ≡ onto_next n line lines ++ more
onto-append n line lines more some = rw some.2 refl

-- lines behind a line that is whole
joined_append : (xs ys : List (ℕ × List ℕ)) → ends_open xs ≡ false → joined (xs ++ ys) ≡ joined xs
    ++ joined ys
joined_append [] ys whole = refl
joined_append (x ∷ []) ys whole = rw whole refl
joined_append (x ∷ (y ∷ xs)) ys whole =
    let rest : joined ((y ∷ xs) ++ ys) ≡ joined (y ∷ xs) ++ joined ys =
    joined_append (y ∷ xs) ys whole in
    elim (cases_Bool (continues x.1)) [
      | inl more ↦ rw (more, rest) (onto-append x.0 (spaced x.1) (joined (y ∷ xs)) (joined ys)
          (joined_some y xs))
      | inr last ↦ rw (last, rest) refl
    ]

logical_append : (xs ys : List (ℕ × List ℕ)) → ends_open xs ≡ false → logical (xs ++ ys)
    ≡ logical xs ++ logical ys
logical_append xs ys whole = ap (filter is_seen) (joined_append xs ys whole)
    ∙ filter-append is_seen (joined xs) (joined ys)

numbered_append : (n : ℕ) (text more : List ℕ) → numbered n (text ++ 10 ∷ more) ≡ numbered n text
    ++ numbered (n + length (physical text)) more
numbered_append n text more =
    ap (λ parts. enumerate_from n (map clean parts)) (split_append text more)
    ∙ (ap (enumerate_from n) (map-append clean (physical text) (physical more))
    ∙ (enumerate_append n (map clean (physical text)) (map clean (physical more))
    ∙ ap (λ k. numbered n text ++ enumerate_from (n + k) (map clean (physical more)))
    (length-map (physical text) clean)))

pub texts_follow : TextsFollow
texts_follow text more whole = ap logical (numbered_append 1 text more)
    ∙ logical_append (numbered 1 text) (numbered (1 + length (physical text)) more) whole

-- a number less or more
rises_from : (least least' : ℕ) (lines : List (ℕ × List ℕ)) → least ≤ least' → rises least' lines
    → rises least lines
rises_from least least' [] le up = tt
rises_from least least' (line ∷ lines) le up = (omega (arith, up.0), up.1)

enumerated_rises : (n : ℕ) (xs : List (List ℕ)) → rises n (enumerate_from n xs)
enumerated_rises n [] = tt
enumerated_rises n (x ∷ xs) = (omega arith, enumerated_rises (n + 1) xs)

onto_rises : (least n : ℕ) (line : List ℕ) (lines : List (ℕ × List ℕ)) → least ≤ n
    → rises (n + 1) lines → rises least (onto_next n line lines)
onto_rises least n line [] le up = (le, tt)
onto_rises least n line (next ∷ more) le up =
    (le, rises_from (n + 1) (next.0 + 1) more (omega (arith, up.0)) up.1)

joined_rises : (least : ℕ) (lines : List (ℕ × List ℕ)) → rises least lines
    → rises least (joined lines)
joined_rises least [] up = tt
joined_rises least (line ∷ lines) up = elim (cases_Bool (continues line.1)) [
  | inl more ↦ rw more (onto_rises least line.0 (spaced line.1) (joined lines) up.0
      (joined_rises (line.0 + 1) lines up.1))
  | inr last ↦ rw last (up.0, joined_rises (line.0 + 1) lines up.1)
]

filtered_rises : (p : ℕ × List ℕ → Bool) (least : ℕ) (lines : List (ℕ × List ℕ)) → rises least lines
    → rises least (filter p lines)
filtered_rises p least [] up = tt
filtered_rises p least (line ∷ lines) up = elim (cases_Bool (p line)) [
  | inl stays ↦ rw stays (up.0, filtered_rises p (line.0 + 1) lines up.1)
  | inr goes ↦ rw goes (filtered_rises p least lines (rises_from least (line.0 + 1) lines
      (omega (arith, up.0)) up.1))
]

pub line_numbers_rise : LineNumbersRise
line_numbers_rise text = filtered_rises is_seen 1 (joined (numbered 1 text))
    (joined_rises 1 (numbered 1 text) (enumerated_rises 1 (map clean (physical text))))

ends_onto : (x : ℕ) (parts : List (List ℕ)) → IsSome_list parts
    → with_line_ends (onto_first x parts) ≡ x ∷ with_line_ends parts
ends_onto x parts some = rw some.2 (by some.0 some.1)
  where
    by : (first : List ℕ) (rest : List (List ℕ)) → with_line_ends ((x ∷ first) ∷ rest) ≡ x
        ∷ with_line_ends (first ∷ rest)
    by first [] = refl
    by first (next ∷ more) = refl

pub lines_make_the_text : LinesMakeTheText
lines_make_the_text [] = refl
lines_make_the_text (x ∷ xs) = elim (cases_Bool (is_lf x)) [
  | inl ends ↦
      let some = parts_some xs in
      let front : with_line_ends ([] ∷ slice_split is_lf xs) ≡ 10
      ∷ with_line_ends (slice_split is_lf xs) = rw some.2 refl in
      rw ends (front ∙ (ap (λ rest. 10 ∷ rest) (lines_make_the_text xs)
      ∙ ap (λ byte. byte ∷ xs) (sym (eqb-true x 10 ends))))
  | inr goes ↦ rw goes (ends_onto x (slice_split is_lf xs) (parts_some xs)
      ∙ ap (λ rest. x ∷ rest) (lines_make_the_text xs))
]

-- a line without LF is one part
one_part : (line : List ℕ) → list_any is_lf line ≡ false → slice_split is_lf line ≡ line ∷ []
one_part [] none = refl
one_part (x ∷ xs) none =
    let parts = or_parts (is_lf x) (list_any is_lf xs) none in
    rw (parts.0, one_part xs parts.1) refl

pub lines_are_cut_again : LinesAreCutAgain
lines_are_cut_again first [] none = one_part first (or_parts (list_any is_lf first) false none).0
lines_are_cut_again first (next ∷ more) none =
    let parts = or_parts (list_any is_lf first) (list_any (list_any is_lf) (next ∷ more)) none in
    split_append first (with_line_ends (next ∷ more))
    ∙ rw (one_part first parts.0, lines_are_cut_again next more parts.1) refl

-- joining, without the numbers
onto_bytes : List ℕ → List (List ℕ) → List (List ℕ)
onto_bytes line [] = line ∷ []
onto_bytes line (next ∷ more) = (line ++ next) ∷ more

joined_bytes : List (List ℕ) → List (List ℕ)
joined_bytes [] = []
joined_bytes (line ∷ lines) = cond (continues line) (onto_bytes (spaced line) (joined_bytes lines))
    (line ∷ joined_bytes lines)

contents_onto : (n : ℕ) (line : List ℕ) (lines : List (ℕ × List ℕ))
    → contents (onto_next n line lines) ≡ onto_bytes line (contents lines)
unfolding onto_bytes
contents_onto n line [] = refl
contents_onto n line (next ∷ more) = refl

contents_joined : (lines : List (ℕ × List ℕ)) → contents (joined lines)
    ≡ joined_bytes (contents lines)
unfolding joined_bytes
contents_joined [] = refl
contents_joined (line ∷ lines) = elim (cases_Bool (continues line.1)) [
  | inl more ↦ rw more (contents_onto line.0 (spaced line.1) (joined lines)
      ∙ ap (onto_bytes (spaced line.1)) (contents_joined lines))
  | inr last ↦ rw last (ap (λ rest. line.1 ∷ rest) (contents_joined lines))
]

contents_filtered : (p : List ℕ → Bool) (lines : List (ℕ × List ℕ))
    → contents (filter (λ line. p line.1) lines) ≡ filter p (contents lines)
contents_filtered p [] = refl
contents_filtered p (line ∷ lines) = elim (cases_Bool (p line.1)) [
  | inl stays ↦ rw stays (ap (λ rest. line.1 ∷ rest) (contents_filtered p lines))
  | inr goes ↦ rw goes (contents_filtered p lines)
]

contents_enumerated : (n : ℕ) (xs : List (List ℕ)) → contents (enumerate_from n xs) ≡ xs
contents_enumerated n [] = refl
contents_enumerated n (x ∷ xs) = ap (λ rest. x ∷ rest) (contents_enumerated (n + 1) xs)

is_more_than_blank : List ℕ → Bool
is_more_than_blank line = not (list_all is_blank line)

-- the bytes of the logical lines, from those of the lines
contents_logical : (n : ℕ) (xs : List (List ℕ)) → contents (logical (enumerate_from n xs))
    ≡ filter is_more_than_blank (joined_bytes xs)
unfolding is_more_than_blank
contents_logical n xs =
    contents_filtered is_more_than_blank (joined (enumerate_from n xs))
    ∙ ap (filter is_more_than_blank) (contents_joined (enumerate_from n xs)
    ∙ ap joined_bytes (contents_enumerated n xs))

renumbered : (n m : ℕ) (text : List ℕ) → contents (logical (numbered n text))
    ≡ contents (logical (numbered m text))
renumbered n m text = contents_logical n (map clean (physical text))
    ∙ sym (contents_logical m (map clean (physical text)))

-- no byte of blanks is a backslash
blank_at : (line : List ℕ) (i : ℕ) → list_all is_blank line ≡ true → eqb (get_or line i 0) 92
    ≡ false
blank_at [] i blank = refl
blank_at (x ∷ xs) zero blank =
    let parts = and_parts (is_blank x) (list_all is_blank xs) blank in
    elim (cases_Bool (eqb x 92)) [
      | inl backslash ↦ absurd (true≢false (sym (sym (ap is_blank (eqb-true x 92 backslash))
          ∙ parts.0)))
      | inr other ↦ other
    ]
blank_at (x ∷ xs) (suc i) blank = blank_at xs i (and_parts (is_blank x) (list_all is_blank xs)
    blank).1

-- a line of blanks in front of others is no logical line
blank_first : (n : ℕ) (line : List ℕ) (lines : List (ℕ × List ℕ)) → list_all is_blank line ≡ true
    → logical ((n, line) ∷ lines) ≡ logical lines
blank_first n line lines blank =
    let whole : continues line ≡ false = blank_at line (length line - 1) blank in
    rw (whole, blank) refl

pub blank_lines_only_renumber : BlankLinesOnlyRenumber
blank_lines_only_renumber text line more whole one blank =
    let n = 1 + length (physical text) in
    let behind : logical (numbered n (line ++ 10 ∷ more)) ≡ logical (numbered (n + 1) more) =
    ap logical (numbered_append n line more)
    ∙ rw (one_part line one) (blank_first n (clean line) (numbered (n + 1) more) blank) in
    let left = texts_follow text (line ++ 10 ∷ more) whole ∙ ap (λ rest. logical_lines text ++ rest)
    behind in
    let right = texts_follow text more whole in
    ap contents left
    ∙ (map-append (λ (l : ℕ × List ℕ). l.1) (logical_lines text) (logical (numbered (n + 1) more))
    ∙ (ap (λ rest. contents (logical_lines text) ++ rest) (renumbered (n + 1) n more)
    ∙ sym (ap contents right ∙ map-append (λ (l : ℕ × List ℕ). l.1) (logical_lines text)
    (logical (numbered n more)))))
