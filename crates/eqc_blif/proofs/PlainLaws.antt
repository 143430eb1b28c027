-- Lines of words are read back from their text.
use Rattle.std.proofs.Common.{◌≡◌, ℕ, suc, ◌+◌, ◌-◌, ◌<◌, Bool, true, false, ◌&&◌, ◌||◌, not, List}
use Rattle.std.proofs.Common.{[], ◌∷◌, ◌++◌, length, map, filter, eqb, ltb, refl, sym, ◌∙◌, ap}
use Rattle.std.proofs.Common.{arith, append_assoc, inl, inr}
use Rattle.std.specs.List.{list_all, list_any, slice_split, position_or_len, before_first}
use Rattle.std.specs.List.{suffix_len, prefix_len, enumerate_from}
use Rattle.std.proofs.lemmas.List.{reverse-append, take_all}
use Rattle.std.proofs.lemmas.List.Folds.{list_all-append}
use Rattle.std.proofs.lemmas.Bool.{and_parts, ltb-true, not-true, cases_Bool, eqb-true, ne_eqb}
use Rattle.std.proofs.lemmas.Bool.{true≢false}
use Rattle.eqc_blif.specs.Lines.{is_blank, is_trailing, physical, trimmed, clean, continues}
use Rattle.eqc_blif.specs.Lines.{numbered, logical}
use Rattle.eqc_blif.specs.Words.{words, without_blanks}
use Rattle.eqc_blif.specs.Reading.{is_bad_byte}
use Rattle.eqc_blif.specs.Laws.{contents}
use Rattle.eqc_blif.specs.PlainText.{with_blanks, text_of, is_word_byte, is_plain_word}
use Rattle.eqc_blif.specs.PlainText.{is_plain_line, WordsAreReadBack}

is_lf : ℕ → Bool
is_lf byte = eqb byte 10

is_hash : ℕ → Bool
is_hash byte = eqb byte 35

-- a part without marks, and what stands behind the first mark
split_at : (p : ℕ → Bool) (mark : ℕ) (xs ys : List ℕ) → p mark ≡ true → list_all (λ x. not (p x)) xs
    ≡ true → slice_split p (xs ++ mark ∷ ys) ≡ xs ∷ slice_split p ys
split_at p mark [] ys passes none = rw passes refl
split_at p mark (x ∷ xs) ys passes none =
    let parts = and_parts (not (p x)) (list_all (λ x. not (p x)) xs) none in
    rw (not-true (p x) parts.0, split_at p mark xs ys passes parts.1) refl

split_none : (p : ℕ → Bool) (xs : List ℕ) → list_all (λ x. not (p x)) xs ≡ true → slice_split p xs
    ≡ xs ∷ []
split_none p [] none = refl
split_none p (x ∷ xs) none =
    let parts = and_parts (not (p x)) (list_all (λ x. not (p x)) xs) none in
    rw (not-true (p x) parts.0, split_none p xs parts.1) refl

pub before_none : (p : ℕ → Bool) (xs : List ℕ) → list_all (λ x. not (p x)) xs ≡ true
    → before_first p xs ≡ xs
before_none p [] none = refl
before_none p (x ∷ xs) none =
    let parts = and_parts (not (p x)) (list_all (λ x. not (p x)) xs) none in
    let one : 1 + position_or_len p xs ≡ suc (position_or_len p xs) = omega arith in
    rw (not-true (p x) parts.0, one) (ap (λ rest. x ∷ rest) (before_none p xs parts.1))

-- what follows from a test of each byte
all_follow : (q p : ℕ → Bool) → ((x : ℕ) → q x ≡ true → p x ≡ true) → (xs : List ℕ)
    → list_all q xs ≡ true → list_all p xs ≡ true
all_follow q p follows [] all = refl
all_follow q p follows (x ∷ xs) all =
    let parts = and_parts (q x) (list_all q xs) all in
    rw (follows x parts.0, all_follow q p follows xs parts.1) refl

-- a byte of a line of words
is_line_byte : ℕ → Bool
is_line_byte byte = eqb byte 32 || is_word_byte byte

-- a byte of a word is no other
word_byte_is_no : (byte other : ℕ) → ltb 32 other ≡ false → is_word_byte byte ≡ true
    → eqb byte other ≡ false
word_byte_is_no byte other low word = elim (cases_Bool (eqb byte other)) [
  | inl same ↦
      let is : byte ≡ other = eqb-true byte other same in
      absurd (true≢false (sym (and_parts _ _ word).0 ∙ (ap (λ b. ltb 32 b) is ∙ low)))
  | inr differs ↦ differs
]

word_byte_no_hash : (byte : ℕ) → is_word_byte byte ≡ true → eqb byte 35 ≡ false
word_byte_no_hash byte word = not-true (eqb byte 35) (and_parts _ _ (and_parts _ _ word).1).1

word_no_blank : (byte : ℕ) → is_word_byte byte ≡ true → not (is_blank byte) ≡ true
word_no_blank byte word = rw (word_byte_is_no byte 32 refl word, word_byte_is_no byte 9 refl word)
    refl

word_no_trailing : (byte : ℕ) → is_word_byte byte ≡ true → is_trailing byte ≡ false
word_no_trailing byte word = rw (
  word_byte_is_no byte 32 refl word,
  word_byte_is_no byte 9 refl
      word,
  word_byte_is_no byte 13 refl word,
) refl

line_no_lf : (byte : ℕ) → is_line_byte byte ≡ true → not (is_lf byte) ≡ true
unfolding is_line_byte is_lf
line_no_lf byte line = elim (cases_Bool (eqb byte 32)) [
  | inl blank ↦ rw (eqb-true byte 32 blank) refl
  | inr other ↦ rw (word_byte_is_no byte 10 refl (sym (rw other refl) ∙ line)) refl
]

line_no_hash : (byte : ℕ) → is_line_byte byte ≡ true → not (is_hash byte) ≡ true
unfolding is_line_byte is_hash
line_no_hash byte line = elim (cases_Bool (eqb byte 32)) [
  | inl blank ↦ rw (eqb-true byte 32 blank) refl
  | inr other ↦ rw (word_byte_no_hash byte (sym (rw other refl) ∙ line)) refl
]

line_no_bad : (byte : ℕ) → is_line_byte byte ≡ true → not (is_bad_byte byte) ≡ true
unfolding is_line_byte
line_no_bad byte line = elim (cases_Bool (eqb byte 32)) [
  | inl blank ↦ rw (eqb-true byte 32 blank) refl
  | inr other ↦
      let word : is_word_byte byte ≡ true = sym (rw other refl) ∙ line in
      let parts = and_parts (ltb 32 byte) (not (eqb byte 127) && not (eqb byte 35)) word in
      let above : 32 < byte = ltb-true 32 byte parts.0 in
      let no_delete : eqb byte 127 ≡ false =
      not-true (eqb byte 127) (and_parts (not (eqb byte 127)) (not (eqb byte 35)) parts.1).0 in
      rw (not_below byte above, no_delete) refl
]
  where
    not_below : (byte : ℕ) → 32 < byte → ltb byte 32 ≡ false
    not_below byte above = elim (cases_Bool (ltb byte 32)) [
      | inl below ↦ absurd (omega (arith, above, ltb-true byte 32 below))
      | inr other ↦ other
    ]

word_in_line : (byte : ℕ) → is_word_byte byte ≡ true → is_line_byte byte ≡ true
unfolding is_line_byte
word_in_line byte word = elim (cases_Bool (eqb byte 32)) [
  | inl blank ↦ rw blank refl
  | inr other ↦ rw (other, word) refl
]

-- the bytes of a plain word
word_bytes : (word : List ℕ) → is_plain_word word ≡ true → list_all is_word_byte word ≡ true
word_bytes word plain = (and_parts _ _ plain).1

line_bytes : (ws : List (List ℕ)) → list_all is_plain_word ws ≡ true
    → list_all is_line_byte (with_blanks ws) ≡ true
line_bytes [] all = refl
line_bytes (word ∷ []) all = all_follow is_word_byte is_line_byte word_in_line word
    (word_bytes word (and_parts _ _ all).0)
line_bytes (word ∷ (next ∷ more)) all =
    let parts = and_parts (is_plain_word word) _ all in
    list_all-append is_line_byte word (32 ∷ with_blanks (next ∷ more))
    ∙ rw (
      all_follow is_word_byte is_line_byte word_in_line word (word_bytes word parts.0),
      line_bytes (next ∷ more) parts.1,
    )
    (unfold is_line_byte in refl)

some_length : (word : List ℕ) → ltb 0 (length word) ≡ true → eqb (length word) 0 ≡ false
some_length [] some = cc
some_length (x ∷ xs) some = ne_eqb _ 0 (omega arith)

none_any : (p : ℕ → Bool) (xs : List ℕ) → list_all (λ x. not (p x)) xs ≡ true
    → list_any p xs ≡ false
none_any p [] none = refl
none_any p (x ∷ xs) none =
    let parts = and_parts (not (p x)) (list_all (λ x. not (p x)) xs) none in
    rw (not-true (p x) parts.0, none_any p xs parts.1) refl

-- a line of words has no bad byte
pub no_bad_byte : (ws : List (List ℕ)) → list_all is_plain_word ws ≡ true
    → list_any is_bad_byte (with_blanks ws) ≡ false
no_bad_byte ws all = none_any is_bad_byte (with_blanks ws) (all_follow is_line_byte
    (λ b. not (is_bad_byte b)) line_no_bad (with_blanks ws) (line_bytes ws all))

filter_all : (p : ℕ → Bool) (xs : List ℕ) → list_all p xs ≡ true → filter p xs ≡ xs
filter_all p [] all = refl
filter_all p (x ∷ xs) all =
    let parts = and_parts (p x) (list_all p xs) all in
    rw parts.0 (ap (λ rest. x ∷ rest) (filter_all p xs parts.1))

-- a word has no blanks
pub word_without_blanks : (word : List ℕ) → is_plain_word word ≡ true → without_blanks word ≡ word
word_without_blanks word plain = filter_all (λ b. not (is_blank b)) word (all_follow is_word_byte
    (λ b. not (is_blank b)) word_no_blank word (word_bytes word plain))

-- the words of a plain line
pub plain_words : (ws : List (List ℕ)) → is_plain_line ws ≡ true → list_all is_plain_word ws ≡ true
plain_words ws plain =
    (and_parts (list_all is_plain_word ws) (not (continues (with_blanks ws)))
    (and_parts (ltb 0 (length ws)) (list_all is_plain_word ws && not (continues (with_blanks ws)))
    plain).1).0

-- the words of a line are read back
pub words_back : (ws : List (List ℕ)) → list_all is_plain_word ws ≡ true → words (with_blanks ws)
    ≡ ws
words_back [] all = refl
words_back (word ∷ []) all =
    let plain = (and_parts (is_plain_word word) _ all).0 in
    let whole = split_none is_blank word (all_follow is_word_byte (λ b. not (is_blank b))
    word_no_blank word (word_bytes word plain)) in
    rw (whole, some_length word (and_parts _ _ plain).0) refl
words_back (word ∷ (next ∷ more)) all =
    let parts = and_parts (is_plain_word word) _ all in
    let cut = split_at is_blank 32 word (with_blanks (next ∷ more)) refl (all_follow is_word_byte
    (λ b. not (is_blank b)) word_no_blank word (word_bytes word parts.0)) in
    rw (cut, some_length word (and_parts _ _ parts.0).0) (ap (λ rest. word ∷ rest)
    (words_back (next ∷ more) parts.1))

-- a list that ends in a byte of a word
record EndsInWord (xs : List ℕ) : Type 0 where
  pub front : List ℕ
  pub last : ℕ
  pub is : xs ≡ front ++ last ∷ []
  pub word : is_word_byte last ≡ true

word_ends : (x : ℕ) (xs : List ℕ) → list_all is_word_byte (x ∷ xs) ≡ true → EndsInWord (x ∷ xs)
word_ends x [] all = record { front = []; last = x; is = refl; word = (and_parts _ _ all).0 }
word_ends x (y ∷ ys) all =
    let more = word_ends y ys (and_parts (is_word_byte x) _ all).1 in
    record {
      front = x ∷ more.front;
      last = more.last;
      is = ap (λ rest. x ∷ rest) more.is;
      word =
          more.word;
    }

plain_word_ends : (word : List ℕ) → is_plain_word word ≡ true → EndsInWord word
plain_word_ends [] plain = absurd (true≢false (sym plain))
plain_word_ends (x ∷ xs) plain = word_ends x xs (word_bytes (x ∷ xs) plain)

line_ends : (word : List ℕ) (ws : List (List ℕ)) → list_all is_plain_word (word ∷ ws) ≡ true
    → EndsInWord (with_blanks (word ∷ ws))
line_ends word [] all = plain_word_ends word (and_parts (is_plain_word word) _ all).0
line_ends word (next ∷ more) all =
    let rest = line_ends next more (and_parts (is_plain_word word) _ all).1 in
    record {
      front = word ++ 32 ∷ rest.front;
      last = rest.last;
      is = ap (λ behind. word ++ 32 ∷ behind) rest.is
          ∙ sym (append_assoc word (32 ∷ rest.front) (rest.last ∷ []));
      word = rest.word;
    }

-- a line that ends in a word has nothing to trim
trimmed_word : (xs : List ℕ) → EndsInWord xs → trimmed xs ≡ xs
trimmed_word xs ends =
    let turned : suffix_len is_trailing (ends.front ++ ends.last ∷ []) ≡ 0 =
    ap (prefix_len is_trailing) (reverse-append ends.front (ends.last ∷ []))
    ∙ rw (word_no_trailing ends.last ends.word) refl in
    let none : suffix_len is_trailing xs ≡ 0 = ap (suffix_len is_trailing) ends.is ∙ turned in
    take_all (length xs - suffix_len is_trailing xs) xs (omega (arith, none))

-- what a line of plain words is as a line of a text
record IsWhole (ws : List (List ℕ)) : Type 0 where
  pub no_lf : list_all (λ x. not (eqb x 10)) (with_blanks ws) ≡ true
  pub cleaned : clean (with_blanks ws) ≡ with_blanks ws
  pub last : continues (with_blanks ws) ≡ false
  pub seen : list_all is_blank (with_blanks ws) ≡ false

-- a line that ends in a word is more than blanks
seen_word : (xs : List ℕ) → EndsInWord xs → list_all is_blank xs ≡ false
seen_word xs ends =
    rw ends.is
    (list_all-append is_blank ends.front (ends.last ∷ [])
    ∙ rw (not-true (is_blank ends.last) (word_no_blank ends.last ends.word))
    (and-false (list_all is_blank ends.front)))
  where
    and-false : (b : Bool) → (b && false) ≡ false
    and-false true = refl
    and-false false = refl

line_is_whole : (ws : List (List ℕ)) → is_plain_line ws ≡ true → IsWhole ws
unfolding is_lf is_hash
line_is_whole [] plain = absurd (true≢false (sym plain))
line_is_whole (word ∷ ws) plain =
    let parts = and_parts _ _ (and_parts _ _ plain).1 in
    let bytes = line_bytes (word ∷ ws) parts.0 in
    let ends = line_ends word ws parts.0 in
    record {
      no_lf = all_follow is_line_byte (λ b. not (is_lf b)) line_no_lf (with_blanks (word ∷ ws))
          bytes;
      cleaned =
          ap trimmed
          (before_none is_hash (with_blanks (word ∷ ws))
          (all_follow is_line_byte (λ b. not (is_hash b)) line_no_hash (with_blanks (word ∷ ws))
          bytes))
          ∙ trimmed_word (with_blanks (word ∷ ws)) ends;
      last = not-true _ parts.1;
      seen = seen_word (with_blanks (word ∷ ws)) ends;
    }

-- the logical lines of plain lines are these lines
pub logical_back : (n : ℕ) (lines : List (List (List ℕ))) → list_all is_plain_line lines ≡ true
    → logical (numbered n (text_of lines)) ≡ enumerate_from n (map with_blanks lines)
logical_back n [] all = refl
logical_back n (ws ∷ lines) all =
    let parts = and_parts (is_plain_line ws) _ all in
    let whole = line_is_whole ws parts.0 in
    let cut : physical (with_blanks ws ++ 10 ∷ text_of lines) ≡ with_blanks ws
    ∷ physical (text_of lines) = split_at (λ b. eqb b 10) 10 (with_blanks ws) (text_of lines)
    refl whole.no_lf in
    rw (cut, whole.cleaned, whole.last, whole.seen) (ap (λ rest. (n, with_blanks ws) ∷ rest)
    (logical_back (n + 1) lines parts.1))

words_of_lines : (n : ℕ) (lines : List (List (List ℕ))) → list_all is_plain_line lines ≡ true
    → map words (contents (enumerate_from n (map with_blanks lines))) ≡ lines
words_of_lines n [] all = refl
words_of_lines n (ws ∷ lines) all =
    let parts = and_parts (is_plain_line ws) _ all in
    rw (words_back ws (plain_words ws parts.0)) (ap (λ rest. ws ∷ rest) (words_of_lines (n + 1)
    lines parts.1))

pub words_are_read_back : WordsAreReadBack
words_are_read_back lines all = rw (logical_back 1 lines all) (words_of_lines 1 lines all)
