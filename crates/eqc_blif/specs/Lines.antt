-- The logical lines of a text (BLIF 1992, section 1; the blanks that are cut are this project's
-- choice): the whole
-- text is cut at each LF, numbered, cleaned, joined at its backslashes, and freed of blank lines,
-- step by step.
use Rattle.std.specs.Prelude.{ℕ, ◌-◌, Bool, ◌||◌, not, List, [], ◌∷◌, ◌++◌, length, take, map}
use Rattle.std.specs.Prelude.{filter, slice_index, if◌then◌else◌, ◌==◌}
use Rattle.std.specs.List.{list_all, before_first, enumerate_from, slice_split, suffix_len}

-- a space or a tab
abbrev pub is_blank : ℕ → Bool
is_blank byte = (byte == 32) || (byte == 9)

-- a space, a tab or a CR
abbrev pub is_trailing : ℕ → Bool
is_trailing byte = (byte == 32) || (byte == 9) || (byte == 13)

-- the physical lines: the text cut at each LF
abbrev pub physical : List ℕ → List (List ℕ)
physical text = slice_split (λ byte. byte == 10) text

-- the bytes without trailing spaces, tabs and CRs
abbrev pub trimmed : List ℕ → List ℕ
trimmed line = take (length line - suffix_len is_trailing line) line

-- a line without its comment, which `#` begins, and without what then trails
abbrev pub clean : List ℕ → List ℕ
clean line = trimmed (before_first (λ byte. byte == 35) line)

-- whether a backslash is last
abbrev pub continues : List ℕ → Bool
continues line = slice_index line (length line - 1) == 92

-- the bytes with a space in place of the last
abbrev pub spaced : List ℕ → List ℕ
spaced line = take (length line - 1) line ++ 32 ∷ []

-- a line, numbered n, with the first of the lines behind it joined to it; behind the last line
-- there is none
abbrev pub onto_next : ℕ → List ℕ → List (ℕ × List ℕ) → List (ℕ × List ℕ)
onto_next n line [] = (n, line) ∷ []
onto_next n line (next ∷ more) = (n, line ++ next.1) ∷ more

-- each line whose last byte is a backslash is joined with the next
abbrev pub joined : List (ℕ × List ℕ) → List (ℕ × List ℕ)
joined [] = []
joined (line ∷ lines) = if continues line.1 then onto_next line.0 (spaced line.1) (joined lines)
    else line ∷ joined lines

-- the line is more than spaces and tabs
abbrev pub is_seen : ℕ × List ℕ → Bool
is_seen line = not (list_all is_blank line.1)

-- the clean physical lines of a text, numbered from n
abbrev pub numbered : ℕ → List ℕ → List (ℕ × List ℕ)
numbered n text = enumerate_from n (map clean (physical text))

-- the logical lines that clean numbered lines make
abbrev pub logical : List (ℕ × List ℕ) → List (ℕ × List ℕ)
logical lines = filter is_seen (joined lines)

-- the logical lines of a text, each with the number of its first physical line
abbrev pub logical_lines : List ℕ → List (ℕ × List ℕ)
logical_lines text = logical (numbered 1 text)
