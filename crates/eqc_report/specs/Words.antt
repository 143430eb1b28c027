-- Words among the names of outputs: their names begin with the same bytes and end with the same,
-- and have a number between them, as
-- `p[3]` and `p[4]`.
use Rattle.std.specs.Prelude.{ℕ, ◌-◌, Bool, not, ◌&&◌, ◌==◌, List, length, take, drop, bytes_eq}
use Rattle.std.specs.List.{list_any, list_all}
use Rattle.std.specs.Char.{is_ascii_digit}
use Rattle.eqc_report.specs.declared.undecided.word.Word.{Word}

-- whether bytes are a number
abbrev pub is_number : List ℕ → Bool
is_number bytes = not (length bytes == 0) && list_all is_ascii_digit bytes

-- whether bytes end with these, behind a number
abbrev pub ends_number : List ℕ → List ℕ → Bool
ends_number after bytes =
    bytes_eq (drop (length bytes - length after) bytes) after
    && is_number (take (length bytes - length after) bytes)

-- whether a name begins and ends with these bytes, and has a number between them
abbrev pub has_number : List ℕ → List ℕ → List ℕ → Bool
has_number before after name = bytes_eq (take (length before) name) before
    && ends_number after (drop (length before) name)

-- whether a name is of a word, and whether it is of one of these
abbrev pub is_of : List ℕ → Word → Bool
is_of name w = has_number w.before.items w.after.items name

abbrev pub is_of_any : List ℕ → List Word → Bool
is_of_any name words = list_any (is_of name) words
