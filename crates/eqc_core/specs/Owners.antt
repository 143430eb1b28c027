-- The owners of a slot, counted: names held and retired, drafts, the names in cells and boxes, the
-- children of tabled nodes, and the tables.
-- The words of the counts say how many there are; no list of them stands anywhere.
use Rattle.std.specs.Prelude.{ℕ, ◌+◌, List, sum_by, eqb, cond, Option, Some, None}
use Rattle.eqc_core.specs.View.{View}
use Rattle.eqc_core.specs.Words.{Words, times, cell_names}
use Rattle.eqc_core.specs.Tables.{Homes, at_home, in_hand, table_names}

-- how often a view owns the slot, but for its draft
unfoldable pub owned : ℕ → View → ℕ
owned x v = times x v.held + (times x v.retired + in_hand (table_names x) v.hand)

-- how often these cells or boxes name the slot
unfoldable pub in_words : ℕ → List ℕ → ℕ
in_words x words = sum_by (λ word. times x (cell_names word)) words

-- the owners of the slot that are no drafts
abbrev pub owners : Words → Homes → List View → ℕ → ℕ
owners w hs vs x = sum_by (owned x) vs
    + (in_words x w.cells + (in_words x w.boxes + sum_by (at_home (table_names x)) hs))

abbrev pub is_draft : ℕ → Option ℕ → ℕ
is_draft x None = 0
is_draft x (Some d) = cond (eqb d x) 1 0

-- the views whose draft is the slot
abbrev pub drafts : List View → ℕ → ℕ
drafts vs x = sum_by (λ v. is_draft x v.draft) vs
