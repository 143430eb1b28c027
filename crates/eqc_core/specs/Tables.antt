-- The unique tables: one for each stripe of the node words, at home or in the hand of the worker
-- that has its lock.
use Rattle.std.specs.Prelude.{◌≡◌, ℕ, ◌+◌, ◌<◌, ◌⊎◌, List, [], ◌∷◌, sum_by, eqb, cond, Option, Some}
use Rattle.std.specs.Prelude.{None}
use mathlib.Core.Option as May
use mathlib.Core.Option.{some, none}
use lib.ListN.{get_elem?}
use Rattle.eqc_core.specs.View.{View, Hand}
use Rattle.eqc_core.specs.Words.{times, children}

-- a table has pairs of a node word and its slot
abbrev pub Entries : Type 0
Entries = List (ℕ × ℕ)

-- the tables at home; one that was taken is out
abbrev pub Homes : Type 0
Homes = List (May.Option Entries)

-- the table at home; a lock is won only where there is one
abbrev pub entries_of : May.Option Entries → Entries
entries_of none = []
entries_of (some t) = t

abbrev pub at_home : (Entries → ℕ) → May.Option Entries → ℕ
at_home f none = 0
at_home f (some t) = f t

abbrev pub in_hand : (Entries → ℕ) → Option Hand → ℕ
in_hand f None = 0
in_hand f (Some h) = f h.entries

-- a stripe's table, at home or in a hand
abbrev pub IsTable : Homes → List View → ℕ → Entries → Type 0
IsTable hs vs s t =
    (get_elem? hs s ≡ some (some t))
    ⊎ ((id : ℕ) × (v : View) × (h : Hand) × (get_elem? vs id ≡ some v) × (v.hand ≡ Some h)
    × (h.stripe ≡ s) × (h.entries ≡ t))

-- how often the slot is an entry of the table
unfoldable pub table_has : ℕ → Entries → ℕ
table_has x t = sum_by (λ e. cond (eqb e.1 x) 1 0) t

-- how often the table has the node word
unfoldable pub table_word : ℕ → Entries → ℕ
table_word word t = sum_by (λ e. cond (eqb e.0 word) 1 0) t

-- how often the table owns the slot: as an entry, or as a child of one
unfoldable pub table_names : ℕ → Entries → ℕ
table_names x t = sum_by (λ e. times x (e.1 ∷ children e.0)) t

-- how often the slot is an entry of a table
abbrev pub tabled : Homes → List View → ℕ → ℕ
tabled hs vs x = sum_by (λ v. in_hand (table_has x) v.hand) vs + sum_by (at_home (table_has x)) hs

-- a constant, or a slot that is tabled
abbrev pub IsName : Homes → List View → ℕ → Type 0
IsName hs vs x = (x < 2) ⊎ (0 < tabled hs vs x)

-- how often the stripe is in hand, and how often its table is at home
abbrev pub has_stripe : ℕ → Option Hand → ℕ
has_stripe s None = 0
has_stripe s (Some h) = cond (eqb h.stripe s) 1 0

abbrev pub home_there : Homes → ℕ → ℕ
home_there hs s = there (get_elem? hs s)
  where
    there : May.Option (May.Option Entries) → ℕ
    there none = 0
    there (some none) = 0
    there (some (some t)) = 1
