-- A node's life: a free slot is claimed, its word is written and stands in its stripe's table, its
-- children are read, and a node that only the table owns is taken back.
use Rattle.std.specs.Prelude.{◌≡◌, ℕ, ◌<◌, ◌≤◌, List, [], ◌∷◌, ◌++◌, get_or, if◌then◌else◌, eqb}
use Rattle.std.specs.Prelude.{Some, None, Bool}
use Rattle.eqc_tree.specs.Word.{node_word}
use Rattle.eqc_core.specs.View.{View, Hand}
use Rattle.eqc_core.specs.Words.{Words, times, children, stripe_of, slots_of}
use Rattle.eqc_core.specs.Tables.{Entries, table_has, table_word}
use Rattle.eqc_core.specs.Trees.{IsShaped}
use Rattle.eqc_core.specs.Moves.{IsReady, AreHeld, with_count, with_node, with_held, without_each}
use Rattle.eqc_core.specs.Moves.{note}

abbrev pub MayClaim : View → ℕ → Type 0
MayClaim v x = IsReady v × (2 ≤ x) × (x < v.sizes.names) × (v.draft ≡ None)

-- a try is won exactly where the slot's count is 0; one that is not won changes no word
abbrev pub wins_claim : Words → ℕ → Bool
wins_claim w x = eqb (get_or w.counts x 0) 0

-- the event of a try says whether it was won, so that it tells what it changes
abbrev pub MayTryClaim : Words → View → ℕ → Bool → Type 0
MayTryClaim w v x won = MayClaim v x × (wins_claim w x ≡ won)

-- the count of a draft is 2: that of the table and that of a name held, once it is written
abbrev pub claimed_words : Words → ℕ → Words
claimed_words w x = with_count w x 2

abbrev pub claimed : View → ℕ → View
claimed v x = record v { draft = Some x; turn = [] }

abbrev pub found_taken : View → ℕ → View
found_taken v x = record v { turn = note x v.turn }

abbrev pub MayUnclaim : View → ℕ → Type 0
MayUnclaim v d = IsReady v × (v.draft ≡ Some d)

abbrev pub unclaimed_words : Words → ℕ → Words
unclaimed_words w d = with_count w d 0

abbrev pub unclaimed : View → View
unclaimed v = record v { draft = None }

-- a new word, in order over held children, in the stripe that is in hand
pub record MayWrite (nodes : List ℕ) (v : View) (d : ℕ) (h : Hand) (word : ℕ) : Type 0 where
  pub ready : IsReady v
  pub draft : v.draft ≡ Some d
  pub hand : v.hand ≡ Some h
  pub stripe : h.stripe ≡ stripe_of word
  pub new : table_word word h.entries ≡ 0
  pub shaped : IsShaped v.sizes.variables nodes word
  pub held : AreHeld (children word) v.held

-- the event that writes a node has its variable and its children, which are there: the word of a
-- child of 2 ^ 20 would have a greater variable, and no such child
pub record MayWriteNode (nodes : List ℕ) (v : View) (d : ℕ) (h : Hand) (variable low high : ℕ) :
    Type 0 where
  pub low_there : low < v.sizes.names
  pub high_there : high < v.sizes.names
  pub word : MayWrite nodes v d h (node_word variable low high)

abbrev pub written_words : Words → ℕ → ℕ → Words
written_words w d word = with_node w d word

-- the table has the word, the draft is held once, and the children are the node's
abbrev pub wrote : View → ℕ → Hand → ℕ → View
wrote v d h word =
    record (with_held v (without_each (slots_of (children word)) v.held ++ d ∷ [])) {
      draft = None;
      hand = Some (record h { entries = h.entries ++ (word, d) ∷ [] });
    }

abbrev pub MayRead : View → ℕ → Type 0
MayRead v x = IsReady v × (0 < times x v.held)

abbrev pub read_node : View → ℕ → ℕ → View
read_node v x word = record v { read = Some (record { name = x; word = word }) }

-- the table without the slot
abbrev pub without_slot : ℕ → Entries → Entries
without_slot x [] = []
without_slot x (e ∷ es) = if eqb e.1 x then es else e ∷ without_slot x es

abbrev pub MayReclaim : Words → View → Hand → ℕ → Type 0
MayReclaim w v h x = IsReady v × (v.hand ≡ Some h) × (0 < table_has x h.entries)
    × (get_or w.counts x 0 ≡ 1)

abbrev pub reclaimed_words : Words → ℕ → Words
reclaimed_words w x = with_count w x 0

abbrev pub reclaimed : View → Hand → ℕ → ℕ → View
reclaimed v h x word = record (with_held v (v.held ++ slots_of (children word))) {
  hand =
      Some (record h { entries = without_slot x h.entries });
}
