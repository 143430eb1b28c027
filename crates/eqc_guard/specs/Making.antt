-- A node's life as a worker knows it: a slot is claimed, its node is written and read, and a node
-- that only its table owns is taken back.
use Rattle.std.specs.Prelude.{◌≡◌, ◌≢◌, ℕ, ◌^◌, ◌<◌, ◌≤◌, List, [], ◌∷◌, length, Some}
use Rattle.std.specs.Prelude.{if◌then◌else◌, eqb, MatchBool}
use mathlib.Core.Option.{some}
use lib.ListN.{get_elem?}
use Rattle.eqc_tree.specs.Tree.{Tree, Node, StartsAbove}
use Rattle.eqc_tree.specs.Word.{node_word}
use Rattle.eqc_core.specs.View.{View, Hand, draft_of, hand_of}
use Rattle.eqc_core.specs.Words.{variable_of, low_of, high_of}
use Rattle.eqc_core.specs.Stripes.{HasRoom}
use Rattle.eqc_core.specs.Moves.{IsReady, AreHeld, note}
use Rattle.eqc_core.specs.Making.{claimed, found_taken, wrote, reclaimed}
use Rattle.eqc_guard.specs.Known.{Known, Stepped, IsHeld, tree_of}
use Rattle.eqc_guard.specs.Telling.{Told, Nothing, copied}

-- a try to claim the slot x, that found its count n: it is won where that is 0
abbrev pub Claims : {T : Type 0} → Known × List T → ℕ → ℕ → ℕ → Known × List T → Type 0
Claims me i x n after = MatchBool (eqb n 0) (Told me i n 2 (claimed me.0.core x) after (Nothing n))
    (Told me i n n (found_taken me.0.core x) after (Nothing n))

-- the slot x was found with the count n: one that is not free is noted as taken
abbrev pub spotted : View → ℕ → ℕ → View
spotted v x n = record v { turn = if eqb n 0 then v.turn else note x v.turn }

-- a node over the trees of the children in its word
abbrev pub node_tree : Known → ℕ → Tree
node_tree k word = Node (variable_of word) (tree_of k (low_of word)) (tree_of k (high_of word))

-- the draft has this word, and stands in the stripe in hand
abbrev pub drafted : View → ℕ → View
drafted v word = wrote v (draft_of v.draft) (hand_of v.hand) word

-- what a write tells: the tree of the new node
abbrev pub Writes : {T : Type 0} → Known × List T → ℕ → ℕ → Known × List T → Type 0
Writes me i word after =
    Stepped me.0 (drafted me.0.core word)
    after.0 × (after.1 ≡ me.1) × (after.0.copy ≡ copied me.0.copy i word)
    × (tree_of after.0 (draft_of me.0.core.draft) ≡ node_tree me.0 word)
    × (after.0.counted ≡ me.0.counted)

-- a worker may write a node: it has a draft, and the stripe of the word in hand, in whose table the
-- word is not; it holds the children, which differ, and whose variables are greater
pub record MayMake (k : Known) (variable low high : ℕ) : Type 0 where
  pub ready : IsReady k.core
  pub draft : (d : ℕ) × (k.core.draft ≡ Some d)
  pub hand : (h : Hand) × (k.core.hand ≡ Some h)
      × HasRoom h.stripe h.entries (node_word variable low high)
  pub few : variable < k.core.sizes.variables
  pub above_low : StartsAbove variable (tree_of k low)
  pub above_high : StartsAbove variable (tree_of k high)
  pub differ : low ≢ high
  pub held : AreHeld (low ∷ high ∷ []) k.core.held
  pub room : length k.core.held ≤ 2 ^ 39

-- what a read of a node tells: its word has the variable, and the names of its tree's two halves,
-- which are known then
pub record Reads (me : Known) (x n : ℕ) (k : Known) : Type 0 where
  pub few : variable_of n < me.core.sizes.variables
  pub small : variable_of n < 2 ^ 16
  pub low : low_of n < me.core.sizes.names
  pub high : high_of n < me.core.sizes.names
  pub tree : tree_of me x ≡ node_tree k n

-- the word with the slot is an entry of the table in hand
abbrev pub IsEntry : View → ℕ → ℕ → Type 0
IsEntry v word x = (h : Hand) × (i : ℕ) × (v.hand ≡ Some h)
    × (get_elem? h.entries i ≡ some (word, x))

-- what one count more of an entry's slot tells: the tree of its node, where the worker holds the
-- children
abbrev pub Ups : Known → ℕ → Known → Type 0
Ups me x k = (word : ℕ) → IsEntry me.core word x → IsHeld me.core (low_of word)
    → IsHeld me.core (high_of word) → tree_of k x ≡ node_tree me word

-- the slot is in no table any longer, and the children in its word are held
abbrev pub taken_back : View → ℕ → ℕ → View
taken_back v x word = reclaimed v (hand_of v.hand) x word

-- a try to take the slot x back, that found its count n: it is won where that is 1
abbrev pub Reclaims : {T : Type 0} → Known × List T → ℕ → ℕ → ℕ → Known × List T → Type 0
Reclaims me i x n after = MatchBool (eqb n 1) ((word : ℕ) → IsEntry me.0.core word x
    → Told me i n 0 (taken_back me.0.core x word) after (Nothing n)) (Told me i n n me.0.core after
    (Nothing n))
