-- The trees of nodes that are made.
use Rattle.std.specs.Prelude.{◌≡◌, ◌≢◌, ℕ, ◌-◌, ◌^◌, ◌<◌, ◌≤◌, ◌⊎◌, [], ◌∷◌, length, Some, None}
use Rattle.std.specs.Prelude.{Result, IfOk, IfErr, OnErr}
use Rattle.eqc_tree.specs.Tree.{Tree, Node, StartsAbove}
use Rattle.eqc_core.specs.View.{View}
use Rattle.eqc_core.specs.Counting.{Knows as IsKept}
use Rattle.eqc_tree.specs.Word.{node_word}
use Rattle.eqc_tree.specs.declared.stopping.Stop.{Stop}
use Rattle.eqc_tree.specs.declared.stopping.Stop.TheVariants.{NodeLimit, References, Threads}
use Rattle.eqc_core.specs.Words.{times, slots_of, stripe_of}
use Rattle.eqc_core.specs.Tables.{Entries, table_word}
use Rattle.eqc_guard.specs.Locking.{MayHome}
use Rattle.eqc_guard.specs.Searching.{HasSeenAll}
use Rattle.eqc_guard.specs.Standing.{Standing}
use Rattle.eqc_guard.specs.declared.reference.Ref.{Ref}
use Rattle.eqc_arena.specs.Changing.{MayBegin, Changes, Exchanges}
use Rattle.eqc_guard.specs.Known.{Known, IsHeld, IsNamed, names_of, tree_of}

-- the node of a variable over two halves, or the half itself where both are equal
abbrev pub IsNodeOf : ℕ → Tree → Tree → Tree → Type 0
IsNodeOf variable low high t = (low ≡ high → t ≡ low) × (low ≢ high → t ≡ Node variable low high)

-- a constant, or a named node that is known to stay: its tree is known, and one more count may be
-- taken of it
abbrev pub MayCount : View → ℕ → Type 0
MayCount v x = (x < 2) ⊎ ((0 < times x (names_of v)) × IsKept v x)

-- what was named has its tree
abbrev pub KeepsTrees : Known → Known → Type 0
KeepsTrees k after = (x : ℕ) → IsNamed k.core x → tree_of after x ≡ tree_of k x

-- a worker may ask for a node: a call may begin, it holds the children, whose variables are
-- greater, and there are cells
pub record MayAsk (k : Known) (variable low high : ℕ) : Type 0 where
  pub rest : MayBegin k.core
  pub cells : 0 < k.core.sizes.cells
  pub room : length k.core.held ≤ 2 ^ 39
  pub few : variable < k.core.sizes.variables
  pub low_held : IsHeld k.core low
  pub high_held : IsHeld k.core high
  pub above_low : StartsAbove variable (tree_of k low)
  pub above_high : StartsAbove variable (tree_of k high)

-- what comes of asking for a node: one reference more, whose tree is that of the node over the
-- children's trees; or a stop, and the same names are held. The limit of references comes from so
-- many names held on, the node limit where every slot was seen taken
pub record IsGiven (variable low high : ℕ) (given : Result Ref Stop) (old new : Standing) : Type 0
  where
    pub node : IfOk given (λ r. Exchanges [] (slots_of (r.number ∷ [])) old new)
    pub tree : IfOk given (λ r. IsNodeOf variable (tree_of old.known low) (tree_of old.known high)
        (tree_of new.known r.number))
    pub still : OnErr given (Exchanges [] [] old new)
    pub full : IfErr given (λ s. s ≡ References → 2 ^ 32 - 2 ≤ length old.known.core.held)
    pub all : IfErr given (λ s. s ≡ NodeLimit → HasSeenAll new.known.core)
    pub only : IfErr given (λ s. s ≢ Threads)

-- a worker may put a node into its draft: the stripe of the word is in hand, whose map has these
-- entries and not the word
pub record MayPut (k : Known) (t : Entries) (slot variable low high : ℕ) : Type 0 where
  pub home : MayHome k.core (stripe_of (node_word variable low high)) t
  pub draft : k.core.draft ≡ Some slot
  pub new : table_word (node_word variable low high) t ≡ 0
  pub room : length k.core.held ≤ 2 ^ 39
  pub few : variable < k.core.sizes.variables
  pub low_held : IsHeld k.core low
  pub high_held : IsHeld k.core high
  pub above_low : StartsAbove variable (tree_of k low)
  pub above_high : StartsAbove variable (tree_of k high)
  pub differ : low ≢ high

-- a node was made, which the worker has one reference of
pub record IsMade (variable low high r : ℕ) (old new : Standing) : Type 0 where
  pub changes : Changes [] (r ∷ []) new.known.core.hand None old new
  pub first : 2 ≤ r
  pub tree : tree_of new.known r ≡ Node variable (tree_of old.known low) (tree_of old.known high)

-- a worker may look for a node in the stripe in hand, whose map has these entries, and make it
-- there
pub record MayEnter (k : Known) (t : Entries) (variable low high : ℕ) : Type 0 where
  pub home : MayHome k.core (stripe_of (node_word variable low high)) t
  pub no_draft : k.core.draft ≡ None
  pub room : length k.core.held ≤ 2 ^ 39
  pub few : variable < k.core.sizes.variables
  pub low_held : IsHeld k.core low
  pub high_held : IsHeld k.core high
  pub above_low : StartsAbove variable (tree_of k low)
  pub above_high : StartsAbove variable (tree_of k high)
  pub differ : low ≢ high
