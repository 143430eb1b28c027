-- A box is swapped: a task is offered or taken, a result or a stop is put back. Looking at a box
-- changes nothing.
use Rattle.std.specs.Prelude.{ℕ, ◌*◌, ◌<◌, List, [], ◌∷◌, ◌++◌, if◌then◌else◌, ltb}
use Rattle.eqc_core.specs.View.{View}
use Rattle.eqc_core.specs.Words.{Words, operation_of, cell_names, slots_of}
use Rattle.eqc_core.specs.Trees.{IsBoxWord}
use Rattle.eqc_core.specs.Moves.{IsReady, AreHeld, with_box, with_held, without_each}

-- a look at a box that is there: it changes nothing
abbrev pub MayLookBox : View → ℕ → Type 0
MayLookBox v b = IsReady v × (b < 16 * v.sizes.workers)

-- the boxes of worker k are numbers 16 k to 16 k + 15
abbrev pub MaySwapBox : List ℕ → View → ℕ → ℕ → Type 0
MaySwapBox nodes v b word = IsReady v × (b < 16 * v.sizes.workers) × IsBoxWord nodes word
    × AreHeld (cell_names word) v.held

abbrev pub boxed_words : Words → ℕ → ℕ → Words
boxed_words w b word = with_box w b word

-- a stop that came out of a box
abbrev pub stop_in : ℕ → List ℕ
stop_in word = if ltb 12 (operation_of word) then operation_of word ∷ [] else []

-- the names of the new word are given to the box, and those of the old one are held
abbrev pub boxed : View → ℕ → ℕ → View
boxed v old word =
    record (with_held v (without_each (slots_of (cell_names word)) v.held
    ++ slots_of (cell_names old))) { stops = v.stops ++ stop_in old }
