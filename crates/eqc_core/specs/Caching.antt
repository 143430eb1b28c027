-- A cell of the cache is swapped (Anderson, Blelloch and Wei 2021: store and retire). The counts
-- that the words carry change hands; no count word is touched.
use Rattle.std.specs.Prelude.{ℕ, ◌*◌, ◌<◌, List, [], ◌∷◌, ◌++◌, length}
use Rattle.eqc_core.specs.declared.phase.Phase.TheVariants.{Idle}
use Rattle.eqc_core.specs.View.{View, phase_at}
use Rattle.eqc_core.specs.Words.{announced_words, cell_names, operands, result_of, slots_of}
use Rattle.eqc_core.specs.Trees.{IsRight}
use Rattle.eqc_core.specs.Moves.{IsReady, IsQuiet, AreHeld, with_phase, with_held, without_each}

abbrev pub MaySwapCell : List ℕ → View → ℕ → ℕ → Type 0
MaySwapCell nodes v c word =
    IsReady v × (c < v.sizes.cells) × IsQuiet (phase_at v 0) × IsRight nodes word
    × AreHeld (cell_names word) v.held × (length v.retired < 2 * announced_words v.sizes)

-- the names of the new word are given to the cell; the operands of the old one are held, and its
-- result is retired
abbrev pub swapped : View → ℕ → ℕ → View
swapped v old word =
    record (with_phase (with_held v (without_each (slots_of (cell_names word)) v.held
    ++ slots_of (operands old))) 0 Idle) {
      retired = v.retired ++ slots_of (result_of old ∷ []);
    }
