-- A worker is split off, and joined again, as what they know has it.
use Rattle.std.specs.Prelude.{◌≡◌, ◌+◌, ◌<◌, ◌≤◌, length, true, ℕ, List, [], ◌∷◌, ◌++◌}
use Rattle.std.specs.Prelude.{if◌then◌else◌, ltb, None}
use Rattle.eqc_tree.specs.Tree.{Tree}
use Rattle.eqc_core.specs.View.{View, fresh}
use Rattle.eqc_core.specs.Words.{announced_words, times}
use Rattle.eqc_core.specs.Seating.{splitter, IsAtRest, joined}
use Rattle.eqc_core.specs.Moves.{IsReady}
use Rattle.eqc_guard.specs.Known.{Known, names_of}

-- worker 0 splits the next number off, and has no copy of the words any longer
abbrev pub split_left : Known → Known
split_left k = record {
  core = splitter k.core k.core.given;
  trees = k.trees;
  copy = None;
  counted =
      k.counted;
}

-- the new worker names nothing
abbrev pub split_off : Known → Known
split_off k = record {
  core = fresh k.core.sizes k.core.given;
  trees = [];
  copy = None;
  counted =
      0;
}

-- the trees of these names alone
abbrev pub only : List ℕ → List (ℕ × Tree) → List (ℕ × Tree)
only xs [] = []
only xs (p ∷ ps) = if ltb 0 (times p.0 xs) then p ∷ only xs ps else only xs ps

-- a worker may take in another than worker 0, that is at rest: together they have few retired
-- names. That they are two follows, and that their sizes are the same
abbrev pub MayTake : View → View → Type 0
MayTake v o = IsReady v × (0 < o.number) × (o.active ≡ true) × IsAtRest o
    × (length v.retired + length o.retired ≤ announced_words v.sizes + announced_words o.sizes)

-- one worker has what two had; what the second one read last, and how many steps it made, is
-- forgotten
abbrev pub both : Known → Known → Known
both k o = let v = joined k.core o.core.number o.core in record {
  core = v;
  trees =
      only (names_of v) (k.trees ++ o.trees);
  copy = None;
  counted = k.counted;
}
