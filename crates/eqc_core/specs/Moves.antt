-- What the steps have in common: one word is set, and the view of the worker that steps changes.
use Rattle.std.specs.Prelude.{◌≡◌, ℕ, ◌≤◌, List, [], ◌∷◌, ◌++◌, set, if◌then◌else◌, eqb, ltb}
use Rattle.std.specs.Prelude.{Option, Some, None}
use Rattle.eqc_core.specs.declared.phase.Phase.{Phase}
use Rattle.eqc_core.specs.declared.phase.Phase.TheVariants.{Idle, Seen, Announced, Confirmed}
use Rattle.eqc_core.specs.declared.phase.Phase.TheVariants.{Missed}
use Rattle.eqc_core.specs.View.{View, Read}
use Rattle.eqc_core.specs.Words.{Words, times}

abbrev pub with_announced : Words → ℕ → ℕ → Words
with_announced w i x = record w { announced = set w.announced i x }

abbrev pub with_count : Words → ℕ → ℕ → Words
with_count w x n = record w { counts = set w.counts x n }

abbrev pub with_node : Words → ℕ → ℕ → Words
with_node w x word = record w { nodes = set w.nodes x word }

abbrev pub with_cell : Words → ℕ → ℕ → Words
with_cell w c word = record w { cells = set w.cells c word }

abbrev pub with_box : Words → ℕ → ℕ → Words
with_box w b word = record w { boxes = set w.boxes b word }

abbrev pub with_lock : Words → ℕ → ℕ → Words
with_lock w s n = record w { locks = set w.locks s n }

-- the node last read is forgotten with its name
abbrev pub forget : List ℕ → Option Read → Option Read
forget held None = None
forget held (Some r) = if ltb 0 (times r.name held) then Some r else None

-- every change of the names held
abbrev pub with_held : View → List ℕ → View
with_held v held = record v { held = held; read = forget held v.read }

abbrev pub with_phase : View → ℕ → Phase → View
with_phase v k p = record v { phases = set v.phases k p }

-- no scan is under way: while one is, its steps are the worker's only ones
abbrev pub IsReady : View → Type 0
IsReady v = v.position ≡ 0

-- the announcement word of this phase is 0
abbrev pub IsQuiet : Phase → Type 0
IsQuiet Idle = Unit {0}
IsQuiet (Seen c word) = Unit {0}
IsQuiet (Announced c word) = ⊥
IsQuiet (Confirmed x) = ⊥
IsQuiet (Missed x) = ⊥

-- the list without the first x
abbrev pub without : ℕ → List ℕ → List ℕ
without x [] = []
without x (y ∷ ys) = if eqb y x then ys else y ∷ without x ys

-- the list ys without one of each of xs
abbrev pub without_each : List ℕ → List ℕ → List ℕ
without_each [] ys = ys
without_each (x ∷ xs) ys = without_each xs (without x ys)

-- the names stand in the list as often as they occur, but for the constants
abbrev pub AreHeld : List ℕ → List ℕ → Type 0
AreHeld names held = (x : ℕ) → 2 ≤ x → times x names ≤ times x held

-- a name is noted once, and 0 is no name
abbrev pub note : ℕ → List ℕ → List ℕ
note x noted = if eqb x 0 then noted else (if ltb 0 (times x noted) then noted else noted ++ x ∷ [])
