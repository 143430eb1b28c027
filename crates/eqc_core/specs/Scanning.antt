-- A scan reads every announcement word once (Anderson, Blelloch and Wei 2021: eject). One retired
-- entry of each name that it noted stays, and the others become held.
use Rattle.std.specs.Prelude.{ℕ, ◌+◌, List, [], ◌∷◌, ◌++◌, if◌then◌else◌, ltb}
use Rattle.eqc_core.specs.View.{View, phase_at}
use Rattle.eqc_core.specs.Words.{announced_words, times}
use Rattle.eqc_core.specs.Moves.{IsQuiet, with_held, without, note}

abbrev pub MayScan : View → Type 0
MayScan v = IsQuiet (phase_at v 0)

-- one retired entry for each noted name
abbrev pub kept : List ℕ → List ℕ → List ℕ
kept noted [] = []
kept noted (x ∷ xs) = if ltb 0 (times x noted) then x ∷ kept (without x noted) xs else kept noted xs

-- the other retired entries
abbrev pub ejected : List ℕ → List ℕ → List ℕ
ejected noted [] = []
ejected noted (x ∷ xs) = if ltb 0 (times x noted) then ejected (without x noted) xs else x
    ∷ ejected noted xs

abbrev pub scan_on : View → ℕ → View
scan_on v name = record v { position = v.position + 1; noted = note name v.noted }

abbrev pub scan_end : View → ℕ → View
scan_end v name = record (with_held v (v.held ++ ejected (note name v.noted) v.retired))
    { position = 0; noted = []; retired = kept (note name v.noted) v.retired }

-- the word at the position had this name
abbrev pub scanned : View → ℕ → View
scanned v name = if ltb (v.position + 1) (announced_words v.sizes) then scan_on v name else scan_end
    v name
