-- The ranges of a run's options: 1 to 64 workers, 1 to 1,048,574 nodes, a power of two from 1 to
-- 1,048,576 as
-- the number of cells, at most 16 forks, at most 65,535 inputs of a main model, and at most
-- 2,147,483,647 bytes of a netlist's text.
use Rattle.std.specs.Prelude.{ℕ, ◌^◌, Bool, not, ◌&&◌, nat_le, ◌==◌, Option, Some, None}
use Rattle.std.specs.Prelude.{if◌then◌else◌}
use Rattle.std.specs.List.{list_any, range_with_len}
use Rattle.eqc_report.specs.declared.options.Options.{Options}

-- whether a number lies between two others, both included
abbrev pub is_between : ℕ → ℕ → ℕ → Bool
is_between low high n = nat_le low n && nat_le n high

-- whether a number is 2 to a power from 0 to 20
unfoldable pub is_cell_count : ℕ → Bool
is_cell_count n = list_any (λ k. n == 2 ^ k) (range_with_len 0 21)

-- the code of the first option out of its range
abbrev pub options_code : Options → Option ℕ
options_code o =
    if not (is_between 1 64 o.workers) then Some 81
    else if not (is_between 1 1048574 o.nodes) then Some 82
    else if not (is_cell_count o.cells) then Some 83
    else if not (is_between 0 16 o.forks) then Some 84
    else if not (is_between 0 65535 o.inputs) then Some 85
    else if not (is_between 0 2147483647 o.bytes) then Some 86
    else None
