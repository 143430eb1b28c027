use Rattle.std.proofs.Common.{◌≡◌, ◌+◌, ◌≤◌, length, take}
use Rattle.std.specs.List.{suffix_len}
use Rattle.eqc_blif.specs.Lines.{is_trailing}
use Rattle.eqc_blif.proofs.text.lines.trimmed.Given as goal

abbrev pub invariant-loop-end : goal.invariant-loop-end
invariant-loop-end l = (l.end ≤ length l.line) × (l.end + suffix_len is_trailing l.line
    ≡ length l.line + suffix_len is_trailing (take l.end l.line))

abbrev pub decreases-loop-end : goal.decreases-loop-end
decreases-loop-end l = l.end
