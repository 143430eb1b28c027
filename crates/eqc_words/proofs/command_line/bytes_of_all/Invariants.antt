use Rattle.std.proofs.Common.{◌≡◌, map, take}
use Rattle.eqc_words.proofs.command_line.bytes_of_all.Given as goal

abbrev pub invariant-loop-value : goal.invariant-loop-value
invariant-loop-value l = map (λ s. s.now) l.all.items
    ≡ map (λ s. s.now) (take l.value-index l.given)
