use Rattle.std.proofs.Common.{◌≡◌, ◌++◌, length, eqb}
use Rattle.std.specs.List.{flat_map, slice_split}
use Rattle.eqc_pair.specs.Matched.{line_words, order_words}
use Rattle.eqc_pair.proofs.order.order_words.Given as goal
use Rattle.eqc_netlist.proofs.NameSetLaws.{bytes_in}

abbrev pub invariant-lines : goal.invariant-lines
invariant-lines l = bytes_in l.words.items ++ flat_map line_words (slice_split (λ b. eqb b 10)
    l.rest) ≡ order_words l.text

abbrev pub decreases-lines : goal.decreases-lines
decreases-lines l = length l.rest
