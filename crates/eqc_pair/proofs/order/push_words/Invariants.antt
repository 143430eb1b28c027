use Rattle.std.proofs.Common.{◌≡◌, ◌++◌, filter, length}
use Rattle.std.specs.List.{slice_split}
use Rattle.eqc_pair.specs.Matched.{is_blank, is_word, line_words}
use Rattle.eqc_pair.proofs.order.push_words.Given as goal
use Rattle.eqc_netlist.proofs.NameSetLaws.{bytes_in}

abbrev pub invariant-parts : goal.invariant-parts
invariant-parts l = bytes_in l.words.items ++ filter is_word (slice_split is_blank l.rest)
    ≡ bytes_in l.initial.words.items ++ line_words l.line

abbrev pub decreases-parts : goal.decreases-parts
decreases-parts l = length l.rest
