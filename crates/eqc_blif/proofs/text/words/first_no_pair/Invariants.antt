use Rattle.std.proofs.Common.{◌≡◌, ℕ, List, true, false, length}
use Rattle.std.specs.List.{list_all}
use Rattle.eqc_blif.specs.Words.{words, is_pair}
use Rattle.eqc_netlist.specs.Names.{is_named}
use Rattle.eqc_blif.proofs.text.words.first_no_pair.Given as goal

abbrev pub invariant-words : goal.invariant-words
invariant-words l = record {
  some : list_all is_pair (words l.rest) ≡ false;
  within : (w : List ℕ) → is_named (words l.rest) w ≡ true → is_named (words l.line) w ≡ true;
}

abbrev pub decreases-words : goal.decreases-words
decreases-words l = length l.rest
