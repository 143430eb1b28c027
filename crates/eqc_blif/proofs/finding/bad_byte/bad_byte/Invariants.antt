use Rattle.std.proofs.Common.{◌≡◌, true, length}
use Rattle.std.specs.List.{list_any}
use Rattle.eqc_blif.specs.Lines.{numbered}
use Rattle.eqc_blif.specs.Reading.{is_bad_byte}
use Rattle.eqc_blif.proofs.BadByteLemmas.{first_bad}
use Rattle.eqc_blif.proofs.finding.bad_byte.bad_byte.Given as goal

abbrev pub invariant-lines : goal.invariant-lines
invariant-lines l = record {
  some : list_any (λ line. list_any is_bad_byte line.1) l.lines ≡ true;
  same : first_bad l.lines ≡ first_bad (numbered 1 l.text);
}

abbrev pub decreases-lines : goal.decreases-lines
decreases-lines l = length l.lines
