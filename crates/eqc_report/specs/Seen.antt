-- What was seen of a pair whose comparison is given up: an output that differs.
use Rattle.std.specs.Prelude.{◌≡◌, true, length, Contains, IfSome}
use Rattle.eqc_pair.specs.PairOf.{PairOf}
use Rattle.eqc_pair.specs.Matched.{is_chosen}
use Rattle.eqc_compare.specs.Verdict.{first_value, differs_under}
use Rattle.eqc_compare.specs.Comparing.{netlist_of, assumption_of}
use Rattle.eqc_report.specs.declared.undecided.Seen.{Seen}
use Rattle.eqc_report.specs.declared.undecided.Undecided.{Undecided}

-- an output that is chosen, with an allowed assignment of the first netlist's inputs under which it
-- differs, and with its
-- value under that in the first netlist
pub record IsSeenOf (p : PairOf) (seen : Seen) : Type 0 where
  pub inputs : seen.inputs.items ≡ p.first.inputs
  pub output : Contains p.first.outputs seen.difference.name
  pub chosen : is_chosen p.chosen seen.difference.name ≡ true
  pub size : length seen.difference.values.items ≡ length p.first.inputs
  pub differs : differs_under (netlist_of p.first) (netlist_of p.second) (assumption_of p)
      seen.difference.name seen.difference.values.items ≡ true
  pub first : seen.difference.first ≡ first_value (netlist_of p.first) seen.difference.name
      seen.difference.values.items

-- such an output is what was seen, if one was
abbrev pub IsLeftOf : PairOf → Undecided → Type 0
IsLeftOf p left = IfSome left.seen (IsSeenOf p)
