use Rattle.std.proofs.Common.{◌≡◌, sym, subst, arith, ℕ, List, Some, IfOk}
use Rattle.eqc_blif.specs.Netlist.{ModelOf}
use Rattle.eqc_hierarchy.specs.Codes.{IsRefusedWith}
use Rattle.eqc_flat.specs.Finding.{IsCircle}
use Rattle.eqc_flat.proofs.FindingLaws.{numbered}
use Rattle.eqc_flat.proofs.finding.circle_finding.circle_below.Goals as goal

pub expanded_below-requires-clause-ends : goal.expanded_below-requires-clause-ends
expanded_below-requires-clause-ends c = (numbered c.args.library.now c.args.top 28 (omega arith)
    (omega arith) c.requires.refused).not_recursive

pub expanded_below-requires-clause-small : goal.expanded_below-requires-clause-small
expanded_below-requires-clause-small c = (numbered c.args.library.now c.args.top 28 (omega arith)
    (omega arith) c.requires.refused).small

pub circle_in-requires-clause-refused : goal.circle_in-requires-clause-refused
circle_in-requires-clause-refused c =
    let P : List ModelOf × ℕ → Type 0 = λ v. IsRefusedWith v.0 v.1 28 in
    subst P (sym c.in_ok-hierarchy.ensures.same) c.requires.refused

pub returns : goal.returns
returns c =
    let P : List ModelOf × ℕ → Type 0 = λ v. IfOk c.circle_in.result (λ circle. IsCircle v.0 v.1
    circle) in
    subst P c.in_ok-hierarchy.ensures.same c.circle_in.ensures
