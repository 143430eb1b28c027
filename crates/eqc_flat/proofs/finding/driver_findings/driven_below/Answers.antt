use Rattle.std.proofs.Common.{◌≡◌, sym, subst, ℕ, List, Some, IfOk}
use Rattle.eqc_blif.specs.Netlist.{ModelOf}
use Rattle.eqc_hierarchy.specs.Codes.{IsRefusedWith}
use Rattle.eqc_flat.specs.DriverTable.{driven_code, NamesDriven}
use Rattle.eqc_flat.proofs.FindingLaws.{driven_numbered}
use Rattle.eqc_flat.proofs.finding.driver_findings.driven_below.Goals as goal

pub expanded_below-requires-clause-ends : goal.expanded_below-requires-clause-ends
expanded_below-requires-clause-ends c = (driven_numbered c.args.driven c.args.library.now c.args.top
    c.requires.refused).not_recursive

pub expanded_below-requires-clause-small : goal.expanded_below-requires-clause-small
expanded_below-requires-clause-small c =
    (driven_numbered c.args.driven c.args.library.now c.args.top c.requires.refused).small

pub driven_named-requires-clause-refused : goal.driven_named-requires-clause-refused
driven_named-requires-clause-refused c =
    let P : List ModelOf × ℕ → Type 0 = λ v. IsRefusedWith v.0 v.1 (driven_code c.args.driven) in
    subst P (sym c.in_ok-hierarchy.ensures.same) c.requires.refused

pub returns : goal.returns
returns c =
    let P : List ModelOf × ℕ → Type 0 =
    λ v. IfOk c.driven_named.result (λ name. NamesDriven c.args.driven v.0 v.1 name) in
    subst P c.in_ok-hierarchy.ensures.same c.driven_named.ensures
