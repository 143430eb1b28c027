use Rattle.std.proofs.Common.{◌≡◌, ◌∙◌, List, ℕ, inr, sym, ap, subst, true}
use Rattle.eqc_blif.specs.Netlist.{ModelOf}
use Rattle.eqc_hierarchy.specs.Codes.{is_too_large}
use Rattle.eqc_flat.specs.Instances.{IsExpansion}
use Rattle.eqc_flat.proofs.CodeLaws.{code_29}
use Rattle.eqc_flat.proofs.flattening.expanded.Goals as goal

pub returns-in-None-clause-refused : goal.returns-in-None-clause-refused
returns-in-None-clause-refused c =
    let library = c.args.library.now in
    let top = c.args.top in
    let same = rw c.in-Ok.is at c.calls_below.ensures.calls in
    let none = rw c.in-Ok.is at c.calls_below.ensures.models in
    let large : is_too_large library top ≡ true =
    sym (ap (λ (l : List ModelOf). is_too_large l top) same)
    ∙ (rw c.in-None.is at c.in_ok-made.ensures) in
    rw c.of-in-None.ensures (inr (λ limit. code_29 library top limit none large))

pub returns-in-Some-clause-models : goal.returns-in-Some-clause-models
returns-in-Some-clause-models c = rw c.in-Ok.is at c.calls_below.ensures.models

pub returns-in-Some-clause-made : goal.returns-in-Some-clause-made
returns-in-Some-clause-made c =
    let same = rw c.in-Ok.is at c.calls_below.ensures.calls in
    let P : List ModelOf → Type 0 = λ l. IsExpansion l c.args.top c.in-Some.made in
    subst P same (rw c.in-Some.is at c.in_ok-made.ensures)
