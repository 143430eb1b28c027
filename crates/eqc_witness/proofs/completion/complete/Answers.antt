use Rattle.eqc_rup.specs.Clauses.{IsRefuted}
use Rattle.eqc_witness.proofs.ConeLemmas.{refuted_root}
use Rattle.eqc_witness.proofs.completion.complete.Goals as goal

pub returns-in-Refuted-clause-found : goal.returns-in-Refuted-clause-found
returns-in-Refuted-clause-found c rest long =
    let cone = c.args.cone.now in
    let refuted : IsRefuted cone.graph c.in_ok-assumptions.assumptions.items =
    rw c.deref.ensures.value at (c.in_ok-ask_near.ensures.answer c.in-Refuted.is) in
    refuted_root cone.graph cone.root c.args.first.now c.in_ok-assumptions.assumptions.items
    c.in_ok-assumptions.ensures refuted rest
