use Rattle.std.proofs.Common.{arith}
use Rattle.eqc_plain.specs.Referring.{entry_of}
use Rattle.eqc_plain.proofs.Growing.{grows_trans}
use Rattle.eqc_plain.proofs.Spending.{spends_then, spends_trans}
use Rattle.eqc_plain.proofs.Laws.{weight_le}
use Rattle.eqc_plain.proofs.plain.PlainDiagrams.ite.Goals as goal

pub returns-in-Err-clause-nodes : goal.returns-in-Err-clause-nodes
returns-in-Err-clause-nodes g c e = rw (
  c.give_back.ensures.still.nodes,
  c.give_back.ensures.still.limit,
  c.give_back.ensures.still.turns,
) (c.in-Err.ensures.nodes e)

pub returns-in-Err-clause-references : goal.returns-in-Err-clause-references
returns-in-Err-clause-references g c e =
    let x = c.in-Err.ensures.references e in (
      x.0,
      omega (
        arith,
        x.1,
        c.in_ok-both.ensures.ok.held x.0,
        weight_le (entry_of c.in_ok-both.both) x.0,
      ),
    )

pub returns-clause-nodes : goal.returns-clause-nodes
returns-clause-nodes g c e =
    let k = c.give_back-3.ensures.still in
    let h = c.give_back-2.ensures.still in
    rw (k.nodes, k.limit, k.turns, h.nodes, h.limit, h.turns) (c.apply-either.ensures.nodes e)

pub returns-clause-references : goal.returns-clause-references
returns-clause-references g c e =
    let x = c.apply-either.ensures.references e in (
      x.0,
      omega (
        arith,
        x.1,
        c.in_ok-both.ensures.ok.held x.0,
        c.in-Ok.ensures.ok.held x.0,
        weight_le (entry_of c.in_ok-both.both) x.0,
        weight_le (entry_of c.in-Ok.other) x.0,
      ),
    )

pub returns-in-Err-clause-grows : goal.returns-in-Err-clause-grows
returns-in-Err-clause-grows g c = rw c.give_back.ensures.still.nodes
    (grows_trans _ _ _ c.apply.ensures.grows c.in-Err.ensures.grows)

pub returns-clause-grows : goal.returns-clause-grows
returns-clause-grows g c =
    rw (c.give_back-3.ensures.still.nodes, c.give_back-2.ensures.still.nodes)
    (grows_trans _ _ _ (grows_trans _ _ _ c.apply.ensures.grows c.in-Ok.ensures.grows)
    c.apply-either.ensures.grows)

pub returns-in-Err-clause-turns : goal.returns-in-Err-clause-turns
returns-in-Err-clause-turns g c =
    spends_then (spends_trans c.apply.ensures.turns c.in-Err.ensures.turns)
    c.give_back.ensures.still.turns

pub returns-clause-turns : goal.returns-clause-turns
returns-clause-turns g c =
    let made = spends_trans (spends_trans c.apply.ensures.turns c.in-Ok.ensures.turns)
    c.apply-either.ensures.turns in
    spends_then (spends_then made c.give_back-2.ensures.still.turns)
    c.give_back-3.ensures.still.turns
