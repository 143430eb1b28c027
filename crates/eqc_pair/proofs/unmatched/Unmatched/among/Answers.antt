use Rattle.std.proofs.Common.{◌∙◌, ◌==◌, sym, ap, arith, not, length}
use Rattle.std.proofs.lemmas.List.{take_all}
use Rattle.eqc_pair.specs.Finding.{unmatched}
use Rattle.eqc_pair.proofs.FindingLemmas.{with_lacked, with_known, few_lacked, none_lacked}
use Rattle.eqc_pair.proofs.unmatched.Unmatched.among.Goals as goal
use Rattle.eqc_pair.proofs.unmatched.Unmatched.among.Goals.{then-is_none+in_ok-add, else-is_none}
use Rattle.eqc_netlist.proofs.NameSetLaws.{bytes_in}

pub add-requires : goal.add-requires
add-requires c = omega (
  arith,
  c.names.invariant.1,
  few_lacked c.args.others.now c.args.names.now
      c.names.name-index,
)

pub names-preserved : goal.names-preserved
names-preserved c = elim c.if-is_none.branch [
  | then-is_none+in_ok-add w ↦
      with_lacked c.args.others.now c.args.names.now c.names.name-index _ c.names-test.true
      c.names.found c.if-is_none.found c.position.result
      c.position.ensures (c.is_none.ensures ∙ ap not w.if-is_none.true) c.names.invariant
      (rw w.found-is w.in_ok-add.ensures)
  | else-is_none w ↦
      with_known c.args.others.now c.args.names.now c.names.name-index _ c.names-test.true
      c.names.found c.if-is_none.found c.position.result
      c.position.ensures (c.is_none.ensures ∙ ap not w.if-is_none.false) c.names.invariant
      w.found-is
]

pub returns-clause-names : goal.returns-clause-names
returns-clause-names c = let whole = take_all c.names.name-index c.args.names.now c.names-test.false
    in rw whole at c.names.invariant

pub returns-clause-none : goal.returns-clause-none
returns-clause-none c =
    let whole = take_all c.names.name-index c.args.names.now c.names-test.false in
    none_lacked c.args.others.now (bytes_in c.args.names.now)
    ∙ ap (λ n. n == 0) (ap (λ l. length (unmatched c.args.others.now (bytes_in l))) (sym whole)
    ∙ sym c.names.invariant.1)
