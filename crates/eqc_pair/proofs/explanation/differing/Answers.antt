use Rattle.std.proofs.Common.{◌≡◌, ap, ◌∙◌}
use Rattle.eqc_pair.proofs.FindingLemmas.{not_the_same}
use Rattle.eqc_netlist.proofs.NameSetLaws.{bytes_in}
use Rattle.eqc_pair.proofs.explanation.differing.Goals as goal
use Rattle.eqc_pair.proofs.explanation.differing.Goals.{else-count-eq0-via-then-count-eq0+else-count-eq0-2}
use Rattle.eqc_pair.proofs.explanation.differing.Goals.{else-count-eq0-via-else-count-eq0}

pub returns : goal.returns
returns c =
    let others = ap bytes_in c.deref.ensures.value ∙ c.in_ok-others.ensures in
    let names = ap bytes_in c.deref-2.ensures.value ∙ c.in_ok-names.ensures in
    let names_again = ap bytes_in c.deref-3.ensures.value ∙ c.in_ok-names.ensures in
    let others_again = ap bytes_in c.deref-4.ensures.value ∙ c.in_ok-others.ensures in
    let some : c.in_ok-first.first.1 ≡ 0 → c.in_ok-second.second.1 ≡ 0
    → ⊥ = elim c.else-count-eq0.branch [
      | else-count-eq0-via-then-count-eq0+else-count-eq0-2 w ↦
          λ _ none. w.if-count-eq0-2.false (w.count-then-count-eq0.ensures ∙ none)
      | else-count-eq0-via-else-count-eq0 w ↦ λ none _. w.if-count-eq0.false (c.count.ensures
          ∙ none)
    ] in (
      not_the_same c.args.names.now c.args.others.now c.in_ok-first.first.1 c.in_ok-second.second.1
          (rw (others, names) at c.in_ok-first.ensures.none) (rw (names_again, others_again) at
          c.in_ok-second.ensures.none) some,
      rw (others, names) at c.in_ok-first.ensures.names,
      rw (names_again, others_again) at c.in_ok-second.ensures.names,
    )
