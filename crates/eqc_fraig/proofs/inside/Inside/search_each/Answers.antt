use Rattle.std.proofs.Common.{◌≡◌, ◌<◌, ◌∙◌, true, false, Some, None, length, refl, ap, subst, sym}
use Rattle.std.proofs.Common.{arith}
use Rattle.std.specs.List.{All}
use Rattle.eqc_compare.specs.Alike.{AreEqual}
use Rattle.eqc_miter.specs.Asking.{IsAnswerOf}
use Rattle.eqc_compare.specs.declared.outcome.Difference.{Difference}
use Rattle.eqc_compare.specs.Comparing.{difference_at, told_at, is_chosen_at}
use Rattle.eqc_literals.proofs.LiteralLaws.{equal_set, kept_set}
use Rattle.eqc_compare.proofs.ToldLaws.{told_skip, told_more, told_first, told_chosen, told_equal}
use Rattle.eqc_compare.proofs.OutcomeLaws.{compared_outcome}
use Rattle.eqc_fraig.proofs.inside.Inside.search_each.Goals as goal
use Rattle.eqc_fraig.proofs.inside.Inside.search_each.Goals.{in-Never}
use Rattle.eqc_fraig.proofs.inside.Inside.search_each.Goals.{in-Least+in_ok-push-in-Least+else-not-every}

pub loop-output-preserved-then-is_settled : goal.loop-output-preserved-then-is_settled
loop-output-preserved-then-is_settled g c =
    let p = c.args.self.now in
    let o = c.loop-output.output in
    let i = c.loop-output.invariant in
    let outputs = rw (c.first.ensures, c.pair.ensures, c.self.view_is) at c.outputs-outputs.ensures
    in
    let inside : c.loop-output.output < length c.args.self.now.first.outputs =
    omega (arith, ap length outputs) in
    let same : c.pair-in-loop-output.result.now ≡ c.args.self.now = c.pair-in-loop-output.ensures
    ∙ (c.self-in-loop-output.view_is ∙ i.pair) in
    let none : told_at c.args.self.now c.loop-output.output ≡ None =
    subst (λ q. told_at q c.loop-output.output ≡ None) same (c.is_settled.ensures.none
    c.if-is_settled.true) in
    record {
      pair = i.pair;
      known = i.known;
      kept = i.kept;
      ahead = i.ahead;
      told = told_skip p c.args.terms.every c.loop-output.found.items o i.told inside none;
    }

pub returns-then-not-every-clause-found : goal.returns-then-not-every-clause-found
returns-then-not-every-clause-found g c =
    let p = c.args.self.now in
    let o = c.loop-output.output in
    let i = c.loop-output.invariant in
    let outputs = rw (c.first.ensures, c.pair.ensures, c.self.view_is) at c.outputs-outputs.ensures
    in
    let inside : c.loop-output.output < length c.args.self.now.first.outputs =
    omega (arith, ap length outputs) in
    let same : c.pair-in-loop-output.result.now ≡ c.args.self.now = c.pair-in-loop-output.ensures
    ∙ (c.self-in-loop-output.view_is ∙ i.pair) in
    let found : difference_at c.loop-output.self c.loop-output.output
    ≡ Some c.in-Least.values.items = rw c.in-Least.is at c.in_ok-witness.ensures.found in
    let differs : difference_at c.args.self.now c.loop-output.output
    ≡ Some c.in-Least.values.items = subst (λ q. difference_at q c.loop-output.output
    ≡ Some c.in-Least.values.items) i.pair found in
    let d : Difference = record { output = c.loop-output.output; values = c.in-Least.values } in
    let told : told_at c.args.self.now c.loop-output.output ≡ Some c.in-Least.values.items =
    told_chosen p o (subst (λ q. is_chosen_at q c.loop-output.output ≡ true) same
    (c.is_settled.ensures.chosen c.if-is_settled.false))
    ∙ differs in
    compared_outcome p c.args.terms.every false c.push.new.self c.requires.allowed refl
    (rw c.in_ok-push-in-Least.ensures.items (told_first p c.args.terms.every
    c.loop-output.found.items o i.told inside d refl told c.if-not-every.true))

pub loop-output-preserved : goal.loop-output-preserved
loop-output-preserved g c =
    let p = c.args.self.now in
    let o = c.loop-output.output in
    let i = c.loop-output.invariant in
    let outputs = rw (c.first.ensures, c.pair.ensures, c.self.view_is) at c.outputs-outputs.ensures
    in
    let inside : c.loop-output.output < length c.args.self.now.first.outputs =
    omega (arith, ap length outputs) in
    let same : c.pair-in-loop-output.result.now ≡ c.args.self.now = c.pair-in-loop-output.ensures
    ∙ (c.self-in-loop-output.view_is ∙ i.pair) in
    elim c.match-witness.branch [
      | in-Never w ↦
          let found : difference_at c.loop-output.self c.loop-output.output ≡ None =
          rw w.in-Never.is at c.in_ok-witness.ensures.found in
          let none : difference_at c.args.self.now c.loop-output.output ≡ None =
          subst (λ q. difference_at q c.loop-output.output ≡ None) i.pair found in
          record {
            pair = c.self-in-loop-output-2.view_is ∙ (c.in_ok-witness.ensures.pair ∙ i.pair);
            ahead = subst (λ q. All (IsAnswerOf q) c.next_witness.new.course.ahead.items) i.pair
                c.in_ok-witness.ensures.ahead;
            known = record {
              equal = rw (w.alike-is, w.mark.ensures.equal)
                  (equal_set p c.loop-output.alike.equal.items o i.known.equal none);
              choice = rw (w.alike-is, w.mark.ensures.chosen) i.known.choice;
            };
            kept = rw (w.alike-is, w.mark.ensures.equal) (kept_set p c.args.alike.now.equal.items
                c.loop-output.alike.equal.items o i.kept);
            told = rw w.found-is (told_skip p c.args.terms.every c.loop-output.found.items o i.told
                inside (told_equal p o none));
          }
      | in-Least+in_ok-push-in-Least+else-not-every w ↦
          let found : difference_at c.loop-output.self c.loop-output.output
          ≡ Some w.in-Least.values.items = rw w.in-Least.is at c.in_ok-witness.ensures.found in
          let differs : difference_at c.args.self.now c.loop-output.output
          ≡ Some w.in-Least.values.items =
          subst (λ q. difference_at q c.loop-output.output ≡ Some w.in-Least.values.items) i.pair
          found in
          let d : Difference = record { output = c.loop-output.output; values = w.in-Least.values }
          in
          let told : told_at c.args.self.now c.loop-output.output ≡ Some w.in-Least.values.items =
          told_chosen p o (subst (λ q. is_chosen_at q c.loop-output.output ≡ true) same
          (c.is_settled.ensures.chosen c.if-is_settled.false))
          ∙ differs in
          record {
            pair = c.self-in-loop-output-2.view_is ∙ (c.in_ok-witness.ensures.pair ∙ i.pair);
            ahead = subst (λ q. All (IsAnswerOf q) c.next_witness.new.course.ahead.items) i.pair
                c.in_ok-witness.ensures.ahead;
            known = rw w.alike-is i.known;
            kept = rw w.alike-is i.kept;
            told = rw (w.found-is, w.in_ok-push-in-Least.ensures.items)
                (told_more p c.args.terms.every c.loop-output.found.items o i.told inside d refl told
                w.if-not-every.false);
          }
    ]

pub next_witness-requires-clause-equal : goal.next_witness-requires-clause-equal
next_witness-requires-clause-equal g c = λ κs live.
    let i = c.loop-output.invariant in
    rw c.deref-in-loop-output.ensures.value (subst (λ q. AreEqual q c.loop-output.alike.equal.items)
    (sym i.pair) i.known.equal)

pub next_witness-requires-clause-output : goal.next_witness-requires-clause-output
next_witness-requires-clause-output g c = λ κs live.
    let outputs = rw (c.first.ensures, c.pair.ensures, c.self.view_is) at c.outputs-outputs.ensures
    in
    let inside : c.loop-output.output < length c.args.self.now.first.outputs =
    omega (arith, ap length outputs) in
    subst (λ q. c.loop-output.output < length q.first.outputs) (sym c.loop-output.invariant.pair)
    inside

pub next_witness-requires-clause-ahead : goal.next_witness-requires-clause-ahead
next_witness-requires-clause-ahead g c = λ κs live.
    subst (λ q. All (IsAnswerOf q) c.loop-output.course.ahead.items)
    (sym c.loop-output.invariant.pair) c.loop-output.invariant.ahead
