use Rattle.std.proofs.Common.{arith}
use Rattle.std.proofs.lemmas.List.{length_push}
use Rattle.eqc_numbers.proofs.ShownLaws.{copies_more}
use Rattle.eqc_numbers.proofs.shown.copies.Goals as goal

pub loop-k-preserved : goal.loop-k-preserved
loop-k-preserved c =
    let all = c.loop-k.all.items in
    let copy = c.in-Some.copy in
    rw c.in_ok-push.ensures.items (record {
      size = omega (arith, c.loop-k.invariant.size, length_push all copy);
      copies = λ old new are.
          copies_more old new c.args.literals.now all c.loop-k.k copy c.loop-k.invariant.size
          (c.loop-k.invariant.copies old new are) (c.in-Some.ensures old new are);
    })
