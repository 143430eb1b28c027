use Rattle.std.proofs.Common.{arith}
use Rattle.eqc_xag.proofs.GraphLemmas.{extends_itself}
use Rattle.eqc_numbers.proofs.ShownLaws.{words_back}
use Rattle.eqc_numbers.proofs.compared.found_of_copies.Goals as goal

pub returns : goal.returns
returns c = λ old are _.
    let now = c.args.sweep.now in
    words_back old now now c.args.words.now.firsts.now c.args.words.now.seconds.now
    c.in_ok-ps.ps.items c.in_ok-qs.qs.items (extends_itself now) (c.in_ok-ps.ensures old now are)
    (c.in_ok-qs.ensures old now are) (omega arith) (omega arith) (record {
      same = omega arith;
      equal = λ k less. c.bits.invariant.equal k (omega arith);
    })
