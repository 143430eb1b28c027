use Rattle.eqc_sums.proofs.PolynomialLemmas.{combined_and, combined_xor}
use Rattle.eqc_sums.proofs.polynomial.combine.Goals as goal

pub returns-then-is_and-clause-sum : goal.returns-then-is_and-clause-sum
returns-then-is_and-clause-sum c =
    combined_and c.args.sweep.now c.multiply.new.sweep c.args.is_and c.args.first.now
    c.args.second.now c.new-out.result.items c.multiply.new.out.items c.if-is_and.true
    c.new-out.ensures.items c.in_ok-multiply.ensures.sum

pub returns-clause-sum : goal.returns-clause-sum
returns-clause-sum c =
    combined_xor c.args.sweep.now c.multiply-2.new.sweep c.args.is_and c.args.first.now
    c.args.second.now c.new-out.result.items c.put_all.new.out.items c.put_all-2.new.out.items
    c.multiply-2.new.out.items
    c.if-is_and.false c.new-out.ensures.items c.requires.first c.requires.second
    (c.in_ok-put_all.ensures c.args.sweep.now) (c.in_ok-put_all-2.ensures c.args.sweep.now)
    c.in_ok-multiply-2.ensures.sum
