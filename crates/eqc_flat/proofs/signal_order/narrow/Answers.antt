use Rattle.std.proofs.Common.{arith, nat_lt}
use Rattle.std.proofs.lemmas.Bool.{ltb-true}
use Rattle.eqc_netlist.proofs.Members.{all_at}
use Rattle.eqc_flat.proofs.signal_order.narrow.Goals as goal

pub overflow_cast-numbers : goal.overflow_cast-numbers
overflow_cast-numbers c = let less =
    ltb-true _ 1048576 (all_at (λ x. nat_lt x 1048576) c.args.numbers.now c.loop-k.k 0 c.requires
    c.loop-k-test.true) in omega (arith, less)
