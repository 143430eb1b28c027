use Rattle.std.proofs.Common.{◌≡◌, [], length, ap, arith}
use Rattle.eqc_plain.proofs.Copying.{copies_none, new_variables}
use Rattle.eqc_plain.proofs.store.Store.copied.Goals as goal

pub places-init : goal.places-init
places-init c =
    let s = c.args.self.now in
    let d = c.in_ok-copy.copy in
    let none : c.new-numbers.result.items ≡ [] = c.new-numbers.ensures.items in
    record {
      copying = rw none (copies_none s d c.args.reached.now.keys (new_variables s.variables d
          c.in_ok-copy.ensures.empty) c.in_ok-copy.ensures.limit c.in_ok-copy.ensures.nodes);
      upto = omega (arith, ap length none);
    }
