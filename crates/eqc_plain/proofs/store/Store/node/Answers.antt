use Rattle.std.proofs.Common.{arith, ◌∙◌}
use Rattle.eqc_plain.proofs.Growing.{packed, found_node}
use Rattle.eqc_plain.proofs.store.Store.node.Goals as goal

pub returns-in-Some-clause-ok : goal.returns-in-Some-clause-ok
returns-in-Some-clause-ok c =
    let s = c.args.self.now in
    let f = c.in-Some.ensures.found in
    found_node s.lawful c.args.variable c.args.low c.args.high c.in-Some.slot
    (packed c.args.variable c.args.low c.args.high (omega arith) (omega (
      arith,
      s.lawful.limited,
      s.lawful.fits,
      c.requires.low,
    )) (omega (
      arith,
      s.lawful.limited,
      s.lawful.fits,
      c.requires.high,
    )))
    f.0 (f.1 ∙ c.pack_node.ensures)
