use Rattle.std.proofs.Common.{arith, sym, ap, length}
use Rattle.eqc_hierarchy.proofs.NamingLaws.{sets_size, no_names}
use Rattle.eqc_hierarchy.proofs.naming.Naming.count.Goals as goal

pub returns-else-m-len : goal.returns-else-m-len
returns-else-m-len c =
    sym (no_names c.args.self.now c.args.m
    (let size = sets_size c.self.inside.library.now c.self.inside.sets.items c.self.invariant in
    let same = ap length c.self.view_is in omega (
      arith,
      size,
      same,
      c.if-m-len.false,
      c.len.ensures,
      c.self.inside.sets.ok.0,
    )))
