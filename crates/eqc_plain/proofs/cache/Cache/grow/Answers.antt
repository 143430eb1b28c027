use Rattle.std.proofs.Common.{◌≤◌, length, arith, vec_len, ◌-◌}
use Rattle.eqc_plain.proofs.Caching.{lengthened, filled}
use Rattle.eqc_plain.proofs.cache.Cache.grow.Goals as goal
use Rattle.eqc_plain.proofs.cache.Cache.grow.Goals.{then-len-eq0, else-len-eq0}

longer : (c : goal.After-resize) → length c.args.self.now.cells.items ≤ c.if-len-eq0.more
longer c = elim c.if-len-eq0.branch [ then-len-eq0 w ↦ omega arith | else-len-eq0 w ↦ omega arith ]

pub returns : goal.returns
returns c =
    lengthened c.args.self.now.cells.items c.resize.new.self.items
    (filled _ c.if-len-eq0.more (c.if-len-eq0.more - vec_len c.args.self.now.cells)
    c.args.self.now.cells.items c.resize.new.self.items (longer c) (omega arith)
    c.resize.ensures.items)
