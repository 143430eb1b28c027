use Rattle.eqc_cover.proofs.HeldLaws.{kept_held}
use Rattle.eqc_cover.proofs.least.least_over.Goals as goal

pub by_blocks-requires : goal.by_blocks-requires
by_blocks-requires g c = record {
  held = kept_held _ _ _ c.least.ensures.kept c.requires.held;
  within = rw c.least.ensures.kept.variables c.requires.within;
  distinct = c.requires.distinct;
  satisfiable = c.requires.satisfiable;
  depends = c.requires.depends;
}
