use Rattle.eqc_plain.proofs.Caching.{empty_cache}
use Rattle.eqc_apply.specs.Meaning.{kept_of}
use Rattle.eqc_apply.proofs.applier.Applier.absorb.Goals as goal

pub invariant_of-self : goal.invariant_of-self
invariant_of-self c = record {
  cached =
      empty_cache (kept_of c.absorb.new.self.variables c.absorb.new.self.worker.known)
      c.clear.new.self.cells.items c.clear.ensures;
}
