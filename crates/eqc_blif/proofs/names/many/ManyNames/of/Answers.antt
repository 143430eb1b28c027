use Rattle.std.proofs.Common.{◌∙◌, arith}
use Rattle.eqc_blif.proofs.NameLemmas.{set_more}
use Rattle.eqc_blif.proofs.names.many.ManyNames.of.Goals as goal

pub names-preserved : goal.names-preserved
names-preserved c =
    set_more c.args.names.now c.names.name-index c.names.set.keys c.insert.new.self.keys
    c.in_ok-copy.copy c.requires (omega arith)
    c.names.invariant (rw (c.in_ok-copy.ensures ∙ c.as_bytes.ensures) c.name-item.is)
    c.in_ok-insert.ensures.keys
