use Rattle.eqc_plain.proofs.Laws.{held_is, same_number}
use Rattle.eqc_plain.proofs.plain.PlainReferences.same.Goals as goal

pub returns : goal.returns
returns c =
    let s = c.args.self.now.store in
    same_number s.lawful (held_is s.variables s.nodes _ s.counts.items _ c.requires.f)
    (held_is s.variables s.nodes _ s.counts.items _ c.requires.g)
