use Rattle.eqc_plain.specs.Meaning.{meaning_of}
use Rattle.eqc_plain.proofs.Combining.{decided}
use Rattle.eqc_plain.proofs.Meanings.{store_constants}
use Rattle.eqc_plain.proofs.Caching.{found_right}
use Rattle.eqc_plain.proofs.plain.Plain.known.Goals as goal

pub returns-in-Some-clause-right : goal.returns-in-Some-clause-right
returns-in-Some-clause-right c =
    decided (store_constants c.args.self.now.store.variables c.args.self.now.store.nodes) c.args.op
    c.args.f c.args.g c.in-Some.x c.requires.f c.requires.g c.in-Some.ensures.decided

pub returns-clause-right : goal.returns-clause-right
returns-clause-right c =
    let s = c.args.self.now.store in
    found_right (meaning_of s.variables s.nodes) c.args.self.now.cache.cells.items c.args.op
    c.args.f c.args.g c.find.result c.args.self.now.cached c.find.ensures.found
