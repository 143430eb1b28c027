use Rattle.std.proofs.Common.{Some, nat_eq, refl}
use Rattle.eqc_guard.proofs.Making.{held_small}
use Rattle.eqc_plain.proofs.Spending.{spends_refl, spends_as}
use Rattle.eqc_apply.proofs.Answering.{is_referenced, referenced_held, extends_stays, stays_keeps}
use Rattle.eqc_apply.proofs.Answering.{worker_stays}
use Rattle.eqc_apply.proofs.Comparing.{number_compares, says_compares, says_if}
use Rattle.eqc_apply.proofs.Kept.{found, cells_stay}
use Rattle.eqc_apply.proofs.Meanings.{extends_refl}
use Rattle.eqc_apply.proofs.applier.Applier.cached_is.Goals as goal

pub find-requires-clause-f : goal.find-requires-clause-f
find-requires-clause-f c =
    let n = c.args.self.now.names in
    held_small n.worker.known c.args.f.now.name c.recall_laws.ensures
    (referenced_held n c.args.f.now.name (is_referenced n c.args.f.now.at.value
    c.args.f.now.name c.requires.f))

pub find-requires-clause-g : goal.find-requires-clause-g
find-requires-clause-g c =
    let n = c.args.self.now.names in
    held_small n.worker.known c.args.g.now.name c.recall_laws.ensures
    (referenced_held n c.args.g.now.name (is_referenced n c.args.g.now.at.value
    c.args.g.now.name c.requires.g))

-- one of the worker's own cells has the result
pub returns-in-Some-clause-same : goal.returns-in-Some-clause-same
returns-in-Some-clause-same c =
    let n = c.args.self.now.names in
    let right = found n.variables n.worker.known c.args.self.now.cells.cells.items c.args.op
    c.args.f.now.name c.args.g.now.name (Some c.in-Some.x) c.args.self.now.cached
    c.in-Some.ensures.found in
    says_compares c.args.op n c.args.f.now.at.value c.args.g.now.at.value c.args.r.now.at.value
    c.args.f.now.name c.args.g.now.name c.args.r.now.name
    c.requires.f c.requires.g c.requires.r (nat_eq c.in-Some.x c.args.r.now.name)
    (number_compares n.variables n.worker.known c.args.op c.args.f.now.name c.args.g.now.name
    c.in-Some.x c.args.r.now.name c.recall_laws.ensures right
    (referenced_held n c.args.r.now.name (is_referenced n c.args.r.now.at.value c.args.r.now.name
    c.requires.r)))

pub returns-in-Some-clause-kept : goal.returns-in-Some-clause-kept
returns-in-Some-clause-kept c = let n = c.args.self.now.names in
    stays_keeps n n (extends_stays n n (extends_refl n))

pub returns-in-Some-clause-worker : goal.returns-in-Some-clause-worker
returns-in-Some-clause-worker c = let n = c.args.self.now.names in
    worker_stays n n (extends_stays n n (extends_refl n))

pub returns-in-Some-clause-turns : goal.returns-in-Some-clause-turns
returns-in-Some-clause-turns c = spends_refl c.args.self.now.names.turns

-- the shared cells are asked
pub is_shared-requires-clause-f : goal.is_shared-requires-clause-f
is_shared-requires-clause-f c = let n = c.args.self.now.names in referenced_held n c.args.f.now.name
    (is_referenced n c.args.f.now.at.value c.args.f.now.name c.requires.f)

pub is_shared-requires-clause-g : goal.is_shared-requires-clause-g
is_shared-requires-clause-g c = let n = c.args.self.now.names in referenced_held n c.args.g.now.name
    (is_referenced n c.args.g.now.at.value c.args.g.now.name c.requires.g)

pub is_shared-requires-clause-x : goal.is_shared-requires-clause-x
is_shared-requires-clause-x c = let n = c.args.self.now.names in referenced_held n c.args.r.now.name
    (is_referenced n c.args.r.now.at.value c.args.r.now.name c.requires.r)

pub invariant_of-self : goal.invariant_of-self
invariant_of-self c = record {
  cached = cells_stay c.args.self.now.names c.is_shared.new.self
      c.args.self.now.cells.cells.items c.is_shared.ensures.names c.args.self.now.cached;
}

pub returns-clause-same : goal.returns-clause-same
returns-clause-same c =
    says_if c.args.op c.args.self.now.names c.args.f.now.at.value c.args.g.now.at.value
    c.args.r.now.at.value c.args.f.now.name c.args.g.now.name c.args.r.now.name
    c.requires.f c.requires.g c.requires.r c.is_shared.result c.is_shared.ensures.same

-- where they are asked, the own cell has no result
pub returns-clause-own : goal.returns-clause-own
returns-clause-own c = λ x has. absurd (c.in_default.ensures.none refl x has)

pub returns-clause-kept : goal.returns-clause-kept
returns-clause-kept c = stays_keeps c.args.self.now.names c.is_shared.new.self
    (extends_stays c.args.self.now.names c.is_shared.new.self c.is_shared.ensures.names)

pub returns-clause-worker : goal.returns-clause-worker
returns-clause-worker c = worker_stays c.args.self.now.names c.is_shared.new.self
    (extends_stays c.args.self.now.names c.is_shared.new.self c.is_shared.ensures.names)

pub returns-clause-turns : goal.returns-clause-turns
returns-clause-turns c = spends_as c.args.self.now.names.turns c.is_shared.new.self.turns
    c.is_shared.ensures.turns
