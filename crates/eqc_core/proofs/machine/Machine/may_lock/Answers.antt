use Rattle.std.proofs.Common.{eqb, sym, ap, ◌∙◌, refl, arith}
use Rattle.std.proofs.lemmas.List.{get_or_read}
use Rattle.eqc_core.proofs.Cofactors.{beq_same, same_beq}
use Rattle.eqc_core.proofs.machine.Machine.may_lock.Goals as goal

pub returns-then-not-may_lock : goal.returns-then-not-may_lock
returns-then-not-may_lock c = (
  (λ t. absurd (cc)),
  (λ r. absurd (let f = (c.if-not-may_lock.ensures c.args.self.now.sizes).1
      r.0 in cc)),
)

pub index-requires : goal.index-requires
index-requires c = let may = (c.if-not-may_lock.ensures c.args.self.now.sizes).0 refl in let i =
    may.1 in let n = c.requires.lawful.sized.locks in omega arith

pub returns : goal.returns
returns c =
    let m = c.args.self.now in
    let may = (c.if-not-may_lock.ensures m.sizes).0 refl in
    let read = get_or_read m.locks.items c.args.i c.index.result.now (let i = may.1 in let n =
    c.requires.lawful.sized.locks in omega arith) c.index.ensures 0 in (
      (λ t. (may, ap (λ n. eqb n 0) (sym read) ∙ beq_same (eqb c.index.result.now 0) c.args.won t)),
      (λ r. same_beq (eqb c.index.result.now 0) c.args.won (ap (λ n. eqb n 0) read ∙ r.1)),
    )
