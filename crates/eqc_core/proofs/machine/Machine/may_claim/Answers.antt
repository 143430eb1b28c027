use Rattle.std.proofs.Common.{eqb, sym, ap, ◌∙◌, refl, arith}
use Rattle.std.proofs.lemmas.List.{get_or_read}
use Rattle.eqc_core.proofs.Cofactors.{beq_same, same_beq}
use Rattle.eqc_core.proofs.machine.Machine.may_claim.Goals as goal

pub returns-then-not-may_claim : goal.returns-then-not-may_claim
returns-then-not-may_claim c =
    ((λ t. absurd (cc)), (λ r. absurd (let f = c.if-not-may_claim.ensures.1 r.0 in cc)))

pub index-requires : goal.index-requires
index-requires c = let may = c.if-not-may_claim.ensures.0 refl in let i = may.2 in let n =
    c.requires.lawful.sized.counts in omega arith

pub returns : goal.returns
returns c =
    let m = c.args.self.now in
    let may = c.if-not-may_claim.ensures.0 refl in
    let read = get_or_read m.counts.items c.args.x c.index.result.now (let i = may.2 in let n =
    c.requires.lawful.sized.counts in omega arith) c.index.ensures 0 in (
      (λ t. (may, ap (λ n. eqb n 0) (sym read) ∙ beq_same (eqb c.index.result.now 0) c.args.won t)),
      (λ r. same_beq (eqb c.index.result.now 0) c.args.won (ap (λ n. eqb n 0) read ∙ r.1)),
    )
