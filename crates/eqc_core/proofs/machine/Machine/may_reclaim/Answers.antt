use Rattle.std.proofs.Common.{eq-eqb, sym, ◌∙◌, refl, arith}
use Rattle.std.proofs.lemmas.Bool.{eqb-true}
use Rattle.std.proofs.lemmas.List.{get_or_read}
use Rattle.eqc_core.proofs.Lists.{get_past}
use Rattle.eqc_core.proofs.machine.Machine.may_reclaim.Goals as goal

pub returns-then-not-may_reclaim : goal.returns-then-not-may_reclaim
returns-then-not-may_reclaim c = (
  (λ t. absurd (cc)),
  (λ r. absurd (let f =
      (c.if-not-may_reclaim.ensures c.args.self.now.sizes).1 (r.0, r.1, r.2) in cc)),
)

pub returns-then-x-len : goal.returns-then-x-len
returns-then-x-len c =
    let l = c.len.ensures in
    let past = c.if-x-len.true in (
      (λ t. absurd (cc)),
      (λ r. absurd (let one = r.3 in let z =
          get_past c.args.self.now.counts.items c.args.x 0 (omega arith) in omega arith)),
    )

pub returns : goal.returns
returns c =
    let m = c.args.self.now in
    let may = (c.if-not-may_reclaim.ensures m.sizes).0 refl in
    let read = get_or_read m.counts.items c.args.x c.index.result.now (let l = c.len.ensures in
    let n = c.if-x-len.false in omega arith) c.index.ensures 0 in (
      (λ t. (may.0, may.1, may.2, sym read ∙ eqb-true c.index.result.now 1 t)),
      (λ r. eq-eqb c.index.result.now 1 (read ∙ r.3)),
    )
