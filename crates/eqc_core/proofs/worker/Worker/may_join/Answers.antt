use Rattle.std.proofs.Common.{length, sym, ap, subst, arith, refl}
use Rattle.eqc_core.specs.View.{View}
use Rattle.eqc_core.specs.Seating.{IsAtRest}
use Rattle.eqc_core.proofs.Stored.{active_is}
use Rattle.eqc_core.proofs.worker.Worker.may_join.Goals as goal

pub returns-then-not-is_at_rest : goal.returns-then-not-is_at_rest
returns-then-not-is_at_rest c =
    let is = active_is c.args.sizes c.args.other.now c.if-not-other.false in (
      (λ t. absurd (cc)),
      (λ may. (c.if-not-is_at_rest.ensures c.args.sizes).1
          (subst (λ (v : View). IsAtRest v) is may.4)),
    )

pub returns : goal.returns
returns c =
    let z = c.args.sizes in
    let is = active_is z c.args.other.now c.if-not-other.false in
    let rest = subst (λ (v : View). IsAtRest v) (sym is) ((c.if-not-is_at_rest.ensures z).0 refl) in
    let same = ap (λ (v : View). length v.retired) is in
    let words = c.announced_words.ensures in
    let mine = c.len.ensures in
    let theirs = c.len-2.ensures in (
      (λ t. (
        omega arith,
        c.if-from-self.false,
        omega arith,
        ap (λ (v : View). v.active) is,
        rest,
        omega arith,
      )),
      (λ may. refl),
    )
