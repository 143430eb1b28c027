use Rattle.std.proofs.Common.{◌≡◌, ◌+◌, ap, sym, subst, arith}
use Rattle.eqc_core.specs.declared.sizes.Sizes.{Sizes}
use Rattle.eqc_core.specs.Words.{announced_words}
use Rattle.eqc_core.specs.Making.{MayClaim}
use Rattle.eqc_guard.specs.Standing.{Standing}
use Rattle.eqc_guard.specs.Rule.{counts_from}
use Rattle.eqc_guard.proofs.Making.{claim_allows}
use Rattle.eqc_guard.proofs.worker.Worker.try_claim.Goals as goal

pub compare_exchange-count-requires : goal.compare_exchange-count-requires
compare_exchange-count-requires c =
    let is = c.self.invariant in
    let me = c.self.inside.seat.me in
    let v = sym c.self.view_is in
    let at : c.count_word-word.result ≡ counts_from me.0.core.sizes + c.args.x =
    subst (λ (s : Standing). c.count_word-word.result ≡ counts_from s.known.core.sizes + c.args.x) v
    c.count_word-word.ensures in
    let may : MayClaim me.0.core c.args.x = subst (λ (s : Standing). MayClaim s.known.core c.args.x)
    v c.requires in (
      rw c.deref.ensures is.one_table,
      rw (c.deref.ensures, is.worker.words) (let there = may.2 in let e =
          ap announced_words is.worker.sizes in let f = ap (λ (z : Sizes). z.names) is.worker.sizes
          in omega arith),
      claim_allows c.deref.result.now.shared.key.sizes c.deref.result.now.shared.table_id.slots
          c.self.inside.seat.id c.count_word-word.result me is.worker.active c.args.x at may,
    )
