use Rattle.std.proofs.Common.{◌≡◌, ◌+◌, ◌<◌, ◌∙◌, Some, ap, sym, subst, arith}
use Rattle.eqc_core.specs.declared.sizes.Sizes.{Sizes}
use Rattle.eqc_core.specs.Words.{announced_words}
use Rattle.eqc_core.specs.Moves.{IsReady}
use Rattle.eqc_guard.specs.Standing.{Standing}
use Rattle.eqc_guard.specs.Rule.{counts_from}
use Rattle.eqc_guard.proofs.Making.{unclaim_allows}
use Rattle.eqc_guard.proofs.worker.Worker.unclaim.Goals as goal

pub store-requires : goal.store-requires
store-requires c =
    let is = c.self.invariant in
    let me = c.self.inside.seat.me in
    let v = sym c.self.view_is in
    let at : c.count_word-word.result ≡ counts_from me.0.core.sizes + c.in-Some.slot =
    subst (λ (s : Standing). c.count_word-word.result ≡ counts_from s.known.core.sizes
    + c.in-Some.slot) v c.count_word-word.ensures in
    let ready : IsReady me.0.core = subst (λ (s : Standing). IsReady s.known.core) v c.requires.1.0
    in
    let draft : me.0.core.draft ≡ Some c.in-Some.slot = sym is.draft_is ∙ c.in-Some.is in
    let there : c.in-Some.slot < me.0.core.sizes.names =
    (is.worker.known.draft c.in-Some.slot draft).1 in (
      rw c.deref.ensures is.one_table,
      rw (c.deref.ensures, is.worker.words) (let e = ap announced_words is.worker.sizes in let f =
          ap (λ (z : Sizes). z.names) is.worker.sizes in omega arith),
      unclaim_allows c.deref.result.now.shared.key.sizes c.deref.result.now.shared.table_id.slots
          c.self.inside.seat.id c.count_word-word.result
          me is.worker.active c.in-Some.slot at there (ready, draft),
    )
