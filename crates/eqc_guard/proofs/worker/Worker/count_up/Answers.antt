use Rattle.std.proofs.Common.{◌≡◌, ◌+◌, ◌-◌, ℕ, ap, sym, subst, arith}
use Rattle.eqc_core.specs.declared.sizes.Sizes.{Sizes}
use Rattle.eqc_core.specs.Words.{announced_words}
use Rattle.eqc_core.specs.Counting.{MayUp}
use Rattle.eqc_guard.specs.Making.{Ups}
use Rattle.eqc_guard.specs.Standing.{Standing}
use Rattle.eqc_guard.specs.Rule.{counts_from}
use Rattle.eqc_guard.proofs.Moves.{up_allows}
use Rattle.eqc_guard.proofs.worker.Worker.count_up.Goals as goal

pub fetch_add-requires : goal.fetch_add-requires
fetch_add-requires c =
    let is = c.self.invariant in
    let me = c.self.inside.seat.me in
    let v = sym c.self.view_is in
    let at : c.count_word-word.result ≡ counts_from me.0.core.sizes + c.args.x =
    subst (λ (s : Standing). c.count_word-word.result ≡ counts_from s.known.core.sizes + c.args.x) v
    c.count_word-word.ensures in
    let may : MayUp me.0.core c.args.x = subst (λ (s : Standing). MayUp s.known.core c.args.x) v
    c.requires in (
      rw c.deref.ensures is.one_table,
      rw (c.deref.ensures, is.worker.words) (let there = may.2 in let e =
          ap announced_words is.worker.sizes in let f = ap (λ (z : Sizes). z.names) is.worker.sizes
          in omega arith),
      up_allows c.deref.result.now.shared.key.sizes c.deref.result.now.shared.table_id.slots
          c.self.inside.seat.id c.count_word-word.result me is.worker.active c.args.x at may,
    )

pub returns-clause-tells : goal.returns-clause-tells
returns-clause-tells c =
    let me = c.self.inside.seat.me in
    let at : c.count_word-word.result ≡ counts_from me.0.core.sizes + c.args.x =
    subst (λ (s : Standing). c.count_word-word.result ≡ counts_from s.known.core.sizes + c.args.x)
    (sym c.self.view_is) c.count_word-word.ensures in
    let back : c.count_word-word.result - counts_from me.0.core.sizes ≡ c.args.x = omega arith in
    subst (λ (s : Standing). Ups s.known c.args.x c.fetch_add.new.seat.me.0) c.self.view_is
    (subst (λ (y : ℕ). Ups c.self.inside.seat.me.0 y c.fetch_add.new.seat.me.0) back
    c.fetch_add.ensures.2.3)
