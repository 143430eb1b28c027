use Rattle.std.proofs.Common.{ap, arith, ◌∙◌, sym}
use Rattle.std.proofs.lemmas.List.{get_or_default}
use Rattle.eqc_tree.specs.Tree.{value}
use Rattle.eqc_plain.specs.Store.{tree_at}
use Rattle.eqc_plain.proofs.Laws.{gains_constant, gains_read, copies_count}
use Rattle.eqc_plain.proofs.store.Store.hold.Goals as goal

pub returns-then-x-lt2-clause-ok : goal.returns-then-x-lt2-clause-ok
returns-then-x-lt2-clause-ok c =
    let s = c.args.self.now in
    gains_constant s.variables s.nodes _ s.counts.items c.args.x _ c.if-x-lt2.true
    (λ a. ap (λ v. value (tree_at v c.args.x) a) c.of-at.ensures)

pub returns-then-count-clause-full : goal.returns-then-count-clause-full
returns-then-count-clause-full c =
    let s = c.args.self.now in
    copies_count s.variables s.nodes s.counts.items c.args.x c.if-x-lt2.false c.requires
    (omega (arith, c.requires, s.lawful.counted))
    ∙ sym (get_or_default s.counts.items c.args.x c.index-count.result.now 0
    (omega (arith, c.requires, s.lawful.counted)))
    ∙ sym c.index-count.ensures ∙ c.if-count.true

pub returns-clause-ok : goal.returns-clause-ok
returns-clause-ok c =
    let s = c.args.self.now in
    gains_read s.variables s.nodes _ s.counts.items c.args.x c.index-count.result.now
    c.if-x-lt2.false c.requires (omega (arith, c.requires, s.lawful.counted))
    c.index-count.ensures c.of-at.ensures
