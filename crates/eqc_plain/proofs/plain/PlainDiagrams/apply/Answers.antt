use Rattle.std.proofs.Common.{ℕ, Bool, sym, ◌∙◌}
use Rattle.std.proofs.lemmas.Result.{IfOk-weaker}
use Rattle.eqc_tree.specs.Tree.{value}
use Rattle.eqc_tree.specs.Operation.{operate}
use Rattle.eqc_plain.specs.Store.{tree_at}
use Rattle.eqc_plain.proofs.Laws.{held_is}
use Rattle.eqc_plain.proofs.Growing.{before}
use Rattle.eqc_plain.proofs.Extending.{keeps_then_gains, operate_same}
use Rattle.eqc_plain.proofs.plain.PlainDiagrams.apply.Goals as goal

pub combine-requires-clause-f : goal.combine-requires-clause-f
combine-requires-clause-f g c =
    let s = c.args.self.now.store in
    (held_is s.variables s.nodes _ s.counts.items _ c.requires.f).within

pub combine-requires-clause-g : goal.combine-requires-clause-g
combine-requires-clause-g g c =
    let s = c.args.self.now.store in
    (held_is s.variables s.nodes _ s.counts.items _ c.requires.g).within

pub returns-clause-ok : goal.returns-clause-ok
returns-clause-ok g c =
    let s = c.args.self.now.store in
    let n = c.combine.new.self.store in
    let p = held_is s.variables s.nodes _ s.counts.items _ c.requires.f in
    let q = held_is s.variables s.nodes _ s.counts.items _ c.requires.g in
    let b = before s.nodes n.nodes c.combine.ensures.store.grows in
    let f = b.tree c.args.f.now.node p.within ∙ sym p.tree in
    let h = b.tree c.args.g.now.node q.within ∙ sym q.tree in
    let right = λ (a : ℕ → Bool).
    ◌∙◌ {b = operate c.args.op (value (tree_at n.nodes c.args.f.now.node) a)
    (value (tree_at n.nodes c.args.g.now.node) a)}
    (c.in_ok-x.ensures.ok.function a) (operate_same c.args.op _ _ _ _ a f h) in
    IfOk-weaker c.hold.result _ _ (λ r k. keeps_then_gains _ _ _ _ _ _ c.combine.ensures.store.keeps
    k right) c.hold.ensures.ok
