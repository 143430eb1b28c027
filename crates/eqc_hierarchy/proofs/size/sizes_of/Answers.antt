use Rattle.std.proofs.Common.{◌≡◌, ◌∙◌, ℕ, List, None, true, get_or, arith, subst}
use Rattle.std.proofs.lemmas.List.{take_all, length-set}
use Rattle.eqc_netlist.specs.Dependency.{among}
use Rattle.eqc_hierarchy.specs.Sizes.{IsTold, model_size}
use Rattle.eqc_hierarchy.proofs.SizeLaws.{sized_more, callees_before}
use Rattle.eqc_hierarchy.proofs.size.sizes_of.Goals as goal

pub size_by_callees-size-requires-clause-known : goal.size_by_callees-size-requires-clause-known
size_by_callees-size-requires-clause-known c =
    λ x e. c.loop-k.invariant.told x (callees_before c.args.calls.now c.args.order.now c.loop-k.k x
    c.requires.ordered (omega (arith, c.loop-k-test.true)) e)

pub loop-k-preserved : goal.loop-k-preserved
loop-k-preserved c = record {
  each = length-set c.loop-k.sizes.items (get_or c.args.order.now c.loop-k.k 0)
      c.size_by_callees-size.result ∙ c.loop-k.invariant.each;
  told =
      sized_more c.args.calls.now c.args.order.now c.loop-k.k c.loop-k.sizes.items
      c.size_by_callees-size.result c.requires.ordered
      (omega (arith, c.loop-k-test.true)) c.loop-k.invariant.each c.size_by_callees-size.ensures
      c.loop-k.invariant.told;
}

pub returns-clause-told : goal.returns-clause-told
returns-clause-told c =
    let P : List ℕ → Type 0 = λ l. (m : ℕ) → among l m ≡ true
    → IsTold (get_or c.loop-k.sizes.items m None) (model_size c.args.calls.now m) in
    subst P (take_all c.loop-k.k c.args.order.now c.loop-k-test.false) c.loop-k.invariant.told
