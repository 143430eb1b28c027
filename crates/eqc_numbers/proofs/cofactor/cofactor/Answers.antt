use Rattle.std.proofs.Common.{◌≡◌, ℕ, ◌*◌, Bool, length, sym, ◌∙◌, ap, subst, arith}
use Rattle.std.proofs.lemmas.List.{length_push}
use Rattle.eqc_xag.specs.Graph.{literal_value, IsBelow, IsGraph}
use Rattle.eqc_numbers.proofs.CasesLaws.{IsPartOf, part_more, part_whole}
use Rattle.eqc_numbers.proofs.cofactor.cofactor.Goals as goal

pub push-requires : goal.push-requires
push-requires c = subst (λ (n : ℕ). IsBelow n c.node_where.result) (sym c.nodes.invariant.size)
    (c.node_where.ensures.below c.nodes.k (omega (arith, c.nodes.auto.k)) c.node.ensures.below)

pub nodes-preserved : goal.nodes-preserved
nodes-preserved c =
    let old = c.args.graph.now in
    let part = c.nodes.part in
    let new = c.push.new.self in
    let k = c.nodes.k in
    let size = c.nodes.invariant.size in
    let pushed = c.in_ok-push.ensures in
    record {
      part = part_more old part new c.args.variable c.args.value k c.node.result
          c.node_where.result c.nodes.invariant.part size c.node.ensures.below
          c.node.ensures.value (c.node_where.ensures.value part
          c.len.ensures.graph)
          (λ a. ap (λ l. literal_value new a l)
          (sym (pushed.literal ∙ ap (λ n. 2 * n) size)) ∙ pushed.value a)
          pushed.extends;
      size = ap length pushed.pushed ∙ (length_push part c.node_where.result
          ∙ omega (arith, size));
    }

pub returns : goal.returns
returns c =
    let old = c.args.graph.now in
    let at_end : c.nodes.k ≡ length old = omega (
      arith,
      c.nodes.auto.k,
      c.nodes.auto.k-end,
      c.nodes-test.false,
      c.len-k-end.ensures.len,
      c.len-k-end.ensures.graph.some,
    ) in
    part_whole old c.nodes.part c.args.variable c.args.value
    (subst (λ n. IsPartOf old c.args.variable c.args.value n c.nodes.part) at_end
    c.nodes.invariant.part) (c.nodes.invariant.size ∙ at_end)
