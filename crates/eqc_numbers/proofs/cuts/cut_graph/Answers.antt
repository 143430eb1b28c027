use Rattle.std.proofs.Common.{◌≡◌, ℕ, ◌*◌, length, sym, ◌∙◌, ap, subst, arith}
use Rattle.std.proofs.lemmas.List.{length_push}
use Rattle.eqc_xag.specs.Graph.{literal_value, IsBelow}
use Rattle.eqc_numbers.proofs.CutLaws.{IsCutTo, cut_more, cut_whole}
use Rattle.eqc_numbers.proofs.cuts.cut_graph.Goals as goal

pub push-requires : goal.push-requires
push-requires c = subst (λ (n : ℕ). IsBelow n c.cut_node.result) (sym c.nodes.invariant.size)
    (c.cut_node.ensures.below c.nodes.k c.node.ensures.below)

pub nodes-preserved : goal.nodes-preserved
nodes-preserved c =
    let old = c.args.graph.now in
    let part = c.nodes.part in
    let new = c.push.new.self in
    let k = c.nodes.k in
    let size = c.nodes.invariant.size in
    let pushed = c.in_ok-push.ensures in
    record {
      part = cut_more old part new k c.node.result c.cut_node.result c.nodes.invariant.part size
          c.node.ensures.below c.cut_node.ensures.stands c.node.ensures.value
          (λ b. ap (λ l. literal_value new b l)
          (sym (pushed.literal ∙ ap (λ n. 2 * n) size)) ∙ pushed.value b)
          pushed.extends;
      size = ap length pushed.pushed ∙ (length_push part c.cut_node.result ∙ omega (arith, size));
    }

pub returns : goal.returns
returns c =
    let old = c.args.graph.now in
    let at_end : c.nodes.k ≡ length old = omega (
      arith,
      c.nodes.auto.k,
      c.nodes.auto.k-end,
      c.nodes-test.false,
      c.len-k-end.ensures.len,
      c.len-k-end.ensures.graph.some,
    ) in
    cut_whole old c.nodes.part
    (subst (λ n. IsCutTo old n c.nodes.part) at_end c.nodes.invariant.part)
    (c.nodes.invariant.size ∙ at_end)
