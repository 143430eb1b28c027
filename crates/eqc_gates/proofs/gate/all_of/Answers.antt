use Rattle.std.proofs.Common.{◌+◌, ◌<◌, ◌&&◌, length, get_or, ap, ◌∙◌, arith}
use Rattle.std.proofs.lemmas.List.{get_or_read}
use Rattle.eqc_xag.specs.Graph.{literal_value}
use Rattle.eqc_gates.proofs.LiteralLaws.{reduction_begins, reduction_goes_on}
use Rattle.eqc_gates.proofs.gate.all_of.Goals as goal

pub pairs-init : goal.pairs-init
pairs-init c = reduction_begins c.args.sweep.now c.args.literals.items c.requires

pub overflow_add-next : goal.overflow_add-next
overflow_add-next c = omega (arith, c.pairs.invariant.most, c.pairs.work.ok.0)

pub pairs-preserved : goal.pairs-preserved
pairs-preserved c =
    let inside : c.pairs.next + 1 < length c.pairs.work.items =
    omega (arith, c.pairs-test.true, c.len.ensures, c.pairs.work.ok.0) in
    let first = get_or_read c.pairs.work.items c.pairs.next c.index.result.now
    (omega (arith, inside)) c.index.ensures 0 in
    let second = get_or_read c.pairs.work.items (c.pairs.next + 1) c.index-in-pairs.result.now
    inside c.index-in-pairs.ensures 0 in
    reduction_goes_on c.args.sweep.now c.pairs.sweep c.and.new.self c.args.literals.items
    c.pairs.work.items c.push.new.self.items c.pairs.next c.in_ok-both.both
    c.pairs.invariant inside c.in_ok-both.ensures.extends c.in_ok-both.ensures.value.within
    (λ a. c.in_ok-both.ensures.value.value a
    ∙ (ap (λ x. literal_value c.pairs.sweep a x && literal_value c.pairs.sweep a
    c.index-in-pairs.result.now) first
    ∙ ap (λ y. literal_value c.pairs.sweep a (get_or c.pairs.work.items c.pairs.next 0)
    && literal_value c.pairs.sweep a y) second))
    c.in_ok-push.ensures.items
