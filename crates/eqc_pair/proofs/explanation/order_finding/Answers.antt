use Rattle.std.proofs.Common.{◌≡◌, false, ap, ◌∙◌, arith}
use Rattle.eqc_netlist.specs.Names.{has_twice}
use Rattle.eqc_pair.specs.Matched.{order_words}
use Rattle.eqc_pair.proofs.FindingLemmas.{some_lacked, none_left, once_left, code_of_unknown}
use Rattle.eqc_pair.proofs.FindingLemmas.{code_of_left_out}
use Rattle.eqc_netlist.proofs.NameSetLaws.{bytes_in}
use Rattle.eqc_pair.proofs.explanation.order_finding.Goals as goal

pub returns-then-count-gt0 : goal.returns-then-count-gt0
returns-then-count-gt0 c =
    let inputs = ap bytes_in c.deref.ensures.value ∙ c.in_ok-inputs.ensures in
    let words = ap bytes_in c.deref-2.ensures.value ∙ c.in_ok-words.ensures in
    let lacked =
    some_lacked (bytes_in c.deref.result.now) (bytes_in c.deref-2.result.now) c.args.inputs.now
    (order_words c.args.text.now)
    c.in_ok-unknown.unknown inputs words c.in_ok-unknown.ensures.none c.in_ok-unknown.ensures.names
    (omega (arith, c.count.ensures, c.if-count-gt0.true)) in (
      code_of_unknown c.args.inputs.now c.args.text.now c.if-text-gt-MAX_TEXT.false lacked.0,
      lacked.1,
    )

pub returns-then-count-gt0-2 : goal.returns-then-count-gt0-2
returns-then-count-gt0-2 c =
    let inputs = ap bytes_in c.deref.ensures.value ∙ c.in_ok-inputs.ensures in
    let words = ap bytes_in c.deref-2.ensures.value ∙ c.in_ok-words.ensures in
    let words_once = ap bytes_in c.deref-3.ensures.value ∙ c.in_ok-words.ensures in
    let words_again = ap bytes_in c.deref-4.ensures.value ∙ c.in_ok-words.ensures in
    let inputs_again = ap bytes_in c.deref-5.ensures.value ∙ c.in_ok-inputs.ensures in
    let known =
    none_left (bytes_in c.deref.result.now) (bytes_in c.deref-2.result.now) c.args.inputs.now
    (order_words c.args.text.now)
    c.in_ok-unknown.unknown.1 inputs words c.in_ok-unknown.ensures.none
    (omega (arith, c.count.ensures, c.if-count-gt0.false)) in
    let once : has_twice (order_words c.args.text.now) ≡ false =
    once_left c.in_ok-word.field-0 (bytes_in c.deref-3.result.now) (order_words c.args.text.now)
    words_once c.in_ok-word.ensures c.in_default.not-Some in
    let lacked =
    some_lacked (bytes_in c.deref-4.result.now) (bytes_in c.deref-5.result.now)
    (order_words c.args.text.now) c.args.inputs.now
    c.in_ok-left_out.left_out words_again inputs_again c.in_ok-left_out.ensures.none
    c.in_ok-left_out.ensures.names
    (omega (arith, c.count-2.ensures, c.if-count-gt0-2.true)) in (
      code_of_left_out c.args.inputs.now c.args.text.now c.if-text-gt-MAX_TEXT.false known once
          lacked.0,
      lacked.1,
    )
