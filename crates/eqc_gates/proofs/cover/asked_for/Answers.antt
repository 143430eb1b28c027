use Rattle.std.proofs.Common.{refl, sym, ap, ◌∙◌, get_or, arith}
use Rattle.eqc_netlist.specs.Cover.{allows}
use Rattle.eqc_xag.specs.Graph.{literal_value}
use Rattle.eqc_gates.proofs.LiteralLaws.{asked_for_none, asked_for_more, asked_for_still}
use Rattle.eqc_gates.proofs.LiteralLaws.{asked_for_all}
use Rattle.eqc_gates.proofs.cover.asked_for.Goals as goal
use Rattle.eqc_gates.proofs.cover.asked_for.Goals.{in-48+in_ok-push-in-48, in-49+in_ok-push-in-49}
use Rattle.eqc_gates.proofs.cover.asked_for.Goals.{in_default}

pub loop-j-init : goal.loop-j-init
loop-j-init c = rw c.new-asked.ensures.items (asked_for_none c.args.columns.now c.args.row.now)

pub loop-j-preserved : goal.loop-j-preserved
loop-j-preserved c = elim c.match-row-j.branch [
  | in-48+in_ok-push-in-48 w ↦
      asked_for_more c.args.columns.now c.args.row.now c.loop-j.asked.items
      c.match-row-j.asked.items c.loop-j.j w.negated.result
      c.loop-j.invariant (omega arith) (omega arith) (ap (λ v. v.items) w.asked-is
      ∙ w.in_ok-push-in-48.ensures.items) w.negated.ensures.node
      (λ nodes a. w.negated.ensures.value nodes a
      ∙ ap (λ b. allows b (literal_value nodes a (get_or c.args.columns.now c.loop-j.j 0)))
      (sym w.in-48.is))
  | in-49+in_ok-push-in-49 w ↦
      asked_for_more c.args.columns.now c.args.row.now c.loop-j.asked.items
      c.match-row-j.asked.items c.loop-j.j
      (get_or c.args.columns.now c.loop-j.j 0) c.loop-j.invariant (omega arith) (omega arith)
      (ap (λ v. v.items) w.asked-is ∙ w.in_ok-push-in-49.ensures.items) refl
      (λ nodes a. ap (λ b. allows b (literal_value nodes a (get_or c.args.columns.now c.loop-j.j
      0))) (sym w.in-49.is))
  | in_default w ↦
      rw (ap (λ v. v.items) w.asked-is)
      (asked_for_still c.args.columns.now c.args.row.now c.loop-j.asked.items c.loop-j.j
      c.loop-j.invariant (omega arith) (omega arith) (λ e. omega (arith, e))
      (λ e. omega (arith, e)))
]

pub returns : goal.returns
returns c = asked_for_all c.args.columns.now c.args.row.now c.loop-j.asked.items c.loop-j.j
    (omega arith) c.loop-j.invariant
