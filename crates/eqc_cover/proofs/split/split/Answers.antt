use Rattle.std.proofs.Common.{ap, ◌∙◌, arith}
use Rattle.eqc_tree.specs.Operation.{operate}
use Rattle.eqc_cover.specs.Table.{table_value}
use Rattle.eqc_cover.specs.Splitting.{gate_value}
use Rattle.eqc_cover.proofs.SplitLaws.{by_xor, by_or, by_and_not, by_three, all_parts_stay}
use Rattle.eqc_cover.proofs.SplitLaws.{high_parts_stay, opposite_parts_stay}
use Rattle.eqc_cover.proofs.split.split.Goals.{then-high-low, else-high-low+then-implies}
use Rattle.eqc_cover.proofs.split.split.Goals.{else-high-low+else-implies+then-implies-2}
use Rattle.eqc_cover.proofs.split.split.Goals.{else-high-low+else-implies+else-implies-2}
use Rattle.eqc_cover.proofs.split.split.Goals as goal

pub returns-clause-value : goal.returns-clause-value
returns-clause-value c = λ x vs few.
    ap (operate c.if-high-low.gate.1 (gate_value c.if-high-low.gate.0 x (table_value c.args.low
    vs))) (c.where_true.ensures.value x vs few)
    ∙ elim c.if-high-low.branch [
      | then-high-low w ↦ rw w.gate-is (by_xor c.args.high c.args.low x vs (omega arith) few
          w.if-high-low.true)
      | else-high-low+then-implies w ↦
          rw w.gate-is (by_or c.args.high c.args.low x vs (w.implies.ensures w.if-implies.true vs
          few))
      | else-high-low+else-implies+then-implies-2 w ↦
          rw w.gate-is (by_and_not c.args.high c.args.low x vs (omega arith) few
          (w.implies-else-implies.ensures w.if-implies-2.true vs few))
      | else-high-low+else-implies+else-implies-2 w ↦
          rw w.gate-is (by_three c.args.high c.args.low x vs)
    ]

pub returns-clause-back : goal.returns-clause-back
returns-clause-back c = elim c.if-high-low.branch [
  | then-high-low w ↦ all_parts_stay c.args.high c.args.low _ c.where_true.result.table
      (ap (λ g. g.2) w.gate-is) c.where_true.ensures.open
  | else-high-low+then-implies w ↦ high_parts_stay c.args.high c.args.low _
      c.where_true.result.table (ap (λ g. g.2) w.gate-is) c.where_true.ensures.open
  | else-high-low+else-implies+then-implies-2 w ↦ opposite_parts_stay c.args.high c.args.low _
      c.where_true.result.table (omega arith) (ap (λ g. g.2) w.gate-is) c.where_true.ensures.open
  | else-high-low+else-implies+else-implies-2 w ↦ high_parts_stay c.args.high c.args.low _
      c.where_true.result.table (ap (λ g. g.2) w.gate-is) c.where_true.ensures.open
]
