use Rattle.std.proofs.Common.{◌+◌, ◌++◌, ◌∷◌, [], sym, ap, ◌∙◌}
use Rattle.eqc_core.specs.declared.table.Table.{Table}
use Rattle.eqc_core.proofs.Stocks.{entries-push, entries-skip}
use Rattle.eqc_core.proofs.stock.literal_table.Goals as goal
use Rattle.eqc_core.proofs.stock.literal_table.Goals.{then-k-s+in_ok-insert, else-k-s}

pub loop-k-preserved : goal.loop-k-preserved
loop-k-preserved c = elim c.if-k-s.branch [
  | then-k-s+in_ok-insert w ↦
      ap (λ (t : Table). t.entries.items) w.table-is
      ∙ (w.in_ok-insert.ensures
      ∙ ((λ i. c.loop-k.invariant i ++ (w.pack_node.ensures i, c.loop-k.k + 2) ∷ [])
      ∙ sym (entries-push c.args.s c.loop-k.k w.if-k-s.true)))
  | else-k-s w ↦ ap (λ (t : Table). t.entries.items) w.table-is
      ∙ (c.loop-k.invariant ∙ sym (entries-skip c.args.s c.loop-k.k w.if-k-s.false))
]
