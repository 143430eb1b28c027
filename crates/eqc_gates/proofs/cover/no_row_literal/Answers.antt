use Rattle.std.proofs.Common.{arith}
use Rattle.eqc_gates.proofs.LiteralLaws.{unmatched_none, unmatched_more, unmatched_made}
use Rattle.eqc_gates.proofs.LiteralLaws.{still_within}
use Rattle.eqc_gates.proofs.cover.no_row_literal.Goals as goal

pub loop-k-init : goal.loop-k-init
loop-k-init c = rw c.new-none.ensures.items (unmatched_none c.args.sweep.now c.args.columns.now
    c.args.rows.now)

pub row_literal-requires : goal.row_literal-requires
row_literal-requires c = still_within _ _ c.args.columns.now c.loop-k.invariant.extends c.requires

pub loop-k-preserved : goal.loop-k-preserved
loop-k-preserved c =
    unmatched_more c.args.sweep.now c.loop-k.sweep c.row_literal.new.sweep c.args.columns.now
    c.args.rows.now c.loop-k.none.items c.push.new.self.items c.loop-k.k c.in_ok-row.row
    c.negated.result
    c.requires c.loop-k.invariant c.in_ok-row.ensures.extends
    (rw c.get.ensures at c.in_ok-row.ensures.value) c.negated.ensures.node
    c.negated.ensures.value c.in_ok-push.ensures.items (omega arith)

pub returns-clause-value : goal.returns-clause-value
returns-clause-value c =
    unmatched_made c.args.sweep.now c.loop-k.sweep c.all_of.new.sweep c.args.columns.now
    c.args.rows.now c.loop-k.none.items c.loop-k.k
    c.all_of.result (omega arith) c.loop-k.invariant c.all_of.ensures.value
