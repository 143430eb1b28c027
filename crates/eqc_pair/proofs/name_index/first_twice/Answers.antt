use Rattle.eqc_pair.proofs.NameLemmas.{seen_twice, seen_at, seen_more}
use Rattle.eqc_pair.proofs.name_index.first_twice.Goals as goal

pub returns-then-not-branch : goal.returns-then-not-branch
returns-then-not-branch c = (
  seen_twice c.names.set c.args.names.now c.names.name-index _ c.in_ok-insert_bytes.field-0
      c.names-test.true c.names.invariant.added c.in_ok-insert_bytes.ensures.fresh
      c.if-not-branch.true,
  seen_at c.names.set c.args.names.now c.names.name-index _ c.in_ok-insert_bytes.field-0
      c.names-test.true c.names.invariant.added c.in_ok-insert_bytes.ensures.fresh
      c.if-not-branch.true,
)

pub names-preserved : goal.names-preserved
names-preserved c =
    let more =
    seen_more c.names.set c.insert_bytes.new.self c.args.names.now c.names.name-index _
    c.in_ok-insert_bytes.field-0 c.names-test.true
    c.names.invariant.added c.names.invariant.once c.in_ok-insert_bytes.ensures.fresh
    c.if-not-branch.false
    c.in_ok-insert_bytes.ensures.names in
    record { added = more.0; once = more.1 }
