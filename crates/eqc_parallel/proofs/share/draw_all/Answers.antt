use Rattle.std.proofs.Common.{◌∷◌, ◌++◌, [], ◌<◌, ◌≤◌, length, refl, All, arith}
use Rattle.std.proofs.lemmas.List.Elements.{All-push}
use Rattle.eqc_parallel.specs.declared.verdict.Verdict.{Verdict}
use Rattle.eqc_parallel.specs.Verdicts.{asked, IsRight}
use Rattle.eqc_parallel.proofs.ShareLemmas.{lower, knows_on, goes, ends}
use Rattle.eqc_parallel.proofs.share.draw_all.Goals as goal

pub finding-requires-clause-knows : goal.finding-requires-clause-knows
finding-requires-clause-knows g c =
    knows_on (asked c.args.comparison.now.pair.now c.args.comparison.now.task.now.schedule.every)
    c.args.comparison.now.words.now.table_id c.loop-number.least c.draw-number.result
    c.loop-number.behind c.loop-number.seat c.draw-number.new.seat c.loop-number.verdicts.items
    c.loop-number.invariant.0 c.draw-number.ensures.above

pub loop-number-smaller : goal.loop-number-smaller
loop-number-smaller g c =
    let w = c.loop-number.invariant.0 in
    let rises =
    lower (asked c.args.comparison.now.pair.now c.args.comparison.now.task.now.schedule.every)
    c.args.comparison.now.words.now.table_id c.loop-number.least c.draw-number.result
    c.loop-number.behind c.loop-number.seat c.draw-number.new.seat c.loop-number.verdicts.items w
    c.draw-number.ensures.above in
    omega (arith, rises, c.if-number-outputs.false)

pub loop-number-preserved : goal.loop-number-preserved
loop-number-preserved g c =
    let w = c.loop-number.invariant.0 in
    let inside : c.draw-number.result < length c.args.comparison.now.pair.now.first.outputs =
    omega (arith, c.if-number-outputs.false, c.loop-number.invariant.1) in
    let v : Verdict = record { output = c.draw-number.result; finding = c.in_ok-finding.finding } in
    let right : IsRight (asked c.args.comparison.now.pair.now
    c.args.comparison.now.task.now.schedule.every) v = c.in_ok-finding.ensures.found in
    let all : All (IsRight (asked c.args.comparison.now.pair.now
    c.args.comparison.now.task.now.schedule.every)) (c.loop-number.verdicts.items ++ v ∷ []) =
    All-push (IsRight (asked c.args.comparison.now.pair.now
    c.args.comparison.now.task.now.schedule.every)) c.loop-number.verdicts.items v w.right right
    in (
      rw (c.in-Ok.ensures.items, c.ends-behind.ensures)
          (goes (asked c.args.comparison.now.pair.now c.args.comparison.now.task.now.schedule.every)
          c.args.comparison.now.words.now.table_id c.loop-number.least c.draw-number.result
          c.loop-number.behind c.loop-number.seat c.draw-number.new.seat
          c.loop-number.verdicts.items w c.draw-number.ensures.own
          c.draw-number.ensures.drawn inside v refl right all),
      c.loop-number.invariant.1,
      c.finding.ensures.kept,
    )

pub returns-clause-share : goal.returns-clause-share
returns-clause-share g c =
    let beyond : length c.args.comparison.now.pair.now.first.outputs ≤ c.draw-number.result =
    omega (arith, c.if-number-outputs.true, c.loop-number.invariant.1) in
    ends (asked c.args.comparison.now.pair.now c.args.comparison.now.task.now.schedule.every)
    c.args.comparison.now.words.now.table_id c.loop-number.least c.draw-number.result
    c.loop-number.behind c.loop-number.seat c.draw-number.new.seat c.loop-number.verdicts.items
    c.loop-number.invariant.0 c.draw-number.ensures.own
    c.draw-number.ensures.drawn beyond
