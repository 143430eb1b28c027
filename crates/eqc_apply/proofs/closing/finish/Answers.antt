use Rattle.eqc_guard.specs.Splitting.{IsCopied}
use Rattle.eqc_arena.proofs.Resting.{rest_begins, rest_now}
use Rattle.eqc_apply.proofs.Emptied.{unboxed_rest, still_alone, none_told}
use Rattle.eqc_apply.proofs.Telling.{left_at_end}
use Rattle.eqc_apply.proofs.closing.finish.Goals as goal

pub collect-requires-clause-rest : goal.collect-requires-clause-rest
collect-requires-clause-rest g c =
    let w = c.args.worker in
    let p : IsCopied w c.alone-alone.new.self =
    c.alone-alone.ensures.copy (c.alone-alone.ensures.answer.1 c.requires.alone) in
    rest_begins
    (unboxed_rest w c.alone-alone.new.self c.requires.alone c.requires.rest c.requires.cells
    c.requires.room p c.empty_boxes.new.worker c.empty_boxes.ensures.changes
    c.empty_boxes.ensures.empty)

-- the worker is alone still, and announces nothing
pub unreachable-requires : goal.unreachable-requires
unreachable-requires g c =
    let w = c.args.worker in
    let p : IsCopied w c.alone-alone.new.self =
    c.alone-alone.ensures.copy (c.alone-alone.ensures.answer.1 c.requires.alone) in
    let boxes = c.empty_boxes.ensures in
    let empty =
    unboxed_rest w c.alone-alone.new.self c.requires.alone c.requires.rest c.requires.cells
    c.requires.room p c.empty_boxes.new.worker boxes.changes boxes.empty in
    let rest = rest_now empty c.collect.ensures.changes in
    c.in-Err.ensures.kept.1
    (still_alone w c.alone-alone.new.self c.requires.alone c.requires.rest c.requires.cells
    c.requires.room p c.empty_boxes.new.worker boxes.changes boxes.empty
    c.collect.new.worker c.collect.ensures.changes c.collect.ensures.empty)
    (λ k q lt at. rest.quiet k q at)

pub returns : goal.returns
returns g c =
    let w = c.args.worker in
    let p : IsCopied w c.alone-alone.new.self =
    c.alone-alone.ensures.copy (c.alone-alone.ensures.answer.1 c.requires.alone) in
    record {
      left =
          left_at_end w c.alone-alone.new.self c.empty_boxes.new.worker c.collect.new.worker p
          c.empty_boxes.ensures.changes c.collect.ensures.changes c.in-Ok.tally.counted
          c.in-Ok.ensures.closed.2;
      none = λ none.
          none_told w c.alone-alone.new.self c.requires.alone c.requires.rest c.requires.cells
          c.requires.room p c.empty_boxes.new.worker c.empty_boxes.ensures.changes
          c.empty_boxes.ensures.empty
          c.collect.new.worker c.collect.ensures.changes c.collect.ensures.empty
          c.in-Ok.tally.counted c.in-Ok.ensures.closed.2 none;
    }
