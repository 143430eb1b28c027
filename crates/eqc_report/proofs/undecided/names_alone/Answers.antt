use Rattle.std.proofs.Common.{rules, ◌≡◌, ℕ, List, ◌<◌, ◌∙◌, [], ap, refl, sym, map, length}
use Rattle.std.proofs.Common.{slice_index_or}
use Rattle.std.proofs.lemmas.List.{get_or_read_under}
use Rattle.eqc_report.specs.Left.{IsNameWhere, is_alone}
use Rattle.eqc_report.proofs.LeftLaws.{names-added}
use Rattle.eqc_report.proofs.undecided.names_alone.Goals as goal
use Rattle.eqc_report.proofs.undecided.names_alone.Goals.{then-holds, else-holds}

pub loop-output-preserved : goal.loop-output-preserved
loop-output-preserved c =
    let p = c.args.pair.now in
    let test = is_alone p c.args.marks.now c.args.words.now in
    elim c.if-holds.branch [
      | then-holds w ↦
          let within : c.loop-output.output < length p.first.outputs = search rules in
          let outputs = c.outputs-outputs.result.now in
          let same : outputs ≡ p.first.outputs = search rules in
          let read = get_or_read_under outputs c.loop-output.output (length outputs)
          w.index-outputs-output.result [] w.index-outputs-output.is c.loop-output-test.true refl
          in
          let name : List (List ℕ) → List ℕ = λ names. slice_index_or names c.loop-output.output []
          in
          let here : w.as_bytes.result.now ≡ name p.first.outputs = w.as_bytes.ensures ∙ read
          ∙ ap name same in
          let before = map (λ name. name.items) c.loop-output.names.items in
          let after = map (λ name. name.items) w.add_name.new.names.items in
          let one : IsNameWhere p test w.as_bytes.result.now =
          (c.loop-output.output, within, sym c.holds.ensures ∙ w.if-holds.true, sym here) in
          rw w.names-is (names-added (IsNameWhere p test) before after w.as_bytes.result.now
          w.add_name.ensures one c.loop-output.invariant)
      | else-holds w ↦ rw w.names-is c.loop-output.invariant
    ]
