use Rattle.std.proofs.Common.{◌<◌, ◌≤◌, ◌∙◌, sym, ap₂, List, ℕ, Bool, false, length, get_or, min}
use Rattle.std.proofs.Common.{arith}
use Rattle.std.proofs.Math.Nat.{min-le_left, min-le_right}
use Rattle.std.proofs.lemmas.List.{get_or_default}
use Rattle.std.proofs.lemmas.Slice.Zip.{get_or-zip, length-zip}
use Rattle.std.specs.List.{zip}
use Rattle.eqc_report.specs.Report.{value_line}
use Rattle.eqc_report.proofs.SpoolLemmas.{puts_more, puts_all}
use Rattle.eqc_report.proofs.report.text.put_values.Goals as goal

pub loop-k-preserved : goal.loop-k-preserved
loop-k-preserved g c =
    let names = c.args.inputs.now in
    let values = c.args.values.now in
    let k = c.loop-k.k in
    let name = c.index-inputs-k.result in
    let value = get_or values k false in
    let below : k < min (length names) (length values) =
    omega (arith, c.loop-k-test.true, c.min-k-end.ensures) in
    let named : k < length names = omega (arith, below, min-le_left (length names) (length values))
    in
    let valued : k < length values =
    omega (arith, below, min-le_right (length names) (length values)) in
    let inside : k < length (zip names values) = omega (arith, below, length-zip names values) in
    puts_more (g.W.Write.contents c.args.out.now) (g.W.Write.contents c.loop-k.out)
    (g.W.Write.contents c.put_value.new.out) c.args.spool.now c.loop-k.spool
    c.put_value.new.spool
    value_line (zip names values) k (name, value) inside
    (ap₂ (λ (x : List ℕ) (b : Bool). (x, b)) c.index-inputs-k.is (get_or_default values k false
    value valued) ∙ sym (get_or-zip names values k (name, value) named valued))
    c.loop-k.invariant (rw c.as_bytes.ensures at c.put_value.ensures)

pub returns : goal.returns
returns g c =
    let names = c.args.inputs.now in
    let values = c.args.values.now in
    let whole : length (zip names values) ≤ c.loop-k.k = omega (
      arith,
      c.loop-k-test.false,
      c.min-k-end.ensures,
      length-zip names values,
    ) in
    puts_all (g.W.Write.contents c.args.out.now) (g.W.Write.contents c.loop-k.out) c.args.spool.now
    c.loop-k.spool
    value_line (zip names values) c.loop-k.k whole c.loop-k.invariant
