use Rattle.std.proofs.Common.{◌≡◌, ◌<◌, ℕ, ⊎_elim, arith, ap}
use Rattle.eqc_tree.specs.Word.{cell_tag}
use Rattle.eqc_guard.proofs.Parcels.{some_number, above_results}
use Rattle.eqc_guard.proofs.parcel.parcel_of.Goals as goal

pub operation-op-requires-clause-from : goal.operation-op-requires-clause-from
operation-op-requires-clause-from c =
    let some_number = some_number c.args.word c.requires (λ e. let nz = c.if-word-eq0.false in
    absurd (omega arith)) in
    let tag : c.unpack_cell-tag.result.0 ≡ cell_tag c.args.word =
    λ i. (c.unpack_cell-tag.ensures.fields i).0 in
    omega arith

pub returns-then-tag-clause-word : goal.returns-then-tag-clause-word
returns-then-tag-clause-word c =
    let tag : c.unpack_cell-tag.result.0 ≡ cell_tag c.args.word =
    λ i. (c.unpack_cell-tag.ensures.fields i).0 in
    let more = c.if-tag-le-TASK.false in
    let none = (above_results c.args.word c.requires (omega arith)).0 in
    let first = ap (λ (p : ℕ × ℕ × ℕ × ℕ). p.1) c.unpack_cell-tag.ensures.fields in
    let second = ap (λ (p : ℕ × ℕ × ℕ × ℕ). p.2) c.unpack_cell-tag.ensures.fields in
    let e = c.operation.ensures in
    omega arith

pub stop_of-requires-clause-from : goal.stop_of-requires-clause-from
stop_of-requires-clause-from c =
    let tag : c.unpack_cell-tag.result.0 ≡ cell_tag c.args.word =
    λ i. (c.unpack_cell-tag.ensures.fields i).0 in
    let more = c.if-tag.false in
    ⊎_elim (λ (h : cell_tag c.args.word < 9). absurd (omega arith))
    (λ (h : 12 < cell_tag c.args.word). omega arith) (above_results c.args.word c.requires
    (omega arith)).1

pub returns-clause-word : goal.returns-clause-word
returns-clause-word c =
    let tag : c.unpack_cell-tag.result.0 ≡ cell_tag c.args.word =
    λ i. (c.unpack_cell-tag.ensures.fields i).0 in
    let more = c.if-tag.false in
    let none = (above_results c.args.word c.requires (omega arith)).0 in
    let first = ap (λ (p : ℕ × ℕ × ℕ × ℕ). p.1) c.unpack_cell-tag.ensures.fields in
    let second = ap (λ (p : ℕ × ℕ × ℕ × ℕ). p.2) c.unpack_cell-tag.ensures.fields in
    let e = c.stop_of.ensures.number in
    omega arith
