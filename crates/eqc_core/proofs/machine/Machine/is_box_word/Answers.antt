use Rattle.std.proofs.Common.{◌≡◌, ◌≢◌, ◌<◌, ◌^◌, ℕ, refl, sym, ◌∙◌, ap, arith, inl, inr, ⊎_elim}
use Rattle.std.proofs.lemmas.Bool.{leb-true, le-leb}
use Rattle.eqc_tree.specs.Word.{cell_tag, cell_first, cell_second, cell_result}
use Rattle.eqc_core.specs.Words.{operation_of, result_of}
use Rattle.eqc_core.proofs.Sharing.{low_box, high_box}
use Rattle.eqc_core.proofs.machine.Machine.is_box_word.Goals as goal

-- what was unpacked are the word's fields
record AreFields (word : ℕ) (p : ℕ × ℕ × ℕ × ℕ) : Type 0 where
  tag : p.0 ≡ operation_of word
  found : p.3 ≡ result_of word

unpacked : (word : ℕ) (p : ℕ × ℕ × ℕ × ℕ) → p ≡ (
  cell_tag word,
  cell_first word,
  cell_second word,
  cell_result word,
) → AreFields word p
unfolding operation_of result_of
unpacked word p e = record { tag = ap (λ q. q.0) e; found = ap (λ q. q.3) e }

-- a number in a word is below 16
few : (word : ℕ) → word < 2 ^ 64 → operation_of word < 16
unfolding operation_of
few word small = omega arith

pub returns-then-tag-le-LAST_OPERATION : goal.returns-then-tag-le-LAST_OPERATION
returns-then-tag-le-LAST_OPERATION c =
    let nodes = c.args.self.now.nodes.items in
    let is = unpacked c.args.word c.unpack_cell-tag.result c.unpack_cell-tag.ensures.fields in
    let tag = is.tag in
    let low = c.if-tag-le-LAST_OPERATION.true in
    let some_word : c.args.word ≢ 0 = λ e. (let nz = c.if-word-eq0.false in absurd (omega arith)) in (
      (λ t. inl (inr (c.is_filled.ensures.0 t))),
      (λ b. c.is_filled.ensures.1 (low_box c.args.self.now.nodes.items c.args.word some_word
          (omega arith) b)),
    )

pub returns-then-r-ne0 : goal.returns-then-r-ne0
returns-then-r-ne0 c =
    let is = unpacked c.args.word c.unpack_cell-tag.result c.unpack_cell-tag.ensures.fields in
    let tag = is.tag in
    let high = c.if-tag-le-LAST_OPERATION.false in
    let some_word : c.args.word ≢ 0 = λ e. (let nz = c.if-word-eq0.false in absurd (omega arith)) in (
      (λ t. absurd (cc)),
      (λ b. absurd (c.if-r-ne0.true (is.found
          ∙ (high_box c.args.self.now.nodes.items c.args.word some_word (omega arith) b).0))),
    )

pub returns-then-tag-le-LAST_TASK : goal.returns-then-tag-le-LAST_TASK
returns-then-tag-le-LAST_TASK c =
    let is = unpacked c.args.word c.unpack_cell-tag.result c.unpack_cell-tag.ensures.fields in
    let tag = is.tag in
    let high = c.if-tag-le-LAST_OPERATION.false in
    let low = c.if-tag-le-LAST_TASK.true in (
      (λ t. inr (inl (record {
        from = omega arith;
        upto = omega arith;
        no_result = sym is.found
            ∙ c.if-r-ne0.false;
      }))),
      (λ b. refl),
    )

pub returns : goal.returns
returns c =
    let is = unpacked c.args.word c.unpack_cell-tag.result c.unpack_cell-tag.ensures.fields in
    let tag = is.tag in
    let high = c.if-tag-le-LAST_TASK.false in
    let some_word : c.args.word ≢ 0 = λ e. (let nz = c.if-word-eq0.false in absurd (omega arith)) in
    let stops : operation_of c.args.word < 16 = few c.args.word (c.ranges.word.fits) in (
      (λ t. inr (inr (record {
        from = (let l = leb-true 13 c.unpack_cell-tag.result.0 t in
            omega arith);
        upto = stops;
        no_result = sym is.found ∙ c.if-r-ne0.false;
      }))),
      (λ b.
          le-leb 13 c.unpack_cell-tag.result.0
          (⊎_elim (λ (l : operation_of c.args.word < 9). absurd (omega arith))
          (λ (l : 12 < operation_of c.args.word). omega arith)
          (high_box c.args.self.now.nodes.items c.args.word some_word (omega arith) b).1)),
    )
