use Rattle.std.proofs.Common.{◌≡◌, ℕ, sym, ◌∙◌, ap, subst}
use Rattle.eqc_tree.specs.Operation.{tag_of}
use Rattle.eqc_tree.specs.Word.{cell_tag, cell_first, cell_second, cell_result}
use Rattle.eqc_core.specs.Words.{operation_of, first_of, second_of, result_of}
use Rattle.eqc_core.specs.Tables.{IsName}
use Rattle.eqc_core.specs.Agreement.{Agrees}
use Rattle.eqc_core.specs.Machine.{state_of}
use Rattle.eqc_core.proofs.Cofactors.{filled_agrees, agrees_filled}
use Rattle.eqc_core.proofs.machine.Machine.is_filled.Goals as goal

-- what was unpacked are the word's fields
record AreFields (word : ℕ) (p : ℕ × ℕ × ℕ × ℕ) : Type 0 where
  tag : p.0 ≡ operation_of word
  first : p.1 ≡ first_of word
  second : p.2 ≡ second_of word
  found : p.3 ≡ result_of word

unpacked : (word : ℕ) (p : ℕ × ℕ × ℕ × ℕ) → p ≡ (
  cell_tag word,
  cell_first word,
  cell_second word,
  cell_result word,
) → AreFields word p
unfolding operation_of first_of second_of result_of
unpacked word p e = record {
  tag = ap (λ q. q.0) e;
  first = ap (λ q. q.1) e;
  second =
      ap (λ q. q.2) e;
  found = ap (λ q. q.3) e;
}

pub agrees-requires-clause-f : goal.agrees-requires-clause-f
agrees-requires-clause-f c =
    let s = state_of c.args.self.now in
    let is = unpacked c.args.word c.unpack_cell-tag.result c.unpack_cell-tag.ensures.fields in
    subst (λ (x : ℕ). IsName s.homes s.views x) (sym is.first) c.requires.first

pub agrees-requires-clause-g : goal.agrees-requires-clause-g
agrees-requires-clause-g c =
    let s = state_of c.args.self.now in
    let is = unpacked c.args.word c.unpack_cell-tag.result c.unpack_cell-tag.ensures.fields in
    subst (λ (x : ℕ). IsName s.homes s.views x) (sym is.second) c.requires.second

pub agrees-requires-clause-r : goal.agrees-requires-clause-r
agrees-requires-clause-r c =
    let s = state_of c.args.self.now in
    let is = unpacked c.args.word c.unpack_cell-tag.result c.unpack_cell-tag.ensures.fields in
    subst (λ (x : ℕ). IsName s.homes s.views x) (sym is.found) c.requires.outcome

pub returns-in_default : goal.returns-in_default
returns-in_default c =
    let is = unpacked c.args.word c.unpack_cell-tag.result c.unpack_cell-tag.ensures.fields in (
      (λ h. absurd (cc)),
      (λ f. absurd (c.in_default.ensures.none f.operation (sym (is.tag
          ∙ f.tag)))),
    )

pub returns : goal.returns
returns c =
    let s = state_of c.args.self.now in
    let law = c.requires.kept.lawful in
    let nodes = c.args.self.now.nodes.items in
    let word = c.args.word in
    let op = c.in-Some.op in
    let is = unpacked word c.unpack_cell-tag.result c.unpack_cell-tag.ensures.fields in
    let tag : operation_of word ≡ tag_of op = sym (c.in-Some.ensures.found ∙ is.tag) in
    let same : (x y k q l m : ℕ) → x ≡ q → y ≡ l → k ≡ m → Agrees nodes op x y k
    → Agrees nodes op q l m =
    λ x y k q l m e f g h. subst (λ (n : ℕ). Agrees nodes op n l m) e
    (subst (λ (n : ℕ). Agrees nodes op x n m) f (subst (λ (n : ℕ). Agrees nodes op x y n) g h))
    in (
      (λ h. agrees_filled s.sizes s.words s.homes s.views law word op tag c.requires.first
          c.requires.second c.requires.outcome (same _ _ _ _ _ _ is.first is.second is.found
          (c.agrees.ensures.0 h))),
      (λ f. c.agrees.ensures.1 (same _ _ _ _ _ _ (sym is.first) (sym is.second) (sym is.found)
          (filled_agrees s.sizes s.words s.homes s.views law word op tag f))),
    )
