use Rattle.std.proofs.Common.{◌≡◌, ap, sym, ◌∙◌, length, eq-eqb, true≢false, Bor, List, ℕ}
use Rattle.std.proofs.lemmas.List.{length-map}
use Rattle.eqc_pair.proofs.ChosenLemmas.{chosen_within, marked_left_out}
use Rattle.eqc_netlist.proofs.NameSetLaws.{bytes_in}
use Rattle.eqc_pair.proofs.name_index.left_out.Goals as goal

pub marks_but-requires : goal.marks_but-requires
marks_but-requires c =
    let names : bytes_in c.deref.result.now ≡ c.args.outputs.now = ap bytes_in c.deref.ensures.value
    ∙ c.in_ok-names.ensures in
    let found = rw (c.in-Some.is, names) at c.in_ok-places.ensures in
    rw c.deref-in-Some.ensures.value (chosen_within c.args.outputs.now (bytes_in c.args.chosen.now)
    c.in-Some.places.items found.0 found.1)

pub returns-in-Some : goal.returns-in-Some
returns-in-Some c =
    let names : bytes_in c.deref.result.now ≡ c.args.outputs.now = ap bytes_in c.deref.ensures.value
    ∙ c.in_ok-names.ensures in
    let found = rw (c.in-Some.is, names) at c.in_ok-places.ensures in
    let marks = rw c.deref-in-Some.ensures.value at c.in_ok-marks_but-in-Some.ensures in
    let some : length (bytes_in c.args.chosen.now) ≡ 0 → ⊥ =
    λ none. true≢false (sym (c.is_empty.ensures
    ∙ eq-eqb (length c.args.chosen.now) 0
    (sym (length-map c.args.chosen.now (λ (name : Bor (List ℕ)). name.now)) ∙ none))
    ∙ c.if-is_empty.false) in (
      found.0,
      marked_left_out c.args.outputs.now (bytes_in c.args.chosen.now) c.in-Some.places.items
          c.in_ok-marks_but-in-Some.field-0.items c.requires.once some found.0 found.1 marks,
    )
