use Rattle.std.proofs.Common.{◌≡◌, ℕ, List, None, ap, sym, ◌∙◌, subst, map, ◌⊎◌, Some}
use Rattle.std.proofs.lemmas.Result.{err_from_is_err_and}
use Rattle.std.specs.Option.{option_map}
use Rattle.eqc_pair.specs.PairOf.{no_memory, order_refused}
use Rattle.eqc_pair.specs.Matched.{position_of, order_code, order_words}
use Rattle.eqc_pair.proofs.OrderedLemmas.{positions_small, variables_small, taken_order}
use Rattle.eqc_pair.proofs.OrderedLemmas.{taken_variables}
use Rattle.eqc_pair.proofs.order.read_order.Goals as goal
use Rattle.eqc_netlist.proofs.NameSetLaws.{bytes_in}

pub returns-in_err-positions-clause-refused : goal.returns-in_err-positions-clause-refused
returns-in_err-positions-clause-refused c =
    let names : bytes_in c.deref.result.now ≡ c.args.inputs.now = ap bytes_in c.deref.ensures.value
    ∙ c.in_ok-names.ensures in
    let back = err_from_is_err_and c.from_residual-in_err-positions.result
    c.from_residual-in_err-positions.ensures.1 in
    rw (back.1, back.2)
    (subst
    (λ (l : List (List ℕ)). (c.in_err-positions.field-0.0 ≡ no_memory)
    ⊎ (option_map order_refused (order_code l c.args.text.now)
    ≡ Some c.in_err-positions.field-0.0))
    names c.in_err-positions.ensures.refused)

pub narrow-requires : goal.narrow-requires
narrow-requires c =
    let names : bytes_in c.deref.result.now ≡ c.args.inputs.now = ap bytes_in c.deref.ensures.value
    ∙ c.in_ok-names.ensures in
    let taken : order_code c.args.inputs.now c.args.text.now ≡ None =
    ap (λ l. order_code l c.args.text.now) (sym names) ∙ c.in_ok-positions.ensures.taken in
    positions_small c.args.inputs.now c.args.text.now c.requires.once c.requires.few taken
    c.deref-2.result.now c.in_ok-positions.positions.items
    c.deref-2.ensures.value (c.in_ok-positions.ensures.positions
    ∙ ap (λ l. map (position_of l) (order_words c.args.text.now)) names)

pub narrow-requires-2 : goal.narrow-requires-2
narrow-requires-2 c =
    let names : bytes_in c.deref.result.now ≡ c.args.inputs.now = ap bytes_in c.deref.ensures.value
    ∙ c.in_ok-names.ensures in
    let taken : order_code c.args.inputs.now c.args.text.now ≡ None =
    ap (λ l. order_code l c.args.text.now) (sym names) ∙ c.in_ok-positions.ensures.taken in
    variables_small c.args.inputs.now c.args.text.now c.requires.once c.requires.few taken
    c.deref-3.result.now c.in_ok-positions.variables.items
    c.deref-3.ensures.value (c.in_ok-positions.ensures.variables
    ∙ ap (map (position_of (order_words c.args.text.now))) names)

pub returns-clause-variables : goal.returns-clause-variables
returns-clause-variables c =
    let names : bytes_in c.deref.result.now ≡ c.args.inputs.now = ap bytes_in c.deref.ensures.value
    ∙ c.in_ok-names.ensures in
    let taken : order_code c.args.inputs.now c.args.text.now ≡ None =
    ap (λ l. order_code l c.args.text.now) (sym names) ∙ c.in_ok-positions.ensures.taken in
    taken_variables c.args.inputs.now c.args.text.now c.requires.once c.requires.few taken
    c.in_ok-narrow.field-0.items c.in_ok-narrow-2.field-0.items
    (c.in_ok-narrow.ensures ∙ (c.deref-2.ensures.value ∙ (c.in_ok-positions.ensures.positions
    ∙ ap (λ l. map (position_of l) (order_words c.args.text.now)) names)))
    (c.in_ok-narrow-2.ensures ∙ (c.deref-3.ensures.value ∙ (c.in_ok-positions.ensures.variables
    ∙ ap (map (position_of (order_words c.args.text.now))) names)))

pub returns-clause-lawful : goal.returns-clause-lawful
returns-clause-lawful c =
    let names : bytes_in c.deref.result.now ≡ c.args.inputs.now = ap bytes_in c.deref.ensures.value
    ∙ c.in_ok-names.ensures in
    let taken : order_code c.args.inputs.now c.args.text.now ≡ None =
    ap (λ l. order_code l c.args.text.now) (sym names) ∙ c.in_ok-positions.ensures.taken in
    taken_order c.args.inputs.now c.args.text.now c.requires.once c.requires.few taken
    c.in_ok-narrow.field-0.items
    (c.in_ok-narrow.ensures ∙ (c.deref-2.ensures.value ∙ (c.in_ok-positions.ensures.positions
    ∙ ap (λ l. map (position_of l) (order_words c.args.text.now)) names)))
