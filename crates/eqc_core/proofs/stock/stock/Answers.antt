use Rattle.std.proofs.Common.{◌+◌, ◌++◌, ◌∷◌, [], refl, ap, ◌∙◌}
use Rattle.eqc_core.specs.declared.sizes.Sizes.{Sizes}
use Rattle.eqc_core.specs.State.{slots_from}
use Rattle.eqc_core.proofs.Stocks.{stocked_of, first_view}
use Rattle.eqc_core.proofs.stock.stock.Goals as goal

pub returns : goal.returns
returns c =
    let n = c.args.nodes in
    let z : Sizes = record {
      workers = c.args.workers;
      announcements = 4;
      names = n + 2;
      cells =
          c.args.cells;
      variables = n;
    } in
    let counts = c.in_ok-extend_from_slice.ensures.items
    ∙ (λ i. c.in_ok-counts.ensures i ++ (c.deref.ensures.value ∙ c.in_ok-counted.ensures) i) in
    let nodes = c.in_ok-extend_from_slice-2.ensures.items
    ∙ (λ i. c.in_ok-words.ensures i ++ (c.deref-2.ensures.value ∙ c.in_ok-literals.ensures) i)
    in
    let all = c.in_ok-push.ensures.items ∙ ap (λ l. l ++ c.in_ok-first.first ∷ [])
    c.new-all.ensures.items in
    let views =
    first_view z c.in_ok-first.first c.push.new.self.items c.in_ok-held.held.items (slots_from 2 n)
    all c.in_ok-first.ensures.active
    (c.in_ok-first.ensures.view z refl) c.in_ok-held.ensures in
    stocked_of c.args.workers n c.args.cells z c.in_ok-silence.field-0.items
    c.extend_from_slice.new.self.items
    c.extend_from_slice-2.new.self.items c.in_ok-repeat.field-0.items c.in_ok-repeat-2.field-0.items
    c.in_ok-repeat-3.field-0.items _ _ refl
    c.in_ok-silence.ensures counts nodes c.in_ok-repeat.ensures c.in_ok-repeat-2.ensures
    c.in_ok-repeat-3.ensures c.in_ok-literal_tables.ensures
    views
