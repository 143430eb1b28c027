use Rattle.std.proofs.Common.{◌∙◌, ap, sym}
use Rattle.eqc_blif.proofs.ReaderLemmas.{open_is_new, model_closed}
use Rattle.eqc_blif.proofs.reader.Reader.close.Goals as goal

pub add-requires : goal.add-requires
add-requires c =
    open_is_new c.self.inside.closed c.self.inside.open_model c.in-Some.model
    c.into_parts-name.result.0 (sym c.in-Some.ensures.value)
    c.self.invariant (c.into_parts-name.ensures.name
    ∙ ap (λ m. m.model.name) c.in_ok-close_cover.ensures.closed)

pub returns : goal.returns
returns c =
    rw c.take.ensures.after
    (model_closed c.self.inside.closed c.add.new.self c.self.inside.open_model c.args.self.now
    c.in-Some.model c.close_cover.new.self
    c.into_parts-name.result.0 c.into_parts-name.result.1 c.self.view_is
    (sym c.in-Some.ensures.value)
    c.in_ok-close_cover.ensures.closed c.into_parts-name.ensures.declarations c.in_ok-add.ensures)
