use Rattle.std.proofs.Common.{◌≡◌, ◌∙◌, sym, ap, map}
use Rattle.eqc_netlist.specs.Names.{is_named}
use Rattle.eqc_blif.specs.Reading.{After}
use Rattle.eqc_blif.specs.Words.{words}
use Rattle.eqc_blif.proofs.ReaderLemmas.{model_again, model_opened}
use Rattle.eqc_blif.proofs.reader.Reader.take_model.Goals as goal

pub returns-then-has : goal.returns-then-has
returns-then-has c =
    model_again c.self.inside.closed c.args.self.now c.close.new.self (words c.args.line.now)
    c.in_ok-name.name c.has.result
    (ap (λ st. st.closed) (c.self.view_is ∙ c.in_ok-close.ensures)) (c.in_ok-name.ensures
    ∙ c.split_first.ensures.first)
    c.has.ensures c.if-has.true

pub open-requires : goal.open-requires
open-requires c =
    let here : c.has.result ≡ is_named (map (λ m. m.name) c.close.new.self.closed)
    c.in_ok-name.name =
    c.has.ensures ∙ ap (λ (st : After). is_named (map (λ m. m.name) st.closed) c.in_ok-name.name)
    c.self.view_is in
    sym here ∙ c.if-has.false

pub returns : goal.returns
returns c =
    let here : c.has.result ≡ is_named (map (λ m. m.name) c.close.new.self.closed)
    c.in_ok-name.name =
    c.has.ensures ∙ ap (λ (st : After). is_named (map (λ m. m.name) st.closed) c.in_ok-name.name)
    c.self.view_is in
    model_opened c.close.new.self.closed c.args.self.now c.open.new.self (words c.args.line.now)
    c.in_ok-name.name c.has.result
    (ap (λ st. st.closed) c.in_ok-close.ensures) (c.in_ok-name.ensures
    ∙ c.split_first.ensures.first) here c.if-has.false c.open.ensures
