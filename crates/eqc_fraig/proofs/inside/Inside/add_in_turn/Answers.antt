use Rattle.std.proofs.Common.{◌≡◌, ◌∙◌, ◌<◌, length, subst, sym}
use Rattle.std.specs.List.{All}
use Rattle.eqc_compare.specs.Alike.{IsKnown}
use Rattle.eqc_literals.specs.Literals.{KeepsMarks}
use Rattle.eqc_fraig.proofs.inside.Inside.add_in_turn.Goals as goal

pub add_open-requires-clause-outputs : goal.add_open-requires-clause-outputs
add_open-requires-clause-outputs g c =
    let same : c.each.result.pair ≡ c.args.self.now = c.each.ensures.pair
    ∙ (c.pair.ensures ∙ (c.self.view_is ∙ c.open_words.ensures.pair)) in
    rw c.deref-2.ensures.value (subst (λ p. All (λ w. All (λ o. o < length p.first.outputs) w.items)
    c.in_ok-words.words.items) (sym same) c.in_ok-words.ensures.outputs)

pub add_open-requires-clause-known : goal.add_open-requires-clause-known
add_open-requires-clause-known g c =
    let same : c.each.result.pair ≡ c.args.self.now = c.each.ensures.pair
    ∙ (c.pair.ensures ∙ (c.self.view_is ∙ c.open_words.ensures.pair)) in
    subst (λ p. IsKnown p c.args.alike.now) (sym same) c.requires

pub returns-clause-known : goal.returns-clause-known
returns-clause-known g c =
    let same : c.each.result.pair ≡ c.open_words.new.self = c.each.ensures.pair
    ∙ (c.pair.ensures ∙ c.self.view_is) in
    subst (λ p. IsKnown p c.add_open.new.alike) same c.add_open.ensures.known

pub returns-clause-kept : goal.returns-clause-kept
returns-clause-kept g c =
    let same : c.each.result.pair ≡ c.args.self.now = c.each.ensures.pair
    ∙ (c.pair.ensures ∙ (c.self.view_is ∙ c.open_words.ensures.pair)) in
    subst (λ p. KeepsMarks p c.args.alike.now.equal.items c.add_open.new.alike.equal.items) same
    c.add_open.ensures.kept
