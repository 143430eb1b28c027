use Rattle.std.proofs.Common.{arith, ◌<◌, ℕ, length, get_or, sym, ap, subst, ◌∙◌}
use Rattle.std.proofs.lemmas.List.{get_or_read}
use Rattle.eqc_core.specs.Words.{word_at}
use Rattle.eqc_core.specs.State.{State}
use Rattle.eqc_core.proofs.Stored.{silence_there}
use Rattle.eqc_core.proofs.state.Core.announced.Goals as goal

pub index-requires : goal.index-requires
index-requires c =
    let m = c.self.inside.machine in
    let below : c.args.worker < m.sizes.workers = subst (λ (t : State). c.args.worker
    < t.sizes.workers) (sym c.self.view_is) c.requires.worker in
    let few : c.args.k < m.sizes.announcements =
    subst (λ (t : State). c.args.k < t.sizes.announcements) (sym c.self.view_is) c.requires.word
    in
    let there : c.word_at-place.result < length m.announced.items =
    subst (λ (i : ℕ). i < length m.announced.items) (sym c.word_at-place.ensures)
    (silence_there m c.args.worker c.args.k c.self.invariant below few) in
    omega arith

pub returns : goal.returns
returns c =
    let m = c.self.inside.machine in
    let below : c.args.worker < m.sizes.workers = subst (λ (t : State). c.args.worker
    < t.sizes.workers) (sym c.self.view_is) c.requires.worker in
    let few : c.args.k < m.sizes.announcements =
    subst (λ (t : State). c.args.k < t.sizes.announcements) (sym c.self.view_is) c.requires.word
    in
    let there = subst (λ (i : ℕ). i < length m.announced.items) (sym c.word_at-place.ensures)
    (silence_there m c.args.worker c.args.k c.self.invariant below few) in
    let read = get_or_read m.announced.items c.word_at-place.result c.index.result.now there
    c.index.ensures 0 in
    let own = ap (λ (i : ℕ). get_or m.announced.items i 0) c.word_at-place.ensures in
    c.from.ensures ∙ (read ∙ (own
    ∙ ap (λ (t : State). get_or t.words.announced (word_at t.sizes c.args.worker c.args.k) 0)
    c.self.view_is))
