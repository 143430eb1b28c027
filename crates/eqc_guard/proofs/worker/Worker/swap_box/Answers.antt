use Rattle.std.proofs.Common.{ℕ, sym, subst}
use Rattle.eqc_guard.specs.Standing.{Standing}
use Rattle.eqc_guard.specs.Known.{IsKnown}
use Rattle.eqc_guard.specs.Sharing.{MayPutWord, Receives}
use Rattle.eqc_guard.proofs.Parcels.{is_whole, may_put, is_genuine}
use Rattle.eqc_guard.proofs.worker.Worker.swap_box.Goals as goal

pub word_of-word-requires : goal.word_of-word-requires
word_of-word-requires c =
    let known : IsKnown c.args.self.now.known = subst (λ (s : Standing). IsKnown s.known)
    c.self.view_is c.self.invariant.worker.known in
    is_whole c.args.self.now.known known c.args.parcel c.requires.parcel_is

pub swap_box_word-old-requires : goal.swap_box_word-old-requires
swap_box_word-old-requires c =
    let known : IsKnown c.args.self.now.known = subst (λ (s : Standing). IsKnown s.known)
    c.self.view_is c.self.invariant.worker.known in
    let whole = is_whole c.args.self.now.known known c.args.parcel c.requires.parcel_is in
    subst (λ (n : ℕ). MayPutWord c.args.self.now.known c.args.b n) (sym c.word_of-word.ensures)
    (may_put c.args.self.now.known c.args.b c.args.parcel whole c.requires)

pub returns-clause-whole : goal.returns-clause-whole
returns-clause-whole c =
    let known : IsKnown c.args.self.now.known = subst (λ (s : Standing). IsKnown s.known)
    c.self.view_is c.self.invariant.worker.known in (
      is_whole c.args.self.now.known known c.args.parcel c.requires.parcel_is,
      c.parcel_of.ensures.whole,
    )

pub returns-clause-right : goal.returns-clause-right
returns-clause-right c =
    is_genuine c.swap_box_word-old.new.self.known c.parcel_of.result c.parcel_of.ensures.whole
    (subst (λ (n : ℕ). Receives n c.swap_box_word-old.new.self.known) (sym c.parcel_of.ensures.word)
    c.swap_box_word-old.ensures.tells)
