use Rattle.std.proofs.Common.{ℕ, [], ◌∷◌, sym, subst}
use Rattle.eqc_core.specs.Words.{slots_of}
use Rattle.eqc_guard.specs.Known.{IsHeld}
use Rattle.eqc_guard.specs.Standing.{Standing}
use Rattle.eqc_arena.specs.Changing.{Exchanges}
use Rattle.eqc_arena.proofs.Changing.{stays, two_come, goes, came_held, held_still}
use Rattle.eqc_arena.proofs.References.{on_err}
use Rattle.eqc_arena.proofs.making.copies.Goals as goal

pub returns-in_err-first-clause-still : goal.returns-in_err-first-clause-still
returns-in_err-first-clause-still c =
    on_err c.from_residual.result (subst (λ (s : Standing). Exchanges [] [] c.args.worker.now s)
    (sym c.in_err-first.ensures.still) (stays c.args.worker.now c.recall_laws.ensures))

pub copy-requires-2-clause-held : goal.copy-requires-2-clause-held
copy-requires-2-clause-held c = held_still c.in_ok-first.ensures.copied c.args.high.now.number
    c.requires.high

pub give_back-requires-clause-held : goal.give_back-requires-clause-held
give_back-requires-clause-held c =
    let first : Exchanges [] (slots_of (c.in_ok-first.first.number ∷ [])) c.args.worker.now
    c.copy.new.worker =
    subst (λ (n : ℕ). Exchanges [] (slots_of (n ∷ [])) c.args.worker.now c.copy.new.worker)
    (sym c.in_ok-first.ensures.name) c.in_ok-first.ensures.copied in
    subst (λ (s : Standing). IsHeld s.known.core c.in_ok-first.first.number)
    (sym c.in-Err.ensures.still) (came_held c.in_ok-first.first.number [] first)

pub returns-in-Ok-clause-copied : goal.returns-in-Ok-clause-copied
returns-in-Ok-clause-copied c = two_come c.args.low.now.number c.args.high.now.number
    (stays c.args.worker.now c.recall_laws.ensures) c.in_ok-first.ensures.copied
    c.in-Ok.ensures.copied

pub returns-in-Err-clause-still : goal.returns-in-Err-clause-still
returns-in-Err-clause-still c =
    let first : Exchanges [] (slots_of (c.in_ok-first.first.number ∷ [])) c.args.worker.now
    c.copy.new.worker =
    subst (λ (n : ℕ). Exchanges [] (slots_of (n ∷ [])) c.args.worker.now c.copy.new.worker)
    (sym c.in_ok-first.ensures.name) c.in_ok-first.ensures.copied in
    let refused : Exchanges [] (slots_of (c.in_ok-first.first.number ∷ [])) c.args.worker.now
    c.copy-2.new.worker =
    subst (λ (s : Standing). Exchanges [] (slots_of (c.in_ok-first.first.number ∷ []))
    c.args.worker.now s) (sym c.in-Err.ensures.still) first in
    goes c.in_ok-first.first.number [] refused c.give_back.ensures
