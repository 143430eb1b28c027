use Rattle.std.proofs.Common.{ℕ, [], ◌∷◌, ap, sym, subst}
use Rattle.eqc_core.specs.Words.{slots_of}
use Rattle.eqc_guard.specs.Known.{IsHeld}
use Rattle.eqc_guard.specs.Standing.{Standing}
use Rattle.eqc_arena.specs.Changing.{Changes, Exchanges}
use Rattle.eqc_arena.proofs.Changing.{reads, one_comes, two_come, goes, came_held}
use Rattle.eqc_arena.proofs.References.{on_err, low_counts, high_counts, opened, gives}
use Rattle.eqc_arena.proofs.nodes.children.Goals as goal

pub count-requires-clause-may : goal.count-requires-clause-may
count-requires-clause-may c =
    low_counts c.args.worker.now c.read_node-word.new.self c.args.f.now.number
    c.read_node-word.result c.read_node-word.ensures.step
    c.unpack_node-var.result.1 (ap {B = ℕ} (λ (p : ℕ × ℕ × ℕ). p.1)
    c.unpack_node-var.ensures.fields)

pub count-requires-2-clause-may : goal.count-requires-2-clause-may
count-requires-2-clause-may c =
    high_counts c.args.worker.now c.read_node-word.new.self c.args.f.now.number
    c.read_node-word.result c.read_node-word.ensures.step
    c.count.new.worker c.in_ok-low.ensures.read c.unpack_node-var.result.2
    (ap {B = ℕ} (λ (p : ℕ × ℕ × ℕ). p.2) c.unpack_node-var.ensures.fields)

pub returns-in_err-low-clause-still : goal.returns-in_err-low-clause-still
returns-in_err-low-clause-still c = on_err c.from_residual.result
    (subst (λ (s : Standing). Exchanges [] [] c.args.worker.now s) (sym c.in_err-low.ensures.still)
    (reads c.args.f.now.number c.read_node-word.result c.args.worker.now c.read_node-word.new.self
    c.read_node-word.ensures.step))

pub returns-in-Ok-clause-children : goal.returns-in-Ok-clause-children
returns-in-Ok-clause-children c =
    opened c.args.worker.now c.read_node-word.new.self c.args.f.now.number c.read_node-word.result
    c.read_node-word.ensures.step
    c.count.new.worker c.in_ok-low.ensures.read c.count-2.new.worker c.in_ok-low.low.number
    c.in-Ok.high.number c.unpack_node-var.result
    c.in_ok-low.ensures.trees c.in-Ok.ensures.trees c.read_node-word.ensures.tells
    c.unpack_node-var.ensures.fields c.in_ok-low.ensures.name c.in-Ok.ensures.name

pub returns-in-Ok-clause-held : goal.returns-in-Ok-clause-held
returns-in-Ok-clause-held c =
    let read = reads c.args.f.now.number c.read_node-word.result c.args.worker.now
    c.read_node-word.new.self c.read_node-word.ensures.step in
    let first : Exchanges [] (slots_of (c.in_ok-low.low.number ∷ [])) c.read_node-word.new.self
    c.count.new.worker =
    subst (λ (n : ℕ). Exchanges [] (slots_of (n ∷ [])) c.read_node-word.new.self c.count.new.worker)
    (sym c.in_ok-low.ensures.name) c.in_ok-low.ensures.counted in
    let second : Exchanges [] (slots_of (c.in-Ok.high.number ∷ [])) c.count.new.worker
    c.count-2.new.worker =
    subst (λ (n : ℕ). Exchanges [] (slots_of (n ∷ [])) c.count.new.worker c.count-2.new.worker)
    (sym c.in-Ok.ensures.name) c.in-Ok.ensures.counted in
    two_come c.in_ok-low.low.number c.in-Ok.high.number read first second

pub down-requires-clause-held : goal.down-requires-clause-held
down-requires-clause-held c =
    let first : Exchanges [] (slots_of (c.in_ok-low.low.number ∷ [])) c.read_node-word.new.self
    c.count.new.worker =
    subst (λ (n : ℕ). Exchanges [] (slots_of (n ∷ [])) c.read_node-word.new.self c.count.new.worker)
    (sym c.in_ok-low.ensures.name) c.in_ok-low.ensures.counted in
    subst (λ (s : Standing). IsHeld s.known.core c.in_ok-low.low.number)
    (sym c.in-Err.ensures.still) (came_held c.in_ok-low.low.number [] first)

pub returns-in-Err-clause-still : goal.returns-in-Err-clause-still
returns-in-Err-clause-still c =
    let low = c.in_ok-low.low.number in
    let read = reads c.args.f.now.number c.read_node-word.result c.args.worker.now
    c.read_node-word.new.self c.read_node-word.ensures.step in
    let first : Exchanges [] (slots_of (c.in_ok-low.low.number ∷ [])) c.read_node-word.new.self
    c.count.new.worker =
    subst (λ (n : ℕ). Exchanges [] (slots_of (n ∷ [])) c.read_node-word.new.self c.count.new.worker)
    (sym c.in_ok-low.ensures.name) c.in_ok-low.ensures.counted in
    let came = one_comes low read first in
    let refused : Changes [] (slots_of (c.in_ok-low.low.number ∷ []))
    c.args.worker.now.known.core.hand c.args.worker.now.known.core.draft c.args.worker.now
    c.count-2.new.worker =
    subst
    (λ (s : Standing). Changes [] (slots_of (c.in_ok-low.low.number ∷ []))
    c.args.worker.now.known.core.hand c.args.worker.now.known.core.draft c.args.worker.now s)
    (sym c.in-Err.ensures.still) came in
    goes low [] refused (gives low c.count-2.new.worker c.down.new.self refused.known
    (came_held low [] refused) c.down.ensures.constant c.down.ensures.step)
