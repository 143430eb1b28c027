use Rattle.std.proofs.Common.{ℕ, [], ◌∷◌, sym, ap, subst}
use Rattle.eqc_core.specs.View.{View}
use Rattle.eqc_guard.proofs.Copying.{cells_on}
use Rattle.eqc_cache.proofs.Cells.{down_keeps}
use Rattle.eqc_core.specs.Words.{slots_of}
use Rattle.eqc_guard.specs.Known.{IsHeld}
use Rattle.eqc_guard.specs.Standing.{Standing}
use Rattle.eqc_cache.specs.Storing.{Trades}
use Rattle.eqc_cache.proofs.Trading.{stays, still_held, and_one, gives_back, came_held, entry_came}
use Rattle.eqc_cache.proofs.Trading.{has_entry, right_of}
use Rattle.eqc_cache.proofs.storing.entry.Goals as goal

pub returns-in_err-f-clause-none : goal.returns-in_err-f-clause-none
returns-in_err-f-clause-none c = λ e. subst (λ (s : Standing). Trades [] [] c.args.worker.now s)
    (sym (c.copy.ensures.none c.in_err-f.was)) (stays c.args.worker.now c.requires.known
    c.requires.quiet)

pub copy-requires-2-clause-held : goal.copy-requires-2-clause-held
copy-requires-2-clause-held c = still_held (slots_of (c.in_ok-f.f.number ∷ [])) c.args.worker.now
    c.copy.new.worker c.in_ok-f.ensures.copied c.args.second c.requires.held.1

-- where the second copy failed, the first one came
pub down-requires-clause-held : goal.down-requires-clause-held
down-requires-clause-held c =
    subst (λ (s : Standing). IsHeld s.known.core c.in_ok-f.f.number)
    (sym (c.copy-2.ensures.none c.in_default.is))
    (came_held [] [] c.in_ok-f.f.number c.args.worker.now c.copy.new.worker
    c.in_ok-f.ensures.copied)

pub returns-in_default-clause-none : goal.returns-in_default-clause-none
returns-in_default-clause-none c = λ e.
    gives_back [] [] c.in_ok-f.f.number c.args.worker.now c.copy-2.new.worker c.down.new.self
    (subst (λ (s : Standing). Trades [] (slots_of (c.in_ok-f.f.number ∷ [])) c.args.worker.now s)
    (sym (c.copy-2.ensures.none c.in_default.is)) c.in_ok-f.ensures.copied)
    c.down.ensures.constant c.down.ensures.step

pub copy-requires-3-clause-held : goal.copy-requires-3-clause-held
copy-requires-3-clause-held c =
    let both = and_one c.in-Some.g.number (c.in_ok-f.f.number ∷ []) c.args.worker.now
    c.copy.new.worker c.copy-2.new.worker c.requires.known c.in_ok-f.ensures.copied
    c.in-Some.ensures.copied in
    still_held (slots_of (c.in-Some.g.number ∷ c.in_ok-f.f.number ∷ [])) c.args.worker.now
    c.copy-2.new.worker both c.args.found c.requires.held.2

-- where the third copy failed, two came
pub down-requires-in_default-copy-clause-held : goal.down-requires-in_default-copy-clause-held
down-requires-in_default-copy-clause-held c =
    let both = and_one c.in-Some.g.number (c.in_ok-f.f.number ∷ []) c.args.worker.now
    c.copy.new.worker c.copy-2.new.worker c.requires.known c.in_ok-f.ensures.copied
    c.in-Some.ensures.copied in
    let two = subst (λ (s : Standing). Trades [] (slots_of (c.in-Some.g.number ∷ c.in_ok-f.f.number
    ∷ [])) c.args.worker.now s) (sym (c.copy-3.ensures.none c.in_default-copy.is)) both in
    came_held [] (c.in_ok-f.f.number ∷ []) c.in-Some.g.number c.args.worker.now c.copy-3.new.worker
    two

pub down-requires-in_default-copy-2-clause-held : goal.down-requires-in_default-copy-2-clause-held
down-requires-in_default-copy-2-clause-held c =
    let both = and_one c.in-Some.g.number (c.in_ok-f.f.number ∷ []) c.args.worker.now
    c.copy.new.worker c.copy-2.new.worker c.requires.known c.in_ok-f.ensures.copied
    c.in-Some.ensures.copied in
    let two = subst (λ (s : Standing). Trades [] (slots_of (c.in-Some.g.number ∷ c.in_ok-f.f.number
    ∷ [])) c.args.worker.now s) (sym (c.copy-3.ensures.none c.in_default-copy.is)) both in
    let one =
    gives_back [] (c.in_ok-f.f.number ∷ []) c.in-Some.g.number c.args.worker.now c.copy-3.new.worker
    c.down-in_default-copy.new.self two
    c.down-in_default-copy.ensures.constant c.down-in_default-copy.ensures.step in
    came_held [] [] c.in_ok-f.f.number c.args.worker.now c.down-in_default-copy.new.self one

pub returns-in_default-copy-clause-none : goal.returns-in_default-copy-clause-none
returns-in_default-copy-clause-none c = λ e.
    let both = and_one c.in-Some.g.number (c.in_ok-f.f.number ∷ []) c.args.worker.now
    c.copy.new.worker c.copy-2.new.worker c.requires.known c.in_ok-f.ensures.copied
    c.in-Some.ensures.copied in
    let two = subst (λ (s : Standing). Trades [] (slots_of (c.in-Some.g.number ∷ c.in_ok-f.f.number
    ∷ [])) c.args.worker.now s) (sym (c.copy-3.ensures.none c.in_default-copy.is)) both in
    let one =
    gives_back [] (c.in_ok-f.f.number ∷ []) c.in-Some.g.number c.args.worker.now c.copy-3.new.worker
    c.down-in_default-copy.new.self two
    c.down-in_default-copy.ensures.constant c.down-in_default-copy.ensures.step in
    gives_back [] [] c.in_ok-f.f.number c.args.worker.now c.down-in_default-copy.new.self
    c.down-in_default-copy-2.new.self one
    c.down-in_default-copy-2.ensures.constant c.down-in_default-copy-2.ensures.step

pub returns-clause-some : goal.returns-clause-some
returns-clause-some c =
    let both = and_one c.in-Some.g.number (c.in_ok-f.f.number ∷ []) c.args.worker.now
    c.copy.new.worker c.copy-2.new.worker c.requires.known c.in_ok-f.ensures.copied
    c.in-Some.ensures.copied in
    entry_came c.in_ok-f.f.number c.in-Some.g.number c.in-Some-copy.r.number c.args.worker.now
    c.copy-2.new.worker c.copy-3.new.worker c.requires.known both c.in-Some-copy.ensures.copied

pub returns-clause-entry : goal.returns-clause-entry
returns-clause-entry c =
    let old = c.args.worker.now in
    let both = and_one c.in-Some.g.number (c.in_ok-f.f.number ∷ []) c.args.worker.now
    c.copy.new.worker c.copy-2.new.worker c.requires.known c.in_ok-f.ensures.copied
    c.in-Some.ensures.copied in
    let all = entry_came c.in_ok-f.f.number c.in-Some.g.number c.in-Some-copy.r.number
    c.args.worker.now c.copy-2.new.worker c.copy-3.new.worker c.requires.known both
    c.in-Some-copy.ensures.copied in
    has_entry c.args.op c.in_ok-f.f.number c.in-Some.g.number c.in-Some-copy.r.number old
    c.copy-3.new.worker all
    (subst (λ (n : ℕ). IsHeld c.args.worker.now.known.core n) (sym c.in_ok-f.ensures.name)
    c.requires.held.0)
    (subst (λ (n : ℕ). IsHeld c.args.worker.now.known.core n) (sym c.in-Some.ensures.name)
    c.requires.held.1)
    (subst (λ (n : ℕ). IsHeld c.args.worker.now.known.core n) (sym c.in-Some-copy.ensures.name)
    c.requires.held.2)
    (right_of old.known c.args.op c.in_ok-f.f.number c.in-Some.g.number c.in-Some-copy.r.number
    c.args.first c.args.second c.args.found
    c.in_ok-f.ensures.name c.in-Some.ensures.name c.in-Some-copy.ensures.name c.requires.right)

-- what was counted up and given back leaves the cells
pub returns-in_default-clause-cells : goal.returns-in_default-clause-cells
returns-in_default-clause-cells c =
    let f = c.in_ok-f.f.number in
    let one = subst (λ (s : Standing). Trades [] (slots_of (c.in_ok-f.f.number ∷ []))
    c.args.worker.now s) (sym (c.copy-2.ensures.none c.in_default.is)) c.in_ok-f.ensures.copied
    in
    let given =
    down_keeps f c.copy-2.new.worker c.down.new.self one.known (came_held [] [] f c.args.worker.now
    c.copy-2.new.worker one) c.down.ensures.constant c.down.ensures.step c.down.ensures.copies
    in
    cells_on c.args.worker.now.known c.copy-2.new.worker.known c.down.new.self.known
    (ap (λ (v : View). v.sizes) one.core)
    (cells_on c.args.worker.now.known c.copy.new.worker.known c.copy-2.new.worker.known
    (ap (λ (v : View). v.sizes) c.in_ok-f.ensures.copied.core) c.copy.ensures.cells
    c.copy-2.ensures.cells)
    given.0

pub returns-in_default-copy-clause-cells : goal.returns-in_default-copy-clause-cells
returns-in_default-copy-clause-cells c =
    let f = c.in_ok-f.f.number in
    let g = c.in-Some.g.number in
    let both = and_one c.in-Some.g.number (c.in_ok-f.f.number ∷ []) c.args.worker.now
    c.copy.new.worker c.copy-2.new.worker c.requires.known c.in_ok-f.ensures.copied
    c.in-Some.ensures.copied in
    let two = subst (λ (s : Standing). Trades [] (slots_of (c.in-Some.g.number ∷ c.in_ok-f.f.number
    ∷ [])) c.args.worker.now s) (sym (c.copy-3.ensures.none c.in_default-copy.is)) both in
    let one =
    gives_back [] (c.in_ok-f.f.number ∷ []) c.in-Some.g.number c.args.worker.now c.copy-3.new.worker
    c.down-in_default-copy.new.self two
    c.down-in_default-copy.ensures.constant c.down-in_default-copy.ensures.step in
    let first =
    down_keeps g c.copy-3.new.worker c.down-in_default-copy.new.self two.known
    (came_held [] (c.in_ok-f.f.number ∷ []) c.in-Some.g.number c.args.worker.now c.copy-3.new.worker
    two)
    c.down-in_default-copy.ensures.constant c.down-in_default-copy.ensures.step
    c.down-in_default-copy.ensures.copies in
    let second =
    down_keeps f c.down-in_default-copy.new.self c.down-in_default-copy-2.new.self one.known
    (came_held [] [] c.in_ok-f.f.number c.args.worker.now c.down-in_default-copy.new.self one)
    c.down-in_default-copy-2.ensures.constant
    c.down-in_default-copy-2.ensures.step c.down-in_default-copy-2.ensures.copies in
    cells_on c.args.worker.now.known c.down-in_default-copy.new.self.known
    c.down-in_default-copy-2.new.self.known (ap (λ (v : View). v.sizes) one.core)
    (cells_on c.args.worker.now.known c.copy-3.new.worker.known
    c.down-in_default-copy.new.self.known (ap (λ (v : View). v.sizes) two.core)
    (cells_on c.args.worker.now.known c.copy-2.new.worker.known c.copy-3.new.worker.known
    (ap (λ (v : View). v.sizes) both.core)
    (cells_on c.args.worker.now.known c.copy.new.worker.known c.copy-2.new.worker.known
    (ap (λ (v : View). v.sizes) c.in_ok-f.ensures.copied.core) c.copy.ensures.cells
    c.copy-2.ensures.cells)
    c.copy-3.ensures.cells)
    first.0)
    second.0
