use Rattle.std.proofs.Common.{ℕ, sym, ap, ◌∙◌, ◌==◌}
use Rattle.std.specs.List.{position_from}
use Rattle.eqc_core.proofs.Removals.{found_slot, no_slot}
use Rattle.eqc_core.proofs.table.Table.remove.Goals as goal

pub returns-in-Some : goal.returns-in-Some
returns-in-Some c =
    let p = ap (position_from (λ (e : ℕ × ℕ). e.1 == c.args.x) 0) (sym c.deref.ensures.value)
    ∙ sym c.in-Some.ensures.value in
    c.remove.ensures.items ∙ (found_slot c.args.x c.args.self.now.entries.items c.in-Some.i p).0

pub returns-in_default : goal.returns-in_default
returns-in_default c =
    let p = ap (position_from (λ (e : ℕ × ℕ). e.1 == c.args.x) 0) (sym c.deref.ensures.value)
    ∙ sym c.in_default.ensures.value in
    sym (no_slot c.args.x c.args.self.now.entries.items p).0
