use Rattle.std.proofs.Common.{ℕ, sym, ap, ◌∙◌, ◌==◌, arith, refl}
use Rattle.std.specs.List.{position_from}
use Rattle.eqc_core.proofs.Removals.{found_slot, no_slot}
use Rattle.eqc_core.proofs.table.Table.has_slot.Goals as goal

pub returns-in-Some : goal.returns-in-Some
returns-in-Some c =
    let p = ap (position_from (λ (e : ℕ × ℕ). e.1 == c.args.x) 0) (sym c.deref.ensures.value)
    ∙ sym c.in-Some.ensures.value in
    ((λ t. (found_slot c.args.x c.args.self.now.entries.items c.in-Some._i p).1), (λ h. refl))

pub returns-in-None : goal.returns-in-None
returns-in-None c =
    let p = ap (position_from (λ (e : ℕ × ℕ). e.1 == c.args.x) 0) (sym c.deref.ensures.value)
    ∙ sym c.in-None.ensures.value in
    let none = (no_slot c.args.x c.args.self.now.entries.items p).1 in
    ((λ t. absurd (cc)), (λ h. absurd (omega arith)))
