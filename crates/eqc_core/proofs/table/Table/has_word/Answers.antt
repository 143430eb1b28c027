use Rattle.std.proofs.Common.{ℕ, sym, ap, ◌∙◌, ◌==◌, arith, refl}
use Rattle.std.specs.List.{position_from}
use Rattle.eqc_core.proofs.Removals.{found_word, no_word}
use Rattle.eqc_core.proofs.table.Table.has_word.Goals as goal

pub returns-in-Some : goal.returns-in-Some
returns-in-Some c =
    let p = ap (position_from (λ (e : ℕ × ℕ). e.0 == c.args.word) 0) (sym c.deref.ensures.value)
    ∙ sym c.in-Some.ensures in
    ((λ t. found_word c.args.word c.args.self.now.entries.items c.in-Some._i p), (λ h. refl))

pub returns-in-None : goal.returns-in-None
returns-in-None c =
    let p = ap (position_from (λ (e : ℕ × ℕ). e.0 == c.args.word) 0) (sym c.deref.ensures.value)
    ∙ sym c.in-None.ensures in
    let none = no_word c.args.word c.args.self.now.entries.items p in
    ((λ t. absurd (cc)), (λ h. absurd (omega arith)))
