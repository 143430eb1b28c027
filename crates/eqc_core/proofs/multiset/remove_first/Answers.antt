use Rattle.std.proofs.Common.{sym, ap, ◌∙◌, ◌==◌, arith}
use Rattle.std.specs.List.{position_from}
use Rattle.eqc_core.proofs.Removals.{removed, absent}
use Rattle.eqc_core.proofs.multiset.remove_first.Goals as goal

pub remove-requires : goal.remove-requires
remove-requires c = let b = c.in-Some.ensures.within in let e = c.deref.ensures.len in omega arith

pub returns-in-Some : goal.returns-in-Some
returns-in-Some c =
    let p = ap (position_from (λ y. y == c.args.x) 0) (sym c.deref.ensures.value)
    ∙ sym c.in-Some.ensures.value in
    c.remove.ensures.items ∙ removed c.args.x c.args.names.now.items c.in-Some.i p

pub returns-in_default : goal.returns-in_default
returns-in_default c =
    let p = ap (position_from (λ y. y == c.args.x) 0) (sym c.deref.ensures.value)
    ∙ sym c.in_default.ensures.value in
    sym (absent c.args.x c.args.names.now.items p)
