use Rattle.std.proofs.Common.{◌∙◌, ◌≡◌, ap, arith, length}
use Rattle.eqc_strash.specs.Tables.{structures_in}
use Rattle.eqc_strash.proofs.ShapeLaws.{structures_none}
use Rattle.eqc_strash.proofs.NumberingLaws.{are_classes, numbers_still}
use Rattle.eqc_strash.proofs.signal_classes.classes_over.Goals as goal

pub returns : goal.returns
returns c =
    let none : length (structures_in c.in_ok-table.table) ≡ 0 = ap (λ t. length (structures_in t))
    c.in_ok-table.ensures ∙ ap length (structures_none c.args.rows.now) in
    let first = c.in_ok-first.ensures in
    let second = c.in_ok-second.ensures in
    are_classes c.args.first.now c.args.second.now c.args.variables.now c.args.others.now
    (structures_in c.numbers_of-2.new.table)
    c.in_ok-first.first.items c.in_ok-second.second.items c.len-count.result
    c.len-count.ensures.apart c.len-count.ensures.count
    (omega (arith, none, first.kept.few, second.kept.few))
    (numbers_still c.args.first.now c.args.variables.now (structures_in c.numbers_of.new.table)
    (structures_in c.numbers_of-2.new.table)
    c.in_ok-first.first.items (length c.args.second.now.drivers) second.kept first.numbers)
    second.numbers
