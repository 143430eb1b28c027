use Rattle.std.proofs.Common.{◌<◌, true, false, not, eqb, ◌%◌, length, set, refl, sym, ◌∙◌, ap}
use Rattle.std.proofs.Common.{rules}
use Rattle.std.specs.List.{count_by}
use Rattle.eqc_tree.specs.Holding.{says}
use Rattle.eqc_tree.specs.Operation.{operate}
use Rattle.eqc_cover.specs.Matching.{AreHeld, said}
use Rattle.eqc_cover.specs.Table.{table_value, DependsOnOpen}
use Rattle.eqc_cover.specs.Splitting.{gate_value, part_value}
use Rattle.eqc_cover.proofs.TableLaws.{none_open, one_closed, fewer_open}
use Rattle.eqc_cover.proofs.RowLaws.{length_said}
use Rattle.eqc_cover.proofs.SplitLaws.{constant_value, few_said, by_column, by_true_column}
use Rattle.eqc_cover.proofs.MakingLaws.{reference_makes, makes_held, turned_makes, joined_makes}
use Rattle.eqc_cover.proofs.expansion.+by_table.Goals as goal

pub returns-then-is_constant : goal.returns-then-is_constant
returns-then-is_constant g t c =
    reference_makes g.D.References.entry _ _ c.constant.result (λ _. not (eqb c.args.table 0)) _
    (λ a.
    constant_value c.args.table (said g.D.References.entry c.args.columns.now a)
    (few_said g.D.References.entry c.args.columns.now a c.requires.few)
    (sym c.is_constant.ensures ∙ c.if-is_constant.true)) c.constant.ensures.ok
    c.constant.ensures.stop c.constant.ensures.only

pub returns-in_default : goal.returns-in_default
returns-in_default g t c =
    reference_makes g.D.References.entry _ _ c.constant-in_default.result
    (λ _. eqb (c.args.table % 2) 1) _
    (λ a.
    none_open c.args.table (length c.args.columns.now) c.args.open_columns
    (said g.D.References.entry c.args.columns.now a) c.requires.depends
    c.in_default.ensures.none
    (length_said g.D.References.entry c.args.columns.now a)) c.constant-in_default.ensures.ok
    c.constant-in_default.ensures.stop c.constant-in_default.ensures.only

pub by_table-f-requires : goal.by_table-f-requires
by_table-f-requires g t c κs within =
    let high : DependsOnOpen c.cofactor-high.result (length c.args.columns.now)
    (set c.args.open_columns c.in-Some.j false) =
    one_closed c.args.table (length c.args.columns.now) c.in-Some.j c.cofactor-high.result true
    c.args.open_columns c.requires.few
    c.in-Some.ensures.some.0 c.cofactor-high.ensures c.requires.depends in
    let depends : DependsOnOpen c.where_true-part.result.table (length c.args.columns.now)
    (set c.args.open_columns c.in-Some.j false) =
    c.where_true-part.ensures.open.depends (length c.args.columns.now) c.requires.few
    (set c.args.open_columns c.in-Some.j false) high high in
    let fewer : count_by (λ b. b) (set c.args.open_columns c.in-Some.j false)
    < count_by (λ b. b) c.args.open_columns = fewer_open c.args.open_columns c.in-Some.j
    c.in-Some.ensures.some.1 in
    search rules

pub returns-then-low-eq0 : goal.returns-then-low-eq0
returns-then-low-eq0 g t c =
    turned_makes g.D.References.entry _ _ _ _ c.turned.result _ _
    (λ a v. gate_value c.where_true-part.result.gate
    (says (g.D.References.entry c.index-columns-j.result.now) a) v)
    (λ a.
    c.where_true-part.ensures.value (says (g.D.References.entry c.index-columns-j.result.now) a)
    (said g.D.References.entry c.args.columns.now a)
    (few_said g.D.References.entry c.args.columns.now a c.requires.few)
    ∙ by_true_column g.D.References.entry c.args.columns.now c.index-columns-j.result c.args.table
    c.in-Some.j c.cofactor-high.result
    c.cofactor-low.result c.requires.few c.in-Some.ensures.some.0 c.index-columns-j.is
    c.cofactor-high.ensures c.cofactor-low.ensures a
    c.if-low-eq0.true)
    c.by_table-f.ensures c.turned.ensures

pub by_table-f-requires-2 : goal.by_table-f-requires-2
by_table-f-requires-2 g t c κs within =
    let depends : DependsOnOpen c.cofactor-low.result (length c.args.columns.now)
    (set c.args.open_columns c.in-Some.j false) =
    one_closed c.args.table (length c.args.columns.now) c.in-Some.j c.cofactor-low.result false
    c.args.open_columns c.requires.few
    c.in-Some.ensures.some.0 c.cofactor-low.ensures c.requires.depends in
    let fewer : count_by (λ b. b) (set c.args.open_columns c.in-Some.j false)
    < count_by (λ b. b) c.args.open_columns = fewer_open c.args.open_columns c.in-Some.j
    c.in-Some.ensures.some.1 in
    search rules

pub by_table-g-requires : goal.by_table-g-requires
by_table-g-requires g t c κs within =
    let high : DependsOnOpen c.cofactor-high.result (length c.args.columns.now)
    (set c.args.open_columns c.in-Some.j false) =
    one_closed c.args.table (length c.args.columns.now) c.in-Some.j c.cofactor-high.result true
    c.args.open_columns c.requires.few
    c.in-Some.ensures.some.0 c.cofactor-high.ensures c.requires.depends in
    let low : DependsOnOpen c.cofactor-low.result (length c.args.columns.now)
    (set c.args.open_columns c.in-Some.j false) =
    one_closed c.args.table (length c.args.columns.now) c.in-Some.j c.cofactor-low.result false
    c.args.open_columns c.requires.few
    c.in-Some.ensures.some.0 c.cofactor-low.ensures c.requires.depends in
    let depends : DependsOnOpen c.split-parts.result.back.table (length c.args.columns.now)
    (set c.args.open_columns c.in-Some.j false) =
    c.split-parts.ensures.back.depends (length c.args.columns.now) c.requires.few
    (set c.args.open_columns c.in-Some.j false) high low in
    let fewer : count_by (λ b. b) (set c.args.open_columns c.in-Some.j false)
    < count_by (λ b. b) c.args.open_columns = fewer_open c.args.open_columns c.in-Some.j
    c.in-Some.ensures.some.1 in
    let held : AreHeld g.D.References.entry (g.D.References.holding c.turned-2.new.d)
    c.args.columns.now =
    makes_held g.D.References.entry _ _ _ _ c.args.columns.now
    (turned_makes g.D.References.entry _ _ _ _ _ _ _
    (λ a v. gate_value c.split-parts.result.front.gate
    (says (g.D.References.entry c.index-columns-j.result.now) a) v) (λ a. refl)
    c.by_table-f-2.ensures c.in_ok-front.ensures)
    c.requires.held in
    search rules

pub returns : goal.returns
returns g t c =
    joined_makes g.D.References.entry _ _ _ _ _ c.turned-back.result c.joined.result _ _ _
    (λ _. operate c.split-parts.result.op)
    (λ a.
    ap (λ u.
    operate c.split-parts.result.op
    (gate_value c.split-parts.result.front.gate
    (says (g.D.References.entry c.index-columns-j.result.now) a)
    (table_value u (said g.D.References.entry c.args.columns.now a)))
    (part_value c.split-parts.result.back (says (g.D.References.entry c.index-columns-j.result.now)
    a) (said g.D.References.entry c.args.columns.now a))) (sym c.split-parts.ensures.front)
    ∙ (c.split-parts.ensures.value (says (g.D.References.entry c.index-columns-j.result.now) a)
    (said g.D.References.entry c.args.columns.now a)
    (few_said g.D.References.entry c.args.columns.now a c.requires.few)
    ∙ by_column g.D.References.entry c.args.columns.now c.index-columns-j.result c.args.table
    c.in-Some.j c.cofactor-high.result
    c.cofactor-low.result c.requires.few c.in-Some.ensures.some.0 c.index-columns-j.is
    c.cofactor-high.ensures c.cofactor-low.ensures a))
    (turned_makes g.D.References.entry _ _ _ _ _ _ _
    (λ a v. gate_value c.split-parts.result.front.gate
    (says (g.D.References.entry c.index-columns-j.result.now) a) v) (λ a. refl)
    c.by_table-f-2.ensures c.in_ok-front.ensures)
    (turned_makes g.D.References.entry _ _ _ _ c.turned-back.result _ _
    (λ a v. gate_value c.split-parts.result.back.gate
    (says (g.D.References.entry c.index-columns-j.result.now) a) v) (λ a. refl)
    c.by_table-g.ensures c.turned-back.ensures)
    c.joined.ensures
