use Rattle.std.proofs.Common.{◌<◌, true, false, length, set, refl, sym, ◌∙◌, arith, rules}
use Rattle.std.specs.List.{count_by}
use Rattle.eqc_cover.specs.Table.{DependsOnOpen}
use Rattle.eqc_gates.specs.Literals.{AreWithin}
use Rattle.eqc_cover.proofs.TableLaws.{one_closed, fewer_open}
use Rattle.eqc_gates.proofs.LiteralLaws.{table_constant, table_closed, still_within, opposite_made}
use Rattle.eqc_gates.proofs.LiteralLaws.{chosen_made}
use Rattle.eqc_gates.proofs.expansion.+table_literal.Goals as goal

pub returns-then-is_constant-clause-value : goal.returns-then-is_constant-clause-value
returns-then-is_constant-clause-value t c =
    table_constant c.args.sweep.now c.args.columns.now c.args.table c.constant.result _
    c.requires.few (sym c.is_constant.ensures ∙ c.if-is_constant.true) refl c.constant.ensures

pub returns-in_default-clause-value : goal.returns-in_default-clause-value
returns-in_default-clause-value t c =
    table_closed c.args.sweep.now c.args.columns.now c.args.table c.constant-in_default.result _
    c.args.open_columns c.requires.depends c.in_default.ensures.none refl
    c.constant-in_default.ensures

pub table_literal-requires : goal.table_literal-requires
table_literal-requires t c =
    let depends : DependsOnOpen c.cofactor-low.result (length c.args.columns.now)
    (set c.args.open_columns c.in-Some.j false) =
    one_closed c.args.table (length c.args.columns.now) c.in-Some.j c.cofactor-low.result false
    c.args.open_columns c.requires.few
    c.in-Some.ensures.some.0 c.cofactor-low.ensures c.requires.depends in
    let fewer : count_by (λ b. b) (set c.args.open_columns c.in-Some.j false)
    < count_by (λ b. b) c.args.open_columns = fewer_open c.args.open_columns c.in-Some.j
    c.in-Some.ensures.some.1 in
    search rules

pub returns-then-high-low-clause-value : goal.returns-then-high-low-clause-value
returns-then-high-low-clause-value t c =
    opposite_made c.args.sweep.now c.table_literal.new.sweep c.xor.new.self c.args.columns.now
    c.args.table c.in-Some.j _ c.cofactor-high.result
    c.cofactor-low.result c.in_ok-when_false.when_false c.xor.result
    c.requires.within c.requires.few c.in-Some.ensures.some.0 refl c.cofactor-high.ensures
    c.cofactor-low.ensures (omega arith) c.if-high-low.true
    c.in_ok-when_false.ensures.extends c.in_ok-when_false.ensures.value c.xor.ensures.value

pub table_literal-requires-2 : goal.table_literal-requires-2
table_literal-requires-2 t c =
    let within : AreWithin c.table_literal.new.sweep c.args.columns.now =
    still_within _ _ c.args.columns.now c.in_ok-when_false.ensures.extends c.requires.within in
    let depends : DependsOnOpen c.cofactor-high.result (length c.args.columns.now)
    (set c.args.open_columns c.in-Some.j false) =
    one_closed c.args.table (length c.args.columns.now) c.in-Some.j c.cofactor-high.result true
    c.args.open_columns c.requires.few
    c.in-Some.ensures.some.0 c.cofactor-high.ensures c.requires.depends in
    let fewer : count_by (λ b. b) (set c.args.open_columns c.in-Some.j false)
    < count_by (λ b. b) c.args.open_columns = fewer_open c.args.open_columns c.in-Some.j
    c.in-Some.ensures.some.1 in
    search rules

pub returns-clause-value : goal.returns-clause-value
returns-clause-value t c =
    chosen_made c.args.sweep.now c.table_literal.new.sweep c.table_literal-2.new.sweep
    c.multiplexer.new.sweep c.args.columns.now c.args.table
    c.in-Some.j _ c.cofactor-high.result c.cofactor-low.result c.in_ok-when_true.when_true
    c.in_ok-when_false.when_false c.multiplexer.result
    c.requires.within c.requires.few c.in-Some.ensures.some.0 refl c.cofactor-high.ensures
    c.cofactor-low.ensures
    c.in_ok-when_false.ensures.extends c.in_ok-when_true.ensures.extends
    c.in_ok-when_false.ensures.value c.in_ok-when_true.ensures.value
    c.multiplexer.ensures.value
