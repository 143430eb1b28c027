use Rattle.std.proofs.Common.{◌∙◌, ap, sym, subst, IfOk, false, length}
use Rattle.eqc_strash.specs.Structure.{Structure, constant, passes_on}
use Rattle.eqc_strash.specs.Tables.{Stands, structures_in}
use Rattle.eqc_strash.proofs.CoverLaws.{columns_known, gate_made}
use Rattle.eqc_strash.proofs.numbering.cover_class.Goals as goal

pub class-requires-2 : goal.class-requires-2
class-requires-2 c = record {
  within = (
    c.requires.rows.within,
    columns_known c.args.numbers.now c.args.columns.now
        c.in_ok-columns.columns (length (structures_in c.args.table.now)) c.in_ok-columns.ensures
        c.requires.known,
  );
}

pub returns-clause-class : goal.returns-clause-class
returns-clause-class c =
    let made =
    gate_made c.args.table.now.0 (structures_in c.args.table.now) c.args.rows.now c.args.r
    c.args.numbers.now c.args.columns.now
    c.in_ok-columns.columns c.requires.rows.at c.in_ok-columns.ensures (sym (c.if-is_empty.ensures))
    (λ none. c.if-len-eq0.false (c.len.ensures ∙ none))
    (ap (passes_on c.args.rows.now) (sym c.len-2.ensures) ∙ sym c.if-passes_on.ensures) in
    let P : Structure → Type 0 = λ x. IfOk c.class-2.result (λ class. Stands (constant false)
    (structures_in c.class-2.new.self) class x) in
    subst P made c.class-2.ensures.class
