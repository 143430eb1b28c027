use Rattle.eqc_strash.proofs.ShapeLaws.{table_kept, table_grows, table_stands}
use Rattle.eqc_strash.proofs.class_table.ClassTable.class.Goals as goal

pub invariant_of-self-then-class : goal.invariant_of-self-then-class
invariant_of-self-then-class c =
    table_kept c.self.inside.rows.now c.self.inside.shapes.keys c.insert_full.new.self.keys
    c.args.shape c.args.self.now c.self.view_is
    c.self.invariant c.requires.within c.in_ok-class.ensures.keys

pub invariant_of-self-2 : goal.invariant_of-self-2
invariant_of-self-2 c =
    table_kept c.self.inside.rows.now c.self.inside.shapes.keys c.insert_full.new.self.keys
    c.args.shape c.args.self.now c.self.view_is
    c.self.invariant c.requires.within c.in_ok-class.ensures.keys

pub returns-clause-kept : goal.returns-clause-kept
returns-clause-kept c =
    table_grows c.self.inside.rows.now c.self.inside.shapes.keys c.insert_full.new.self.keys
    c.args.shape c.args.self.now c.self.view_is
    c.self.invariant c.requires.within c.in_ok-class.ensures.keys

pub returns-clause-class : goal.returns-clause-class
returns-clause-class c =
    table_stands c.self.inside.rows.now c.self.inside.shapes.keys c.insert_full.new.self.keys
    c.args.shape c.args.self.now c.self.view_is
    c.self.invariant c.requires.within c.in_ok-class.ensures.keys c.in_ok-class.class
    c.in_ok-class.ensures.index
