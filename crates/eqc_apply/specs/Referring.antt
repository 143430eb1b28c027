-- The entry that a reference stands for.
use Rattle.eqc_tree.specs.Holding.{Entry}
use Rattle.eqc_apply.specs.declared.reference.Ref.{Ref}
use Rattle.eqc_apply.specs.Extending.{entry_in}

-- a reference's number, with the tree that it had when it was made
abbrev pub entry_of : Ref → Entry
entry_of r = entry_in r.at.value.known r.name
