-- The entry that a reference stands for.
use Rattle.eqc_tree.specs.Holding.{Entry}
use Rattle.eqc_plain.specs.declared.reference.Ref.{Ref}
use Rattle.eqc_plain.specs.Store.{entry_at}

-- a reference's number, with the tree that it had when it was made
abbrev pub entry_of : Ref → Entry
entry_of r = entry_at r.at.value r.node
