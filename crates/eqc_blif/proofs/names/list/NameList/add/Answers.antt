use Rattle.std.proofs.Common.{◌≡◌, false, sym, ◌∙◌}
use Rattle.eqc_netlist.specs.Names.{is_named, has_twice}
use Rattle.eqc_netlist.proofs.NameLemmas.{once_more}
use Rattle.eqc_blif.proofs.NameLemmas.{added_once, few_once, few_pushed}
use Rattle.eqc_blif.proofs.names.list.NameList.add.Goals as goal

pub invariant_of-self-in-Some : goal.invariant_of-self-in-Some
invariant_of-self-in-Some c =
    let once : has_twice c.in-Some.many.value ≡ false = rw c.in-Some.is at c.self.invariant in
    added_once c.deref_mut.result.now c.insert.new.self c.args.name c.in_ok-fresh.fresh
    (rw c.deref_mut.ensures.value once) c.in_ok-fresh.ensures.fresh c.in_ok-fresh.ensures.added

pub invariant_of-self : goal.invariant_of-self
invariant_of-self c =
    let once : has_twice c.in-Some.many.value ≡ false = rw c.in-Some.is at c.self.invariant in
    rw (c.in_err-fresh.ensures.kept, c.deref_mut.ensures.value) once

pub invariant_of-self-then-len-lt-FEW : goal.invariant_of-self-then-len-lt-FEW
invariant_of-self-then-len-lt-FEW c =
    let fresh : is_named c.self.inside.few.items c.args.name ≡ false =
    rw c.deref.ensures.value at (sym c.is_among.ensures ∙ c.if-is_among.false) in
    few_pushed _ c.self.inside.many c.self.inside.few.items c.push_sparing.new.items.items
    c.args.name c.in_default.not-Some c.self.invariant fresh c.in_ok-push_sparing.ensures

pub many_of-requires-clause-once : goal.many_of-requires-clause-once
many_of-requires-clause-once c = rw c.deref-2.ensures.value (few_once _ c.self.inside.many
    c.self.inside.few.items c.in_default.not-Some c.self.invariant)

pub many_of-requires-clause-fresh : goal.many_of-requires-clause-fresh
many_of-requires-clause-fresh c =
    rw c.deref-2.ensures.value (rw c.deref.ensures.value at (sym c.is_among.ensures
    ∙ c.if-is_among.false))

pub invariant_of-self-2 : goal.invariant_of-self-2
invariant_of-self-2 c =
    let once : has_twice c.self.inside.few.items ≡ false =
    few_once _ c.self.inside.many c.self.inside.few.items c.in_default.not-Some c.self.invariant
    in
    let fresh : is_named c.self.inside.few.items c.args.name ≡ false =
    rw c.deref.ensures.value at (sym c.is_among.ensures ∙ c.if-is_among.false) in
    rw (c.in_ok-many_of.ensures, c.deref-2.ensures.value) (once_more c.self.inside.few.items
    c.args.name once fresh)
