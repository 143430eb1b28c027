use Rattle.eqc_plain.proofs.Searching.{some_number, root_marked}
use Rattle.eqc_plain.proofs.search.Search.of.Goals as goal

pub blank-requires-clause-some : goal.blank-requires-clause-some
blank-requires-clause-some c = some_number c.args.store.now.nodes c.args.f c.requires.satisfiable

pub trace-requires-clause-leads : goal.trace-requires-clause-leads
trace-requires-clause-leads c =
    let s = c.args.store.now in
    root_marked s.lawful c.mark.new.self.choices.items c.mark.new.self.marks.items c.args.f
    c.requires.within c.mark.ensures.marked
    (rw c.mark.ensures.choices c.in_ok-search.ensures.free) c.requires.satisfiable
