use Rattle.std.proofs.Common.{◌+◌, ◌<◌, Bool, Option, Some, List, length, set, false, arith, sym}
use Rattle.std.proofs.Common.{◌∙◌}
use Rattle.eqc_plain.specs.Searching.{Agrees}
use Rattle.eqc_plain.proofs.Searching.{dead, is_choice, agrees_more}
use Rattle.eqc_plain.proofs.search.Search.choose.Goals as goal

pub returns-clause-least : goal.returns-clause-least
returns-clause-least c t a agrees at =
    let s = c.args.store.now in
    let old : List (Option Bool) = c.args.self.now.choices.items in
    let z = c.requires.search.sized in
    let inside : c.args.variable < length old = omega (arith, z.choices, c.requires.below) in
    let more : Agrees (set old c.args.variable (Some false)) a =
    agrees_more c.args.variable false old (set old c.args.variable (Some false)) a
    (is_choice old c.args.variable false inside) agrees at in
    dead s.lawful c.mark.new.self.choices.items c.mark.new.self.marks.items (c.args.f + 1) c.args.f
    a (omega arith) (omega (arith, z.within))
    c.mark.ensures.marked (rw c.mark.ensures.choices more) (sym c.is_marked.ensures
    ∙ c.if-is_marked.false)
