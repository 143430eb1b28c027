use Rattle.std.proofs.Common.{◌∙◌, ap, position}
use Rattle.std.specs.Str.{bytes_eq}
use Rattle.eqc_netlist.proofs.NameSetLaws.{if_answered}
use Rattle.eqc_netlist.proofs.name_set.NameSet.place_among_few.Goals as goal

pub returns-then-len-le-FEW-clause-first : goal.returns-then-len-le-FEW-clause-first
returns-then-len-le-FEW-clause-first c =
    if_answered c.place_among.result (position (λ other. bytes_eq c.args.name.now other)
    c.args.self.now)
    (c.place_among.ensures
    ∙ (ap (position (λ other. bytes_eq c.args.name.now other)) c.as_slice.ensures.keys
    ∙ ap (position (λ other. bytes_eq c.args.name.now other)) c.self.view_is))
