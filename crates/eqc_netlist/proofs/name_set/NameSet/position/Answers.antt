use Rattle.std.proofs.Common.{◌∙◌, ap, position}
use Rattle.std.specs.Str.{bytes_eq}
use Rattle.eqc_netlist.proofs.name_set.NameSet.position.Goals as goal

pub returns-then-len-le-FEW : goal.returns-then-len-le-FEW
returns-then-len-le-FEW c =
    c.place_among.ensures
    ∙ (ap (position (λ other. bytes_eq c.args.name.now other)) c.as_slice.ensures.keys
    ∙ ap (position (λ other. bytes_eq c.args.name.now other)) c.self.view_is)

pub returns-else-len-le-FEW : goal.returns-else-len-le-FEW
returns-else-len-le-FEW c =
    c.get_index_of.ensures.index
    ∙ (ap (λ name. position (λ other. bytes_eq name other) c.self.inside.names.keys) c.of.ensures
    ∙ ap (position (λ other. bytes_eq c.args.name.now other)) c.self.view_is)
