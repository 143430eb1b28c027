use Rattle.std.proofs.Common.{◌≡◌, ℕ, List, nat_lt, length, arith, sym, ◌∙◌, ap}
use Rattle.eqc_blif.specs.Netlist.{ModelOf}
use Rattle.eqc_netlist.specs.Names.{has_twice}
use Rattle.eqc_hierarchy.specs.Hierarchy.{model}
use Rattle.eqc_hierarchy.proofs.NamingLaws.{named_there, input_place}
use Rattle.eqc_hierarchy.proofs.naming.Naming.port.Goals as goal

pub inputs-requires : goal.inputs-requires
inputs-requires c =
    let there = named_there c.args.self.now c.args.m c.args.name.now c.requires in
    let same = ap length c.self.view_is in
    omega (arith, there, same)

pub returns-clause-input : goal.returns-clause-input
returns-clause-input c =
    let inputs : c.inputs.result.now ≡ (model c.args.self.now c.args.m).inputs =
    c.inputs.ensures.names ∙ ap (λ (l : List ModelOf). (model l c.args.m).inputs) c.self.view_is
    in
    ap (λ (xs : List (List ℕ)). nat_lt c.position-position.result (length xs)) inputs
    ∙ input_place (model c.args.self.now c.args.m) c.args.name.now c.position-position.result
    (sym (ap has_twice inputs) ∙ c.inputs.ensures.once) c.position-position.ensures.first
