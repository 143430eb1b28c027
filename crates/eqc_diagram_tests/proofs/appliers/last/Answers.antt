use Rattle.std.proofs.Common.{Option, IfSome, subst}
use Rattle.std.proofs.lemmas.List.Elements.{All-pop}
use Rattle.eqc_tree.specs.Holding.{IsNew}
use Rattle.eqc_apply.specs.declared.applier.Applier.{Applier}
use Rattle.eqc_apply.specs.Extending.{holding_in}
use Rattle.eqc_diagram_tests.proofs.appliers.last.Goals as goal

-- a member that is new
abbrev is_new : Applier → Type 0
is_new a = IsNew 3 (holding_in a.names)

pub returns-clause-rest : goal.returns-clause-rest
returns-clause-rest g c = (All-pop is_new c.args.members.now.items c.pop.new.self.items c.pop.result
    c.pop.ensures.items c.requires).0

pub returns-clause-three : goal.returns-clause-three
returns-clause-three g c = subst (λ (r : Option Applier). IfSome r is_new) c.in-Some.is
    (All-pop is_new c.args.members.now.items c.pop.new.self.items c.pop.result c.pop.ensures.items
    c.requires).1
