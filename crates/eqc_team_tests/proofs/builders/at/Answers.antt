use Rattle.std.proofs.Common.{◌<◌, sym, subst, arith}
use Rattle.eqc_tree.specs.Holding.{copies}
use Rattle.eqc_apply.specs.declared.reference.Ref.{Ref}
use Rattle.eqc_apply.specs.Extending.{holding_in}
use Rattle.eqc_apply.specs.Referring.{entry_of}
use Rattle.eqc_team_tests.proofs.Building.{is_there}
use Rattle.eqc_team_tests.proofs.builders.at.Goals as goal

pub returns : goal.returns
returns g c = λ member held.
    let r = c.index-references-place.result in
    subst (λ (q : Ref). 0 < copies (holding_in member.names) (entry_of q))
    (sym c.index-references-place.is) (is_there c.args.references.now c.args.place r member
    (omega arith) held)
