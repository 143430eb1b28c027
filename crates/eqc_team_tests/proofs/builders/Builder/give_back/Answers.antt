use Rattle.std.proofs.Common.{◌<◌, sym, subst, arith}
use Rattle.eqc_tree.specs.Holding.{copies}
use Rattle.eqc_apply.specs.declared.reference.Ref.{Ref}
use Rattle.eqc_apply.specs.Extending.{holding_in}
use Rattle.eqc_apply.specs.Referring.{entry_of}
use Rattle.eqc_team_tests.proofs.Building.{is_there, gives_back}
use Rattle.eqc_team_tests.proofs.builders.Builder.give_back.Goals as goal

pub give_back-requires : goal.give_back-requires
give_back-requires g c =
    let s = c.args.self.now in
    let r = c.swap_remove-reference.result in
    subst (λ (q : Ref). 0 < copies (holding_in s.member.names) (entry_of q))
    (sym c.swap_remove-reference.ensures.value)
    (is_there s.references.items c.args.place r s.member (omega arith) s.building.held)

pub invariant_of-self : goal.invariant_of-self
invariant_of-self g c =
    let s = c.args.self.now in
    let t = c.swap_remove-reference in
    record {
      building =
          gives_back s.variables s.is_first s.references.items t.new.self.items c.args.place
          t.result s.member c.give_back.new.self s.building c.give_back.ensures.loses
          c.give_back.ensures.worker
          (omega arith) t.ensures.value t.ensures.items;
    }
