use Rattle.std.proofs.Common.{ℕ, List, ap, sym, subst}
use Rattle.eqc_tree.specs.Holding.{IsNew}
use Rattle.eqc_apply.specs.Extending.{holding_of}
use Rattle.eqc_guard.specs.Known.{Known}
use Rattle.eqc_apply.proofs.Teams.{none_held}
use Rattle.eqc_apply.proofs.members.first_member.Goals as goal

pub returns-clause-lead : goal.returns-clause-lead
returns-clause-lead c = record {
  new = subst (λ (cs : List ℕ). IsNew c.args.vars (holding_of c.args.vars
      c.in_ok-worker.worker.known cs)) (sym c.new-2.ensures.items) (none_held c.args.vars
      c.in_ok-worker.worker.known);
  number = ap (λ (k : Known). k.core.number) c.in_ok-worker.ensures.new;
  sizes_are = ap (λ (k : Known). k.core.sizes) c.in_ok-worker.ensures.new;
  given_is = ap (λ (k : Known). k.core.given) c.in_ok-worker.ensures.new;
}
