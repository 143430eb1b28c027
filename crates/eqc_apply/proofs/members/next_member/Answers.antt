use Rattle.std.proofs.Common.{ℕ, List, ◌∙◌, sym, subst}
use Rattle.eqc_tree.specs.Holding.{IsNew}
use Rattle.eqc_apply.specs.Extending.{holding_of}
use Rattle.eqc_apply.proofs.Teams.{splits, off_has, lead_left, new_member, number_left, sizes_left}
use Rattle.eqc_apply.proofs.Teams.{sizes_split, given_left, number_split}
use Rattle.eqc_apply.proofs.members.next_member.Goals as goal

pub invariant_of-lead : goal.invariant_of-lead
invariant_of-lead c =
    let l = c.args.lead.now in
    let s = splits l.names.variables l.names.counts.items l.cells.cells.items l.names.worker
    c.split.new.self c.split.result c.split.ensures.split c.split.ensures.still l.names.once
    l.cached in
    ((s.0, tt), (s.1, tt))

pub returns-in-Ok-clause-lead : goal.returns-in-Ok-clause-lead
returns-in-Ok-clause-lead c = λ n z g h.
    let l = c.args.lead.now in
    let s = c.in-Ok.ensures.split in (
      record {
        new = lead_left n z.workers g l.names.variables l.names.counts.items l.names.worker.known
            c.split.new.self.known s.known h.new;
        number = number_left l.names.worker.known c.split.new.self.known s.known ∙ h.number;
        sizes_are = sizes_left l.names.worker.known c.split.new.self.known s.known ∙ h.sizes_are;
        given_is = given_left g l.names.worker.known c.split.new.self.known s.known h.given_is;
      },
      subst (λ (cs : List ℕ). IsNew n (holding_of l.names.variables c.in-Ok.worker.known cs))
          (sym c.new.ensures.items)
          (new_member n l.names.variables c.in-Ok.worker.known l.names.worker.known
          l.names.counts.items h.new),
      number_split g l.names.worker.known c.in-Ok.worker.known s.other_known h.given_is,
      sizes_split l.names.worker.known c.in-Ok.worker.known s.other_known ∙ h.sizes_are,
    )

pub invariant_of-result : goal.invariant_of-result
invariant_of-result c =
    let l = c.args.lead.now in
    record {
      once = off_has l.names.variables l.names.counts.items c.new.result.items l.names.worker
          c.in-Ok.worker c.in-Ok.ensures.split.other_known c.new.ensures.items l.names.once;
    }
