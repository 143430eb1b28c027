use Rattle.std.proofs.Common.{◌<◌, if◌then◌else◌, eqb, sym, subst}
use Rattle.eqc_guard.specs.Standing.{Standing}
use Rattle.eqc_guard.specs.Making.{IsEntry}
use Rattle.eqc_guard.proofs.Making.{entry_there}
use Rattle.eqc_guard.proofs.Trying.{count_on}
use Rattle.eqc_guard.proofs.worker.Worker.reclaim.Goals as goal

pub load_count-requires : goal.load_count-requires
load_count-requires c =
    let entry : IsEntry c.self.inside.seat.me.0.core c.args.word c.args.x =
    subst (λ (s : Standing). IsEntry s.known.core c.args.word c.args.x) (sym c.self.view_is)
    c.requires.entry in
    subst (λ (s : Standing). c.args.x < s.known.core.sizes.names) c.self.view_is
    (entry_there c.self.inside.seat.me.0 c.args.x c.args.word c.self.invariant.worker.known
    entry)

pub returns-clause-copies : goal.returns-clause-copies
returns-clause-copies c =
    let t = c.try_reclaim.ensures.copies in (
      t.0,
      t.1,
      count_on c.args.self.now c.load_count.new.self c.try_reclaim.new.self c.args.x
          c.load_count.result t.0 (if eqb t.0 1 then 0 else t.0) c.load_count.ensures.step
          c.load_count.ensures.copies t.2,
    )
