use Rattle.std.proofs.Common.{subst, arith}
use Rattle.eqc_sums.specs.Adding.{AreEqualWords}
use Rattle.eqc_datapath.proofs.AddingLaws.{shown_none}
use Rattle.eqc_datapath.proofs.adding.show_word.Goals as goal
use Rattle.eqc_datapath.proofs.adding.show_word.Goals.{then-is_shown, else-is_shown}

pub returns-clause-known : goal.returns-clause-known
returns-clause-known c =
    let new = c.show.new.self.reduction.sweep in
    let ps = c.in_ok-firsts.field-0.firsts.items in
    let qs = c.in_ok-firsts.field-0.seconds.items in
    elim c.if-is_shown.branch [
      | then-is_shown w ↦
          let shown : AreEqualWords new ps qs = subst (λ ls. AreEqualWords new ls qs)
          c.deref.ensures.value
          (subst (λ ls. AreEqualWords new c.deref.result.now ls) c.deref-2.ensures.value
          (c.in_ok-is_shown.ensures.equal w.if-is_shown.true)) in
          rw w.alike-is (w.mark_first.ensures.known c.args.task.now.steps.now.pair c.requires.known
          (λ k less. shown_none c.args.task.now.steps.now c.args.sums.now.reduction.sweep new
          c.args.literals.now c.args.word.now ps qs k
          c.in_ok-is_shown.ensures.extends c.requires.inside c.in_ok-firsts.ensures shown
          (omega (arith, less, w.len.ensures))))
      | else-is_shown w ↦ rw w.alike-is c.requires.known
    ]
