use Rattle.eqc_apply.specs.Meaning.{meaning_in}
use Rattle.eqc_apply.proofs.Meanings.{extends_trans, names_stay}
use Rattle.eqc_apply.proofs.Turning.{comes_low, comes_after, leads_known}
use Rattle.eqc_apply.proofs.applier.Applier.turn.Goals as goal

pub resume-requires : goal.resume-requires
resume-requires g c =
    let n = c.args.self.now.names in
    let k = c.known.new.self.names in
    let w = c.args.whole.now.value in
    rw c.known.ensures.tasks
    (leads_known (meaning_in n) (meaning_in k) (meaning_in k) c.args.op c.args.self.now.tasks.items
    c.args.self.now.tasks.items w.0 w.1
    c.args.f c.args.g (names_stay n k c.known.ensures.names) c.in-Some.x c.requires.leads
    c.in-Some.ensures.right)

pub returns-in-Some-clause-names : goal.returns-in-Some-clause-names
returns-in-Some-clause-names g c = extends_trans c.args.self.now.names c.known.new.self.names
    c.resume.new.self.names c.known.ensures.names c.resume.ensures.names

pub returns-in-Some-clause-turn : goal.returns-in-Some-clause-turn
returns-in-Some-clause-turn g c =
    let n = c.args.self.now.names in
    let k = c.known.new.self.names in
    let r = c.resume.new.self in
    let w = c.args.whole.now.value in
    comes_after (meaning_in n) (meaning_in k) (meaning_in r.names) c.args.op
    c.args.self.now.tasks.items r.tasks.items w.0 w.1 c.args.f c.args.g
    (names_stay n k c.known.ensures.names) c.resume.result c.resume.ensures.names.variables
    (rw c.known.ensures.tasks at c.resume.ensures.turn)

pub returns-in_err-f-in-None-clause-names : goal.returns-in_err-f-in-None-clause-names
returns-in_err-f-in-None-clause-names g c = extends_trans c.args.self.now.names
    c.known.new.self.names c.descend.new.self.names c.known.ensures.names c.descend.ensures.names

pub returns-in_ok-f-in-None-clause-names : goal.returns-in_ok-f-in-None-clause-names
returns-in_ok-f-in-None-clause-names g c = extends_trans c.args.self.now.names
    c.known.new.self.names c.descend.new.self.names c.known.ensures.names c.descend.ensures.names

pub returns-in_ok-f-in-None-clause-turn : goal.returns-in_ok-f-in-None-clause-turn
returns-in_ok-f-in-None-clause-turn g c =
    let n = c.args.self.now.names in
    let k = c.known.new.self.names in
    let r = c.descend.new.self in
    let w = c.args.whole.now.value in
    comes_low (meaning_in n) (meaning_in k) (meaning_in r.names) c.args.op
    c.args.self.now.tasks.items r.tasks.items w.0 w.1 c.args.f c.args.g
    (names_stay n k c.known.ensures.names) c.in_ok-f-in-None.f c.in_ok-f-in-None.g c.requires.f
    c.requires.g c.requires.leads
    (rw c.known.ensures.tasks at c.in_ok-f-in-None.ensures.steps)
