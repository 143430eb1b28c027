use Rattle.std.proofs.Common.{◌≡◌, true, false, ltb, refl, sym, ◌∙◌, eq-eqb, ne_eqb}
use Rattle.eqc_core.specs.Words.{times}
use Rattle.eqc_guard.proofs.Members.{any_stands}
use Rattle.eqc_guard.proofs.names.add_note.Goals as goal
use Rattle.eqc_guard.proofs.names.add_note.Goals.{then-x-eq0-via-then-x-eq0}
use Rattle.eqc_guard.proofs.names.add_note.Goals.{then-x-eq0-via-else-x-eq0+then-contains}

pub returns-then-x-eq0 : goal.returns-then-x-eq0
returns-then-x-eq0 c = elim c.then-x-eq0.branch [
  | then-x-eq0-via-then-x-eq0 w ↦ rw (eq-eqb c.args.x 0 w.if-x-eq0.true) refl
  | then-x-eq0-via-else-x-eq0+then-contains w ↦
      let is : ltb 0 (times c.args.x c.args.noted.now.items) ≡ true =
      sym (any_stands c.args.x c.args.noted.now.items) ∙ (cc) in
      rw (ne_eqb c.args.x 0 w.if-x-eq0.false, is) refl
]

pub returns : goal.returns
returns c =
    let is : ltb 0 (times c.args.x c.args.noted.now.items) ≡ false =
    sym (any_stands c.args.x c.args.noted.now.items) ∙ (cc) in
    c.push.ensures.items ∙ rw (ne_eqb c.args.x 0 c.if-x-eq0.false, is) refl
