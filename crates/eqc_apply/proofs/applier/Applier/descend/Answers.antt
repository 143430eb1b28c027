use Rattle.std.proofs.Common.{◌≡◌, ◌++◌, ◌∷◌, [], rules}
use Rattle.eqc_plain.specs.declared.task.Task.TheVariants.{Low}
use Rattle.eqc_apply.specs.Meaning.{meaning_in}
use Rattle.eqc_apply.proofs.Meanings.{extends_trans, names_stay}
use Rattle.eqc_apply.proofs.Kept.{cells_stay}
use Rattle.eqc_apply.proofs.Turning.{step_stays}
use Rattle.eqc_apply.proofs.applier.Applier.descend.Goals as goal

pub invariant_of-self : goal.invariant_of-self
invariant_of-self c = record {
  cached = cells_stay c.args.self.now.names c.expand.new.names
      c.args.self.now.cells.cells.items c.expand.ensures.names c.args.self.now.cached;
}

pub invariant_of-self-2 : goal.invariant_of-self-2
invariant_of-self-2 c = record { cached = c.offer.new.self.cached }

pub returns-in-Ok-clause-names : goal.returns-in-Ok-clause-names
returns-in-Ok-clause-names c = extends_trans c.args.self.now.names c.expand.new.names
    c.offer.new.self.names c.expand.ensures.names c.offer.ensures.names

pub returns-in-Err-clause-names : goal.returns-in-Err-clause-names
returns-in-Err-clause-names c = extends_trans c.args.self.now.names c.expand.new.names
    c.offer.new.self.names c.expand.ensures.names c.offer.ensures.names

pub returns-in-Ok-clause-steps : goal.returns-in-Ok-clause-steps
returns-in-Ok-clause-steps c =
    let e = c.in_ok-e.e in
    let x = c.in_ok-e.ensures.ok in
    let items : c.push.new.self.items ≡ c.args.self.now.tasks.items ++ Low c.args.f c.args.g
    c.in_ok-e.e.variable c.in_ok-e.e.f.1 c.in_ok-e.e.g.1 ∷ [] = search rules in
    step_stays (meaning_in c.args.self.now.names) (meaning_in c.expand.new.names)
    (meaning_in c.offer.new.self.names) c.args.self.now.tasks.items
    c.push.new.self.items c.args.f c.args.g e.variable e.f.0 e.f.1 e.g.0 e.g.1 items
    (names_stay c.args.self.now.names c.expand.new.names c.expand.ensures.names)
    (names_stay c.expand.new.names c.offer.new.self.names c.offer.ensures.names) c.requires.f
    c.requires.g x.top x.below x.cofactors_f
    x.cofactors_g
