use Rattle.eqc_apply.specs.declared.plain_copy.Visit.TheVariants.{Reached}
use Rattle.eqc_apply.proofs.Meanings.{extends_trans}
use Rattle.eqc_apply.proofs.Copying.{last_held, last_inner, over_of, opened, on_ok}
use Rattle.eqc_apply.proofs.plain_copy.PlainCopy.open.Goals as goal

pub root-variable-requires : goal.root-variable-requires
root-variable-requires c = last_held c.args.names.now c.args.self.now c.args.self.now.visits.items
    (Reached c.args.x) c.requires.way

pub cofactors-requires-clause-held : goal.cofactors-requires-clause-held
cofactors-requires-clause-held c = c.root-variable.ensures.names.before.held c.args.x
    (last_held c.args.names.now c.args.self.now c.args.self.now.visits.items (Reached c.args.x)
    c.requires.way)

pub cofactors-requires-clause-below : goal.cofactors-requires-clause-below
cofactors-requires-clause-below c = c.root-variable.ensures.inner (last_inner c.args.names.now
    c.args.self.now c.args.self.now.visits.items (Reached c.args.x) c.requires.way c.requires.new)

pub returns-in_err-low-clause-names : goal.returns-in_err-low-clause-names
returns-in_err-low-clause-names c = extends_trans c.args.names.now c.root-variable.new.self
    c.cofactors.new.self c.root-variable.ensures.names c.cofactors.ensures.names

pub returns-clause-names : goal.returns-clause-names
returns-clause-names c = extends_trans c.args.names.now c.root-variable.new.self
    c.cofactors.new.self c.root-variable.ensures.names c.cofactors.ensures.names

pub returns-clause-advance : goal.returns-clause-advance
returns-clause-advance c =
    let n = c.args.names.now in
    let s = c.args.self.now in
    let r = c.root-variable.new.self in
    let m = c.cofactors.new.self in
    let two = last_inner n s s.visits.items (Reached c.args.x) c.requires.way c.requires.new in
    let over =
    over_of n r m c.args.x c.root-variable.result c.in_ok-low.low c.in_ok-low.high
    c.root-variable.ensures.names c.cofactors.ensures.names
    (last_held n s s.visits.items (Reached c.args.x) c.requires.way) c.root-variable.ensures.root
    (c.root-variable.ensures.inner two)
    c.in_ok-low.ensures.ok in
    on_ok c.put.result
    (λ is.
    opened n m s c.put.new.self s.visits.items c.args.x c.root-variable.result c.in_ok-low.low
    c.in_ok-low.high
    (extends_trans n r m c.root-variable.ensures.names c.cofactors.ensures.names) c.requires.way
    c.put.ensures.store
    c.put.ensures.places is over)
    c.put.ensures.visits
