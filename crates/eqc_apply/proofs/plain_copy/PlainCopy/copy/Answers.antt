use Rattle.std.proofs.Common.{◌≡◌, ◌++◌, ◌∷◌, [], refl, sym, ◌∙◌, rules}
use Rattle.eqc_apply.specs.declared.plain_copy.Visit.TheVariants.{Reached}
use Rattle.eqc_apply.proofs.Meanings.{extends_refl, extends_trans}
use Rattle.eqc_apply.proofs.Copying.{way_as, sets_out, within_places}
use Rattle.eqc_apply.proofs.plain_copy.PlainCopy.copy.Goals as goal

pub visits-init : goal.visits-init
visits-init c =
    let one : c.push.new.self.visits.items ≡ Reached c.args.f ∷ [] =
    rw c.requires.idle at c.in_ok-push.ensures.visits in
    let s = sets_out c.args.names.now c.args.self.now c.push.new.self c.args.f c.requires.faithful
    c.requires.held c.push.ensures.store c.push.ensures.places one in
    record { names = extends_refl c.args.names.now; way = s.0; coming = s.1 }

pub visit-requires : goal.visit-requires
visit-requires c =
    let was : c.visits.self.visits.items ≡ c.pop.new.self.items ++ c.in-Some.visit ∷ [] =
    search rules in
    way_as c.visits.names c.visits.self (record c.visits.self { visits = c.pop.new.self })
    c.visits.self.visits.items
    (c.pop.new.self.items ++ c.in-Some.visit ∷ []) refl refl was c.visits.invariant.way

pub visits-preserved : goal.visits-preserved
visits-preserved c =
    let was : c.visits.self.visits.items ≡ c.pop.new.self.items ++ c.in-Some.visit ∷ [] =
    search rules in
    let e = extends_trans c.args.names.now c.visits.names c.visit.new.names c.visits.invariant.names
    c.visit.ensures.names in
    record {
      names = e;
      way = c.in_ok-visit.ensures.advance.way;
      coming = c.in_ok-visit.ensures.advance.coming c.args.f (rw was at c.visits.invariant.coming);
    }

pub place-requires : goal.place-requires
place-requires c = within_places c.visits.names c.visits.self c.args.f c.recall_laws.ensures
    c.visits.invariant.way.faithful (c.visits.invariant.names.before.held c.args.f c.requires.held)

pub returns-clause-ok : goal.returns-clause-ok
returns-clause-ok c = c.visits.invariant.way.faithful.placed c.args.f c.in-Some-place.number
    (sym c.place.ensures ∙ c.in-Some-place.is)

pub returns-in_err-visit-clause-names : goal.returns-in_err-visit-clause-names
returns-in_err-visit-clause-names c = extends_trans c.args.names.now c.visits.names
    c.visit.new.names c.visits.invariant.names c.visit.ensures.names
