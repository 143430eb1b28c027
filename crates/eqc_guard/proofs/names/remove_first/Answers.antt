use Rattle.std.proofs.Common.{◌≡◌, ◌==◌, Some, None, rules, tests, refl, sym, ◌∙◌}
use Rattle.std.specs.List.{position_from}
use Rattle.std.proofs.lemmas.Iterator.{YieldsList-from_slice}
use Rattle.std.proofs.lemmas.Iterator.Adapters.{position_from-zero}
use Rattle.std.proofs.lemmas.Iterator.Search.{position_from_yields_List}
use Rattle.eqc_core.proofs.Removals.{removed, absent}
use Rattle.eqc_guard.proofs.Members.{placed, unplaced}
use Rattle.eqc_guard.proofs.names.remove_first.Goals as goal

pub returns-in-Some : goal.returns-in-Some
returns-in-Some g c =
    let searched = position_from_yields_List (λ y. y == c.args.x) _ _ c.position.result
    c.position.ensures.ran (YieldsList-from_slice c.args.names.now.items (cc))
    (λ x b q k. search (rules, tests)) in
    let at : position_from (λ y. y == c.args.x) 0 c.args.names.now.items ≡ Some c.in-Some.i =
    sym (position_from-zero (λ y. y == c.args.x) c.args.names.now.items) ∙ sym searched
    ∙ (cc) in
    record {
      found = placed c.args.x c.args.names.now.items c.in-Some.i at;
      others =
          c.remove.ensures.items ∙ removed c.args.x c.args.names.now.items c.in-Some.i at;
      none =
          λ f. absurd (cc);
    }

pub returns-in-None : goal.returns-in-None
returns-in-None g c =
    let searched = position_from_yields_List (λ y. y == c.args.x) _ _ c.position.result
    c.position.ensures.ran (YieldsList-from_slice c.args.names.now.items (cc))
    (λ x b q k. search (rules, tests)) in
    let at : position_from (λ y. y == c.args.x) 0 c.args.names.now.items ≡ None =
    sym (position_from-zero (λ y. y == c.args.x) c.args.names.now.items) ∙ sym searched
    ∙ (cc) in
    record {
      found = unplaced c.args.x c.args.names.now.items at;
      others =
          sym (absent c.args.x c.args.names.now.items at);
      none = λ f. refl;
    }
