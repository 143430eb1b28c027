use Rattle.std.proofs.Common.{sym, ◌∙◌, ap, not, ◌++◌, ◌∷◌, true, ◌≡◌}
use Rattle.std.proofs.lemmas.Bool.{not-false}
use Rattle.eqc_netlist.specs.Names.{is_named, has_twice}
use Rattle.eqc_blif.specs.Words.{words}
use Rattle.eqc_netlist.proofs.NameLemmas.{twice_there}
use Rattle.eqc_blif.proofs.names.list.NameList.add_words.Goals as goal

pub returns-then-not-branch-clause-once : goal.returns-then-not-branch-clause-once
returns-then-not-branch-clause-once c =
    let there : is_named c.words.self c.in_ok-name.name ≡ true =
    not-false (is_named c.words.self c.in_ok-name.name) (sym c.in_ok-add.ensures.fresh
    ∙ c.if-not-branch.true) in
    let twice = twice_there c.words.self (words c.in-Some.others.now) c.in_ok-name.name there in
    let taken : c.in_ok-name.name ∷ words c.in-Some.others.now ≡ words c.words.rest.now =
    ap (λ name. name ∷ words c.in-Some.others.now) c.in_ok-name.ensures
    ∙ sym c.in-Some.ensures.words in
    ap not (sym twice ∙ ap has_twice (ap (λ rest. c.words.self ++ rest) taken ∙ c.words.invariant))
