use Rattle.std.proofs.Common.{sym, ◌∙◌, true, ◌≡◌, ◌++◌, ℕ, List, subst}
use Rattle.std.proofs.lemmas.Bool.{not-false, some_since}
use Rattle.std.proofs.lemmas.Result.{IfOk-weaker}
use Rattle.eqc_netlist.specs.Names.{is_named}
use Rattle.eqc_blif.specs.Words.{words}
use Rattle.eqc_netlist.specs.Names.{StandsTwice}
use Rattle.eqc_netlist.proofs.NameLemmas.{twice_at}
use Rattle.eqc_blif.proofs.NameLemmas.{word_left}
use Rattle.eqc_blif.proofs.names.list.NameList.first_twice.Goals as goal

pub unwrap-requires : goal.unwrap-requires
unwrap-requires c = some_since _ _ _ c.split_word.ensures.words (word_left c.words.self
    (words c.words.rest.now) _ c.words.invariant c.requires c.as_slice.ensures.once)

pub returns-then-not-branch : goal.returns-then-not-branch
returns-then-not-branch c =
    let all = c.args.self.now ++ words c.args.line.now in
    let name = c.in_ok-name.name in
    let cut = rw c.unwrap.ensures at c.split_word.ensures.words in
    let there : is_named c.words.self name ≡ true = not-false (is_named c.words.self name)
    (sym c.in_ok-add.ensures.fresh ∙ c.if-not-branch.true) in
    let twice = twice_at c.words.self (words c.words.rest.now) (words c.unwrap.result.1.now) all
    c.unwrap.result.0.now name c.words.invariant cut c.in_ok-name.ensures there in
    let P : List ℕ → Type 0 = λ n. StandsTwice all n in
    IfOk-weaker _ _ P (λ n is. subst P (c.in_ok-name.ensures ∙ sym is) twice)
    c.new-then-not-branch.ensures
