use Rattle.std.proofs.Common.{◌≡◌, ◌==◌, ◌∙◌, ℕ, List, [], ◌∷◌, None, get_or, refl, sym, ap}
use Rattle.std.specs.Prelude.{position}
use Rattle.std.proofs.lemmas.Bool.{eqb-true}
use Rattle.std.proofs.lemmas.List.Quantifiers.{position-Some}
use Rattle.eqc_netlist.specs.Rule.{rule_code}
use Rattle.eqc_netlist.specs.declared.rule.Rule.{Rule}
use Rattle.eqc_netlist.specs.declared.rule.Rule.TheVariants.{NoSuchModel, Recursion, UnknownFormal}
use Rattle.eqc_netlist.specs.declared.rule.Rule.TheVariants.{FormalTwice, MissingInput, DrivenTwice}
use Rattle.eqc_netlist.specs.declared.rule.Rule.TheVariants.{Undriven, Circle, TooLarge, ManyInputs}
use Rattle.eqc_netlist.specs.declared.rule.Rule.TheVariants.{Memory}
use Rattle.eqc_netlist.proofs.fault.rule_of.Goals as goal

all : List Rule
all = NoSuchModel ∷ Recursion ∷ UnknownFormal ∷ FormalTwice ∷ MissingInput ∷ DrivenTwice ∷ Undriven
    ∷ Circle ∷ TooLarge ∷ ManyInputs ∷ []

-- each rule but memory's has a place
memory_alone : (rule : Rule) → position (λ r. rule_code r == rule_code rule) all ≡ None
    → rule_code Memory ≡ rule_code rule
unfolding all
memory_alone NoSuchModel e = absurd (cc)
memory_alone Recursion e = absurd (cc)
memory_alone UnknownFormal e = absurd (cc)
memory_alone FormalTwice e = absurd (cc)
memory_alone MissingInput e = absurd (cc)
memory_alone DrivenTwice e = absurd (cc)
memory_alone Undriven e = absurd (cc)
memory_alone Circle e = absurd (cc)
memory_alone TooLarge e = absurd (cc)
memory_alone ManyInputs e = absurd (cc)
memory_alone Memory e = refl

pub returns-in-Some : goal.returns-in-Some
unfolding all
returns-in-Some c = λ rule e.
    eqb-true (rule_code (get_or all c.in-Some.k NoSuchModel)) c.args.code.now
    (position-Some (λ r. rule_code r == c.args.code.now) all c.in-Some.k NoSuchModel
    (sym c.in-Some.ensures)).1

pub returns-in-None : goal.returns-in-None
unfolding all
returns-in-None c = λ rule e. memory_alone rule (ap (λ (n : ℕ). position (λ r. rule_code r == n)
    all) e ∙ sym c.in-None.ensures) ∙ e
