use Rattle.std.proofs.Common.{◌≡◌, List, ℕ, All, subst, get_or}
use Rattle.std.proofs.lemmas.List.{take_all}
use Rattle.eqc_miter.specs.Asking.{AreSomeOf, IsAskedIn, IsQuestionOf, outputs_asked}
use Rattle.eqc_miter.proofs.MiterLaws.{questions_more, questions_stay}
use Rattle.eqc_miter.proofs.AskingLaws.{some_left, some_asked, asked_but_one, asked_with}
use Rattle.eqc_miter.proofs.asking.questions_of.Goals as goal

pub loop-k-preserved-in_default : goal.loop-k-preserved-in_default
loop-k-preserved-in_default c = (
  c.question_of.ensures.inside,
  questions_stay c.args.steps.now.pair c.loop-k.sweep c.question_of.new.sweep c.loop-k.all.items
      c.question_of.ensures.extends c.loop-k.invariant.1,
  some_left c.args.outputs.now c.loop-k.k (outputs_asked c.loop-k.all.items) c.loop-k-test.true
      c.loop-k.invariant.2,
  asked_but_one c.args.steps.now c.args.literals.now c.args.outputs.now c.loop-k.k
      c.loop-k.all.items c.loop-k-test.true (c.in_ok-question.ensures.none c.in_default.is)
      c.loop-k.invariant.3,
)

pub loop-k-preserved : goal.loop-k-preserved
loop-k-preserved c =
    let p = c.args.steps.now.pair in
    let is : IsQuestionOf c.args.steps.now.pair c.question_of.new.sweep c.in-Some.question =
    rw c.in-Some.is at c.in_ok-question.ensures.question in
    let output : c.in-Some.question.output ≡ get_or c.args.outputs.now c.loop-k.k 0 =
    rw c.in-Some.is at c.in_ok-question.ensures.output in
    rw c.in_ok-push.ensures.items (
      c.question_of.ensures.inside,
      questions_more p c.loop-k.sweep c.question_of.new.sweep c.loop-k.all.items c.in-Some.question
          c.question_of.ensures.extends c.loop-k.invariant.1 is,
      some_asked c.args.outputs.now c.loop-k.k c.loop-k.all.items c.in-Some.question
          c.loop-k-test.true output c.loop-k.invariant.2,
      asked_with c.args.steps.now c.args.literals.now c.args.outputs.now c.loop-k.k
          c.loop-k.all.items c.in-Some.question c.loop-k-test.true output c.loop-k.invariant.3,
    )

pub returns-clause-outputs : goal.returns-clause-outputs
returns-clause-outputs c =
    subst (λ (xs : List ℕ). AreSomeOf (outputs_asked c.loop-k.all.items) xs)
    (take_all c.loop-k.k c.args.outputs.now c.loop-k-test.false) c.loop-k.invariant.2

pub returns-clause-asked : goal.returns-clause-asked
returns-clause-asked c =
    subst (All (IsAskedIn c.args.steps.now c.args.literals.now c.loop-k.all.items))
    (take_all c.loop-k.k c.args.outputs.now c.loop-k-test.false) c.loop-k.invariant.3
