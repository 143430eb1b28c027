-- What is found of literals that are true where an output differs, or where the assumption allows
-- the inputs' values.
use Rattle.std.proofs.Common.{◌≡◌, ℕ, ◌<◌, Bool, true, false, true≢false, ◌&&◌, List, [], ◌∷◌}
use Rattle.std.proofs.Common.{length, find, get_or, is_none, refl, sym, ◌∙◌, ap, ap₂, Option, Some}
use Rattle.std.proofs.Common.{None, IfSome, Vec, Global, subst, arith, All, ◌++◌}
use Rattle.std.proofs.lemmas.List.Elements.{All-push, All-weaker}
use Rattle.eqc_tree.specs.Assigned.{assigned, assignments}
use Rattle.eqc_netlist.specs.Graph.{value_of}
use Rattle.eqc_xag.specs.declared.node.Node.{Node}
use Rattle.eqc_xag.specs.Graph.{differ, literal_value, Extends}
use Rattle.eqc_sweep.specs.Sweeping.{HasValue}
use Rattle.eqc_witness.specs.declared.witness.Witness.{Witness}
use Rattle.eqc_witness.specs.declared.witness.Witness.TheVariants.{Unknown}
use Rattle.eqc_witness.specs.Witnesses.{IsFoundOf, IsWitness, is_true_under}
use Rattle.eqc_witness.proofs.WitnessLemmas.{found_as}
use Rattle.eqc_pair.specs.PairOf.{PairOf, IsPair, first_variables, second_variables, second_signals}
use Rattle.eqc_build.specs.Building.{reference_of}
use Rattle.eqc_build.specs.Steps.{StepsOf, inputs_under, roots_of, assumed_root, value_at}
use Rattle.eqc_build.proofs.PairLaws.{pair_matched}
use Rattle.eqc_build.proofs.StepLaws.{first_made, second_made, root_first, root_second}
use Rattle.eqc_compare.specs.Verdict.{is_different, is_allowed, differs_under}
use Rattle.eqc_compare.specs.Comparing.{netlist_of, assumption_of, values_differ_at, differs_at}
use Rattle.eqc_literals.specs.Literals.{IsInside}
use Rattle.eqc_miter.specs.declared.asking.Question.{Question}
use Rattle.eqc_miter.specs.declared.asking.Answer.{Answer}
use Rattle.eqc_miter.specs.Asking.{IsAnswerOf, IsQuestionOf, IsWitnessAt, SaysAllowed}
use Rattle.eqc_miter.specs.Asking.{SaysDifferent, TellsVacuous}
use Rattle.eqc_compare.proofs.AllowingLaws.{allowed_is, allowed_without, root_says, not_without}
use Rattle.eqc_compare.proofs.DifferenceLaws.{differs_is}
use Rattle.eqc_compare.proofs.VerdictLemmas.{some_allowed}

differ_is : (x y : Bool) → differ x y ≡ is_different x y
differ_is true y = refl
differ_is false y = refl

-- ---- what literals say

-- just one of the literals of an output's two steps is true where its two values differ
values_differ : (g : StepsOf) (nodes : List Node) (literals : List (Option ℕ)) (roots : List ℕ)
    (o x y : ℕ) (a : ℕ → Bool) →
    IsInside g nodes literals → o < length g.pair.first.outputs → roots ≡ roots_of g o
    → reference_of literals (get_or roots 0 0) ≡ Some x
    → reference_of literals (get_or roots 1 0) ≡ Some y
    → differ (literal_value nodes a x) (literal_value nodes a y) ≡ values_differ_at g.pair o a
unfolding values_differ_at
values_differ g nodes literals roots o x y a is inside are some other =
    let p = g.pair in
    let s = get_or p.first.output_signals o 0 in
    let t = get_or (second_signals p) o 0 in
    let first : literal_value nodes a x ≡ value_of g.pair.first
    (inputs_under (first_variables g.pair) a) (get_or g.pair.first.output_signals o 0) =
    (is.values.each (get_or roots 0 0) x some).value a
    ∙ (ap (value_at p a) (ap (λ r. get_or r 0 0) are ∙ root_first g o)
    ∙ first_made g a s is.lawful (is.lawful.lawful.first_flat.outputs_within o inside)) in
    let second : literal_value nodes a y ≡ value_of g.pair.second
    (inputs_under (second_variables g.pair) a) (get_or (second_signals g.pair) o 0) =
    (is.values.each (get_or roots 1 0) y other).value a
    ∙ (ap (value_at p a) (ap (λ r. get_or r 1 0) are ∙ root_second g o)
    ∙ second_made g a t is.lawful ((pair_matched p is.lawful.lawful).within o inside)) in
    ap₂ differ first second
    ∙ differ_is (value_of p.first (inputs_under (first_variables p) a) s)
    (value_of p.second (inputs_under (second_variables p) a) t)

-- the conjunction of that and of what the assumption says
pub says_different : (g : StepsOf) (nodes between new : List Node) (literals : List (Option ℕ))
    (roots : List ℕ) (o x y allowed d l : ℕ) →
    IsInside g nodes literals → o < length g.pair.first.outputs → roots ≡ roots_of g o
    → reference_of literals (get_or roots 0 0) ≡ Some x
    → reference_of literals (get_or roots 1 0) ≡ Some y
    → SaysAllowed g.pair nodes allowed → Extends nodes between
    → HasValue between d (λ a. differ (literal_value nodes a x) (literal_value nodes a y))
    → HasValue new l (λ a. literal_value between a allowed && literal_value between a d)
    → SaysDifferent g.pair new o l
unfolding differs_at
says_different g nodes between new literals roots o x y allowed d l is inside are some other says
    more has both = record {
      within = both.within;
      value = λ a.
          both.value a
          ∙ ap₂ (λ (b c : Bool). b && c)
          (more.same allowed a says.within ∙ says.value a)
          (has.value a ∙ values_differ g nodes literals roots o x y a is inside are some other);
    }

-- the literal of the assumption's step, if it has one
pub says_allowed : (g : StepsOf) (nodes : List Node) (literals : List (Option ℕ)) (root : ℕ)
    (x : Option ℕ) → IsInside g nodes literals → root ∷ [] ≡ assumed_root g
    → x ≡ reference_of literals root → IfSome x (SaysAllowed g.pair nodes)
says_allowed g nodes literals root (Some l) is are some =
    let has = is.values.each root l (sym some) in
    record {
      within = has.within;
      value = λ a. has.value a
          ∙ root_says g root a is.lawful are;
    }
says_allowed g nodes literals root None is are none = record {}

-- without an assumption each is allowed
pub says_always : (g : StepsOf) (nodes : List Node) (l : ℕ) → [] ≡ assumed_root g
    → HasValue nodes l (λ _. true) → SaysAllowed g.pair nodes l
says_always g nodes l none has = record {
  within = has.within;
  value = λ a. has.value a
      ∙ sym (allowed_without g a none);
}

-- ---- what is found of them

-- what is found of the literal of an output is found of the output
pub answer_at : (p : PairOf) (nodes : List Node) (o l : ℕ) (variables : List ℕ) (found : Witness)
    → IsPair p → variables ≡ first_variables p → o < length p.first.outputs
    → SaysDifferent p nodes o l
    → IsWitness nodes l variables found → IsWitnessAt p o found
answer_at p nodes o l variables found lawful are inside says is =
    let differs = differs_is p o (λ a. literal_value nodes a l) lawful inside (record {
      each =
          says.value;
    }) in
    let agrees : (a : List Bool) → length a ≡ length p.first.inputs
    → is_true_under nodes l (first_variables p) a ≡ differs_under (netlist_of p.first)
    (netlist_of p.second) (assumption_of p) (get_or p.first.outputs o []) a = differs.agrees in
    found_as (length p.first.inputs) (is_true_under nodes l (first_variables p))
    (differs_under (netlist_of p.first) (netlist_of p.second) (assumption_of p)
    (get_or p.first.outputs o [])) found agrees
    (rw (are, differs.size) at is)

-- what is asked stays where the graph goes on
question_stays : (p : PairOf) (old new : List Node) (q : Question) → Extends old new
    → IsQuestionOf p old q → IsQuestionOf p new q
question_stays p old new q extends is = record {
  within = is.within;
  says = record {
    within = omega (arith, is.says.within, extends.longer);
    value =
        λ a. extends.same q.literal a is.says.within ∙ is.says.value a;
  };
}

pub questions_stay : (p : PairOf) (old new : List Node) (qs : List Question) → Extends old new
    → All (IsQuestionOf p old) qs → All (IsQuestionOf p new) qs
questions_stay p old new qs extends are = All-weaker (IsQuestionOf p old) (IsQuestionOf p new)
    (λ q is. question_stays p old new q extends is) qs are

-- one question more
pub questions_more : (p : PairOf) (old new : List Node) (qs : List Question) (q : Question)
    → Extends old new → All (IsQuestionOf p old) qs → IsQuestionOf p new q
    → All (IsQuestionOf p new) (qs ++ q ∷ [])
questions_more p old new qs q extends are is = All-push (IsQuestionOf p new) qs q
    (questions_stay p old new qs extends are) is

-- the answer to a question is what is found of its output
pub answer_for : (p q : PairOf) (o : ℕ) (a : Answer) → p ≡ q → a.output ≡ o → IsAnswerOf p a
    → IsWitnessAt q o a.witness
answer_for p q o a same at is = subst (λ r. IsWitnessAt r o a.witness) same
    (subst (λ k. IsWitnessAt p k a.witness) at is)

-- what is found of the assumption's literal is found of the assignments that are allowed
pub allowed_found : (p : PairOf) (nodes : List Node) (l : ℕ) (variables : List ℕ) (found : Witness)
    → IsPair p → variables ≡ first_variables p →
    SaysAllowed p nodes l → IsWitness nodes l variables found
    → IsFoundOf (length p.first.inputs) (is_allowed (netlist_of p.first) (assumption_of p)) found
allowed_found p nodes l variables found lawful are says is =
    let size : length (first_variables p) ≡ length p.first.inputs =
    (pair_matched p lawful).first.size in
    let agrees : (a : List Bool) → length a ≡ length p.first.inputs
    → is_true_under nodes l (first_variables p) a ≡ is_allowed (netlist_of p.first)
    (assumption_of p) a =
    λ a long. says.value (assigned (first_variables p) a) ∙ allowed_is p a lawful in
    found_as (length p.first.inputs) (is_true_under nodes l (first_variables p))
    (is_allowed (netlist_of p.first) (assumption_of p)) found agrees (rw (are, size) at is)

-- so some is allowed, or none
pub least_allowed : (p : PairOf) (values : List Bool)
    → find (is_allowed (netlist_of p.first) (assumption_of p)) (assignments (length p.first.inputs))
    ≡ Some values → TellsVacuous p false
least_allowed p values is = sym (ap is_none is)

pub never_allowed : (p : PairOf) → find (is_allowed (netlist_of p.first) (assumption_of p))
    (assignments (length p.first.inputs)) ≡ None → TellsVacuous p true
never_allowed p is = sym (ap is_none is)

pub seen_allowed : (p : PairOf) (values : List Bool) → length values ≡ length p.first.inputs
    → is_allowed (netlist_of p.first) (assumption_of p) values ≡ true → TellsVacuous p false
seen_allowed p values long is = sym (some_allowed (netlist_of p.first) (assumption_of p)
    (λ forbids. true≢false (sym is ∙ forbids values long)))

pub tells_without : (g : StepsOf) → [] ≡ assumed_root g → TellsVacuous g.pair false
tells_without g none = not_without g none

pub allowed_as : (p : PairOf) (found : Witness) (seen : Option (Vec Bool Global))
    (values : Vec Bool Global) → found ≡ Unknown seen →
    seen ≡ Some values → IsFoundOf (length p.first.inputs) (is_allowed (netlist_of p.first)
    (assumption_of p)) found → TellsVacuous p false
allowed_as p found seen values is some are =
    let seen_are : IsFoundOf (length p.first.inputs) (is_allowed (netlist_of p.first)
    (assumption_of p)) (Unknown (Some values)) =
    subst (IsFoundOf (length p.first.inputs) (is_allowed (netlist_of p.first) (assumption_of p)))
    (is ∙ ap Unknown some) are in
    seen_allowed p values.items seen_are.0 seen_are.1
