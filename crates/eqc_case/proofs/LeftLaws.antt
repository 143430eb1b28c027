-- What is told where a run is stopped, of the pair of what it was given.
use Rattle.std.proofs.Common.{◌≡◌, inl, inr, ℕ, Bool, true, false, true≢false, not, List, refl, sym}
use Rattle.std.proofs.Common.{◌∙◌, ap, subst, Option, Some, None, Result, Ok, Err, IfOk, IfErr}
use Rattle.std.proofs.Common.{IfSome, is_some, if◌then◌else◌}
use Rattle.std.specs.declared.alloc.AllocError.{AllocError}
use Rattle.eqc_tree.specs.declared.stopping.Stop.{Stop}
use Rattle.eqc_tree.specs.declared.stopping.Stop.TheVariants as stops
use Rattle.eqc_netlist.specs.Graph.{FlatOf}
use Rattle.eqc_netlist.specs.declared.refusal.Refusal.{Refusal}
use Rattle.eqc_hierarchy.specs.Codes.{flat_code}
use Rattle.eqc_flat.specs.Flattened.{IsFlatOf}
use Rattle.eqc_pair.specs.PairOf.{PairOf}
use Rattle.eqc_pair.specs.declared.refused.Side.{Side}
use Rattle.eqc_pair.specs.declared.refused.Side.TheVariants as side
use Rattle.eqc_compare.specs.Alike.{AreEqual, IsKnown}
use Rattle.eqc_compare.specs.declared.alike.Alike.{Alike}
use Rattle.eqc_compare.specs.Verdict.{NetlistOf}
use Rattle.eqc_compare.specs.Verdict as verdicts
use Rattle.eqc_pair.specs.Matched.{chosen_outputs, has_all, same_names}
use Rattle.eqc_report.specs.Report.{ReportOf, equivalent, differs, vacuous, refused, stopped}
use Rattle.eqc_report.specs.ReportView.{report_of}
use Rattle.eqc_report.specs.Left.{IsTold}
use Rattle.eqc_report.specs.Seen.{IsSeenOf}
use Rattle.eqc_report.specs.declared.report.Report.{Report}
use Rattle.eqc_report.specs.declared.report.Report.TheVariants as kind
use Rattle.eqc_report.specs.declared.undecided.Left.{Left}
use Rattle.eqc_report.specs.declared.undecided.Seen.{Seen}
use Rattle.eqc_report.specs.declared.undecided.Undecided.{Undecided}
use Rattle.eqc_case.specs.declared.told.Told.{Told}
use Rattle.eqc_case.specs.declared.warning.Warnings.{Warnings}
use Rattle.eqc_case.specs.Answer.{MainOf, GivenOf, first_found, second_found, compared}
use Rattle.eqc_case.specs.Answer.{assumption_found, assumption_answer, assumed_answer}
use Rattle.eqc_case.specs.Answer.{assumption_code, or_code, code_of_order, inputs_of, outputs_of}
use Rattle.eqc_case.specs.Answer.{netlist_of_model, pair_answer, models_answer, found_answer}
use Rattle.eqc_case.specs.Answer.{texts_answer, IsAccepting}
use Rattle.eqc_case.specs.Refusing.{IsRefused}
use Rattle.eqc_case.specs.Telling.{IsToldRefusal, IsToldWith, Tells}
use Rattle.eqc_case.specs.Left.{IsFlatFound, IsUnder, IsPairOfFlats, IsPairOfFound, IsPairOfGiven}
use Rattle.eqc_case.specs.Left.{TellsLeft, IsToldOf, none_compared, was_compared, IsNoneTold}
use Rattle.eqc_case.specs.Left.{IsStopToldOf, of_none, of_pair, IsToldBeside}
use Rattle.eqc_case.proofs.CheckLemmas.{is_accepting}

-- ---- the pair of what a run is given

-- a pair under the flat netlist of a main model
pub under_main : (found : Result MainOf (ℕ × ℕ)) (m : MainOf) (h : FlatOf) (old p : PairOf)
    → found ≡ Ok m → IsFlatOf m.0 m.1 h → p ≡ record old { assumes = Some h } → IsUnder found old p
under_main found m h old p there is same = record {
  netlist = h;
  flat =
      subst (λ (x : Result MainOf (ℕ × ℕ)). IsFlatFound x h) (sym there) is;
  pair = same;
}

-- a pair without an assumption, where none is given
pub unassumed : (given : GivenOf) (f g : FlatOf) (p : PairOf) → given.assume ≡ None → p.first ≡ f
    → p.second ≡ g → p.assumes ≡ None → p.chosen ≡ given.outputs → IsPairOfFlats given f g p
unassumed given f g p asked first second none chosen = record {
  first = first;
  second = second;
  assumes = rw (asked, none) tt;
  chosen = chosen;
}

-- and one under the assumption that is given
pub assumed : (given : GivenOf) (f g : FlatOf) (text : List ℕ) (old p : PairOf)
    → given.assume ≡ Some text → old.first ≡ f → old.second ≡ g → old.chosen ≡ given.outputs →
    IsUnder (assumption_found given.options.bytes text) old p → IsPairOfFlats given f g p
assumed given f g text old p asked first second chosen under = record {
  first = ap (λ (x : PairOf). x.first) under.pair ∙ first;
  second = ap (λ (x : PairOf). x.second) under.pair ∙ second;
  assumes = rw (asked, ap (λ (x : PairOf). x.assumes) under.pair) under.flat;
  chosen = ap (λ (x : PairOf). x.chosen) under.pair ∙ chosen;
}

-- the pair of the flat netlists of two main models is that of the models
pub flats_found : (given : GivenOf) (f g : FlatOf) (m n : MainOf) (p : PairOf) → IsFlatOf m.0 m.1 f
    → IsFlatOf n.0 n.1 g → IsPairOfFlats given f g p → IsPairOfFound given (Ok m) (Ok n) p
flats_found given f g m n p mf ng is = record {
  flat = subst (λ (x : FlatOf). IsFlatOf m.0 m.1 x) (sym is.first) mf;
  other = subst (λ (x : FlatOf). IsFlatOf n.0 n.1 x) (sym is.second) ng;
  assumes = is.assumes;
  chosen = is.chosen;
}

-- and where they are those that a run compares, it is that of what the run is given
pub found_given : (given : GivenOf) (m n : MainOf) (p : PairOf)
    → first_found given.options.bytes given.texts ≡ Ok m
    → second_found given.options.bytes given.texts ≡ Ok n →
    IsPairOfFound given (Ok m) (Ok n) p → IsPairOfGiven given p
found_given given m n p one other is = rw (one, other) is

-- ---- what is told of it

-- what is told of a pair of one kind is told of one of another kind
pub told_weaker : {A : Type 0} (P Q : PairOf → Type 0) (result : Result A Stop)
    (old new : Undecided) → ((p : PairOf) → P p → Q p) → IsToldOf P result old new
    → IsToldOf Q result old new
told_weaker P Q result old new weaker (none_compared stops same) = none_compared stops same
told_weaker P Q result old new weaker (was_compared p is told) = was_compared p (weaker p is) told

-- a stop of a comparison tells the outputs of its pair that aren't known to be equal
pub stopped_left : (p q : PairOf) (result : Result Report Stop) (alike : Alike)
    (old new : Undecided) → q ≡ p → IsKnown q alike
    → IfErr result (λ _. IsTold q alike.equal.items new.left) →
    IfErr result (TellsLeft p old new)
stopped_left p q (Ok report) alike old new same known told = tt
stopped_left p q (Err stop) alike old new same known told = inl (record {
  marks = alike.equal.items;
  equal = subst (λ (x : PairOf). AreEqual x alike.equal.items) same known.equal;
  told = subst (λ (x : PairOf). IsTold x alike.equal.items new.left) same told;
})

-- behind a refusal nothing was compared
pub refused_tells : (P : PairOf → Type 0) (s : Side) (refusal : Refusal) (result : Result Report
    Stop) (left : Undecided) → IsRefused s refusal result → IsToldOf P result left left
refused_tells P s refusal (Ok report) left h = none_compared tt refl
refused_tells P s refusal (Err stop) left h = none_compared h.1 refl

pub told_refusal_tells : (P : PairOf → Type 0) (s : Side) (refusal : Refusal)
    (result : Result Told Stop) (left : Undecided) → IsToldRefusal s refusal result
    → IsToldOf P result left left
told_refusal_tells P s refusal (Ok told) left h = none_compared tt refl
told_refusal_tells P s refusal (Err stop) left h = none_compared h.1 refl

-- warnings leave what is told of a stop, and want of memory for them is the only stop behind a
-- comparison that was made
pub warned_tells : (P : PairOf → Type 0) (report : Result Report Stop) (warnings : Result Warnings
    AllocError) (result : Result Told Stop) (old new : Undecided) →
    IsToldWith report warnings result → IsToldOf P report old new → IsToldOf P result old new
warned_tells P (Ok report) (Ok warnings) result old new is told =
    subst (λ (r : Result Told Stop). IsToldOf P r old new) (sym is) (by told)
  where
    by : IsToldOf {A = Report} P (Ok report) old new
        → IsToldOf {A = Told} P (Ok (record { report = report; warnings = warnings })) old new
    by (none_compared stops same) = none_compared tt same
    by (was_compared p h of_it) = was_compared p h (record {
      seen = of_it.seen;
      kept = of_it.kept;
      left = tt;
    })
warned_tells P (Ok report) (Err error) result old new is told =
    subst (λ (r : Result Told Stop). IsToldOf P r old new) (sym is) (by told)
  where
    by : IsToldOf {A = Report} P (Ok report) old new → IsToldOf {A = Told} P (Err stops.Memory) old
        new
    by (none_compared stops same) = none_compared refl same
    by (was_compared p h of_it) = was_compared p h (record {
      seen = of_it.seen;
      kept = tt;
      left =
          inr (refl, of_it.kept);
    })
warned_tells P (Err stop) warnings result old new is told =
    subst (λ (r : Result Told Stop). IsToldOf P r old new) (sym is) (by told)
  where
    by : IsToldOf {A = Report} P (Err stop) old new → IsToldOf {A = Told} P (Err stop) old new
    by (none_compared stops same) = none_compared stops same
    by (was_compared p h of_it) = was_compared p h (record {
      seen = of_it.seen;
      kept = tt;
      left =
          of_it.left;
    })

-- ---- no answer on texts is a stop

abbrev pub IsNoStop : ReportOf → Type 0
IsNoStop equivalent = Unit {0}
IsNoStop (differs differences) = Unit {0}
IsNoStop vacuous = Unit {0}
IsNoStop (refused at line code) = Unit {0}
IsNoStop (stopped code) = ⊥

accepting_no_stop : (report : ReportOf) → IsAccepting report → IsNoStop report
accepting_no_stop equivalent h = tt
accepting_no_stop (differs differences) h = tt
accepting_no_stop vacuous h = tt
accepting_no_stop (refused at line code) h = tt
accepting_no_stop (stopped code) h = h

code_no_stop : (s : Side) (code : Option ℕ) (rest : ReportOf) → IsNoStop rest
    → IsNoStop (or_code s code rest)
code_no_stop s None rest h = h
code_no_stop s (Some code) rest h = tt

refusal_no_stop : (b : Bool) (s : Side) (code : ℕ) (rest : ReportOf) → IsNoStop rest
    → IsNoStop (if b then refused s 0 code else rest)
refusal_no_stop true s code rest h = tt
refusal_no_stop false s code rest h = h

compared_no_stop : (given : GivenOf) (f g : NetlistOf) (h : Option NetlistOf)
    → IsNoStop (compared given f g h)
compared_no_stop given f g h =
    accepting_no_stop (compared given f g h) (is_accepting f g (verdicts.verdict given.options.every
    f g h (chosen_outputs given.outputs f.outputs)))

assumption_no_stop : (given : GivenOf) (f g : NetlistOf) (found : Result MainOf (ℕ × ℕ))
    → IsNoStop (assumption_answer given f g found)
assumption_no_stop given f g (Err fault) = tt
assumption_no_stop given f g (Ok h) =
    let rest = compared given f g (Some (netlist_of_model h)) in
    let code = assumption_code f.inputs h in
    code_no_stop side.Assume (flat_code h.0 h.1 given.options.inputs) (or_code side.Assume code
    rest) (code_no_stop side.Assume code rest (compared_no_stop given f g
    (Some (netlist_of_model h))))

assumed_no_stop : (given : GivenOf) (f g : NetlistOf) (assume : Option (List ℕ))
    → IsNoStop (assumed_answer given f g assume)
assumed_no_stop given f g None = compared_no_stop given f g None
assumed_no_stop given f g (Some text) =
    assumption_no_stop given f g (assumption_found given.options.bytes text)

pair_no_stop : (m n : MainOf) (given : GivenOf) → IsNoStop (pair_answer m n given)
pair_no_stop m n given =
    let rest = assumed_answer given (netlist_of_model m) (netlist_of_model n) given.assume in
    let code = code_of_order (inputs_of m) given.order in
    let others : Bool = not (has_all (outputs_of m) given.outputs) in
    let outputs : Bool = not (same_names (outputs_of m) (outputs_of n)) in
    let inputs : Bool = not (same_names (inputs_of m) (inputs_of n)) in
    let last = or_code side.Order code rest in
    let third : ReportOf = if others then refused side.Pair 0 43 else last in
    let second : ReportOf = if outputs then refused side.Pair 0 42 else third in
    refusal_no_stop inputs side.Pair 41 second
    (refusal_no_stop outputs side.Pair 42 third
    (refusal_no_stop others side.Pair 43 last
    (code_no_stop side.Order code rest (assumed_no_stop given (netlist_of_model m)
    (netlist_of_model n) given.assume))))

models_no_stop : (m n : MainOf) (given : GivenOf) → IsNoStop (models_answer m n given)
models_no_stop m n given =
    let rest = pair_answer m n given in
    let code = flat_code n.0 n.1 given.options.inputs in
    code_no_stop side.First (flat_code m.0 m.1 given.options.inputs) (or_code side.Second code rest)
    (code_no_stop side.Second code rest (pair_no_stop m n given))

found_no_stop : (first second : Result MainOf (ℕ × ℕ)) (given : GivenOf)
    → IsNoStop (found_answer first second given)
found_no_stop (Err fault) second given = tt
found_no_stop (Ok m) (Err fault) given = tt
found_no_stop (Ok m) (Ok n) given = models_no_stop m n given

-- ---- what a run tells

none_seen : (p : PairOf) (seen : Option Seen) → is_some seen ≡ false → IfSome seen (IsSeenOf p)
none_seen p None none = tt
none_seen p (Some seen) none = absurd (true≢false none)

-- beside an answer on texts nothing is told
answer_told : (given : GivenOf) (report : Report) (left : Undecided) → report_of report
    ≡ texts_answer given → IsToldBeside given report left
answer_told given kind.Equivalent left is = tt
answer_told given (kind.Differs differences) left is = tt
answer_told given kind.Vacuous left is = tt
answer_told given (kind.Refused refusal) left is = tt
answer_told given (kind.Stopped stop) left is =
    absurd (subst IsNoStop (sym is) (found_no_stop (first_found given.options.bytes given.texts)
    (second_found given.options.bytes given.texts) given))

-- beside a stop that is told which was told of the comparison, where nothing was told before
stop_told : (given : GivenOf) (stop : Stop) (none left : Undecided) → IsNoneTold none
    → IsToldOf {A = Told} (IsPairOfGiven given) (Err stop) none left → IsStopToldOf given stop left
stop_told given stop none left at_first (none_compared stops same) =
    of_none stops (rw same at_first)
stop_told given stop none left at_first (was_compared p is told) =
    of_pair p is (told.seen (none_seen p none.seen at_first.seen))
    (elim told.left [
      | inl up ↦ inl up
      | inr memory ↦
          inr (memory.0, ap (λ (l : Left). l.count) memory.1 ∙ at_first.count)
    ])

-- what is told beside the report that an answer becomes
pub told_beside : (given : GivenOf) (answer : Result Told Stop) (told : Told)
    (none left : Undecided) → IsNoneTold none → Tells given answer →
    IsToldOf (IsPairOfGiven given) answer none left → IfOk answer (λ x. told ≡ x)
    → IfErr answer (λ stop. told.report ≡ kind.Stopped stop)
    → IsToldBeside given told.report left
told_beside given (Ok x) told none left at_first tells of_it same _ =
    answer_told given told.report left (ap (λ (t : Told). report_of t.report) same ∙ tells.0)
told_beside given (Err stop) told none left at_first tells of_it _ same =
    rw same (stop_told given stop none left at_first of_it)
