-- The reports on texts are those that they define.
use Rattle.std.proofs.Common.{◌≡◌, ◌⊎◌, inl, inr, ℕ, ◌<◌, ◌==◌, Bool, true, false, not, ◌&&◌, List}
use Rattle.std.proofs.Common.{[], ◌∷◌, length, map, get_or, refl, sym, ◌∙◌, ap, ap₂, subst, arith}
use Rattle.std.proofs.Common.{Option, Some, None, Result, Ok, Err, IfOk, IfErr, All, if◌then◌else◌}
use Rattle.std.proofs.lemmas.List.Elements.{All-filter, All-from_get_or, All-get_or, All-head}
use Rattle.std.proofs.lemmas.List.Elements.{All-tail}
use Rattle.std.proofs.lemmas.Bool.{eqb-true}
use Rattle.std.specs.Option.{option_map}
use Rattle.eqc_tree.specs.declared.stopping.Stop.{Stop}
use Rattle.eqc_tree.specs.declared.stopping.Stop.TheVariants as stops
use Rattle.eqc_netlist.specs.declared.refusal.Refusal.{Refusal}
use Rattle.eqc_netlist.specs.Graph.{FlatOf, IsFlat, value_of}
use Rattle.eqc_hierarchy.specs.Signals.{output_value}
use Rattle.eqc_hierarchy.specs.Codes.{flat_code}
use Rattle.eqc_flat.specs.Flattened.{IsFlatOf}
use Rattle.eqc_report.specs.declared.report.Report.{Report}
use Rattle.eqc_pair.specs.declared.refused.Side.{Side}
use Rattle.eqc_pair.specs.declared.refused.Side.TheVariants as side
use Rattle.eqc_pair.specs.declared.refused.Refused.{Refused}
use Rattle.eqc_compare.specs.Verdict.{NetlistOf, values_for, first_value, second_value}
use Rattle.eqc_compare.specs.Verdict.{has_two_values, is_allowed, allows_none, least_difference}
use Rattle.eqc_compare.specs.Verdict.{with_difference, differences, told}
use Rattle.eqc_compare.specs.Verdict as verdicts
use Rattle.eqc_report.specs.Report.{DifferenceOf, ReportOf, refused, shown, differences_report}
use Rattle.eqc_report.specs.Report.{verdict_report, comparison}
use Rattle.eqc_report.specs.ReportView.{report_of}
use Rattle.eqc_pair.specs.Matched.{position_of, has_all, same_names, is_chosen, chosen_outputs}
use Rattle.eqc_pair.specs.Matched.{order_code}
use Rattle.eqc_pair.specs.PairOf.{PairOf, pair_refusal, pair_refused, order_refused, order_refusal}
use Rattle.eqc_pair.specs.PairOf.{assumption_refused, assumption_refusal, no_memory}
use Rattle.eqc_report.specs.PairReport.{pair_report}
use Rattle.eqc_case.specs.Refusing.{IsRefused, refusal_report, flat_answer, flat_assumed}
use Rattle.eqc_case.specs.Answer.{MainOf, GivenOf, inputs_of, outputs_of, netlist_of_model}
use Rattle.eqc_case.specs.Answer.{compared, assumption_found, assumption_code, assumption_answer}
use Rattle.eqc_case.specs.Answer.{assumed_answer, or_code, code_of_order, pair_answer}
use Rattle.eqc_case.specs.Answer.{models_answer, IsAccepting, MayStop, Answers, as_wanted}
use Rattle.eqc_compare.specs.Comparing.{netlist_of}
use Rattle.eqc_pair.proofs.PlaceLemmas.{place_itself, place_below, all_named, name_at}
use Rattle.eqc_pair.proofs.OrderedLemmas.{both_ways}
use Rattle.eqc_compare.proofs.VerdictLemmas.{DiffersAlike, AllowsAlike, verdict_agrees}
use Rattle.eqc_case.proofs.CheckLemmas.{is_accepting}

-- an output of a model's flat netlist has its value
flat_value : (m : MainOf) (f : FlatOf) (output : List ℕ) (o : ℕ) (a : ℕ → Bool) → IsFlat f
    → IsFlatOf m.0 m.1 f → o < length f.outputs →
    get_or f.outputs o [] ≡ output → (netlist_of f).value output a ≡ output_value m.0 m.1 a output
flat_value m f output o a h is inside at =
    let place : position_of f.outputs output ≡ o = ap (position_of f.outputs) (sym at)
    ∙ place_itself f.outputs o h.outputs_differ inside in
    ap (λ k. value_of f a (get_or f.output_signals k 0)) place
    ∙ (is.values a o inside ∙ ap (output_value m.0 m.1 a) at)

-- values that agree make reports that agree
alike : (f g : FlatOf) (m n : MainOf) → IsFlat f → IsFlat g → IsFlatOf m.0 m.1 f
    → IsFlatOf n.0 n.1 g → same_names f.outputs g.outputs ≡ true → (o : ℕ) (a : List Bool)
    → o < length f.outputs
    → (first_value (netlist_of f) (get_or f.outputs o []) a ≡ first_value (netlist_of_model m)
    (get_or f.outputs o []) a) × (second_value
    (netlist_of f) (netlist_of g) (get_or f.outputs o []) a ≡ second_value (netlist_of_model m)
    (netlist_of_model n) (get_or f.outputs o []) a)
alike f g m n hf hg mf ng same o a inside =
    let named = all_named g.outputs f.outputs ((both_ways f.outputs g.outputs same).1) o inside in
    let below = place_below g.outputs (get_or f.outputs o []) named in (
      flat_value m f (get_or f.outputs o []) o (values_for f.inputs a f.inputs) hf mf inside refl
          ∙ ap (λ (names : List (List ℕ)). output_value m.0 m.1 (values_for names a names)
          (get_or f.outputs o [])) mf.inputs,
      flat_value n g (get_or f.outputs o []) (position_of g.outputs (get_or f.outputs o []))
          (values_for f.inputs a g.inputs) hg ng below (name_at g.outputs (get_or f.outputs o [])
          named)
          ∙ (ap (λ (names : List (List ℕ)). output_value n.0 n.1 (values_for names a g.inputs)
          (get_or f.outputs o [])) mf.inputs
          ∙ ap (λ (names : List (List ℕ)). output_value n.0 n.1 (values_for (inputs_of m) a names)
          (get_or f.outputs o [])) ng.inputs),
    )

-- what is allowed is told by the names of the first netlist's inputs alone
allowed_alike : (f : FlatOf) (m : MainOf) (h : Option NetlistOf) (a : List Bool)
    → IsFlatOf m.0 m.1 f → is_allowed (netlist_of f) h a ≡ is_allowed (netlist_of_model m) h a
allowed_alike f m None a mf = refl
allowed_alike f m (Some h) a mf =
    ap (λ names. h.value (get_or h.outputs 0 []) (values_for names a h.inputs)) mf.inputs

-- an output is shown alike, and differs alike, in flat netlists and in models
pub record AreAlike (f g m n : NetlistOf) (h : Option NetlistOf) (output : List ℕ) : Type 0 where
  pub shows : (a : List Bool) → shown f g (output, a) ≡ shown m n (output, a)
  pub differs : DiffersAlike f g h m n h output

shows_alike : (f g m n : NetlistOf) (h : Option NetlistOf) (outputs : List (List ℕ))
    → All (AreAlike f g m n h) outputs →
    map (shown f g) (differences f g h outputs) ≡ map (shown m n) (differences f g h outputs)
shows_alike f g m n h [] all = refl
shows_alike f g m n h (o ∷ outputs) all =
    by (least_difference f g h o) (shows_alike f g m n h outputs (All-tail (AreAlike f g m n h) o
    outputs all))
  where
    by : (l : Option (List Bool)) → map (shown f g) (differences f g h outputs)
        ≡ map (shown m n) (differences f g h outputs) →
        map (shown f g) (with_difference o l (differences f g h outputs))
        ≡ map (shown m n) (with_difference o l (differences f g h outputs))
    by None rest = rest
    by (Some a) rest = ap (λ d. d ∷ map (shown f g) (differences f g h outputs))
        ((All-head (AreAlike f g m n h) o outputs all).shows a)
        ∙ ap (λ ds. shown m n (o, a) ∷ ds) rest

told_alike : (every : Bool) (p q : List ℕ × List Bool → DifferenceOf) (ds : List (List ℕ
    × List Bool)) → map p ds ≡ map q ds → map p (told every ds) ≡ map q (told every ds)
told_alike true p q ds e = e
told_alike false p q [] e = refl
told_alike false p q (d ∷ ds) e = ap (λ l. get_or l 0 (p d) ∷ []) e

-- reports on outputs that are alike are one
reports_alike : (every : Bool) (f g m n : NetlistOf) (h : Option NetlistOf)
    (outputs : List (List ℕ)) → length f.inputs ≡ length m.inputs → AllowsAlike f h m h
    → All (AreAlike f g m n h) outputs
    → comparison every f g h outputs ≡ comparison every m n h outputs
reports_alike every f g m n h outputs size allows all =
    by (allows_none f h)
    ∙ ap (verdict_report m n)
    (verdict_agrees f g h m n h size every outputs allows
    (All-from_get_or (DiffersAlike f g h m n h) outputs []
    (λ i inside. (All-get_or (AreAlike f g m n h) outputs i [] inside all).differs)))
  where
    by : (none : Bool) →
        verdict_report f g (if none then verdicts.vacuous else verdicts.compared
        (told every (differences f g h outputs))) ≡ verdict_report m n
        (if none then verdicts.vacuous else verdicts.compared
        (told every (differences f g h outputs)))
    by true = refl
    by false = ap differences_report (told_alike every (shown f g) (shown m n)
        (differences f g h outputs) (shows_alike f g m n h outputs all))

-- so they are of two models and their flat netlists
compared_alike : (given : GivenOf) (f g : FlatOf) (m n : MainOf) (h : Option NetlistOf) → IsFlat f
    → IsFlat g → IsFlatOf m.0 m.1 f → IsFlatOf n.0 n.1 g → same_names f.outputs g.outputs ≡ true
    → compared given (netlist_of f) (netlist_of g) h ≡ compared given (netlist_of_model m)
    (netlist_of_model n) h
compared_alike given f g m n h hf hg mf ng same =
    reports_alike given.options.every (netlist_of f) (netlist_of g) (netlist_of_model m)
    (netlist_of_model n) h (chosen_outputs given.outputs f.outputs) (ap length mf.inputs)
    (record { alike = λ a long. allowed_alike f m h a mf })
    (All-filter (is_chosen given.outputs) (AreAlike (netlist_of f) (netlist_of g)
    (netlist_of_model m) (netlist_of_model n) h) f.outputs
    (All-from_get_or (AreAlike (netlist_of f) (netlist_of g) (netlist_of_model m)
    (netlist_of_model n) h) f.outputs [] (λ o inside. record {
      shows = λ a. let v = alike f g m n hf hg mf ng same o a inside in
          rw (v.0, v.1, mf.inputs) refl;
      differs =
          record {
            alike = λ a long. let v = alike f g m n hf hg mf ng same o a inside in
                rw (v.0, v.1) (ap (λ b. b && has_two_values (netlist_of_model m)
                (netlist_of_model n) (get_or f.outputs o []) a) (allowed_alike f m h a mf));
          };
    })))
    ∙ ap (λ outputs. comparison given.options.every (netlist_of_model m) (netlist_of_model n) h
    (chosen_outputs given.outputs outputs)) mf.outputs

assumed_alike : (given : GivenOf) (f g : FlatOf) (m n : MainOf) (assume : Option (List ℕ))
    → IsFlat f → IsFlat g → IsFlatOf m.0 m.1 f → IsFlatOf n.0 n.1 g → same_names f.outputs g.outputs
    ≡ true
    → assumed_answer given (netlist_of f) (netlist_of g) assume ≡ assumed_answer given
    (netlist_of_model m) (netlist_of_model n) assume
assumed_alike given f g m n None hf hg mf ng same = compared_alike given f g m n None hf hg mf ng
    same
assumed_alike given f g m n (Some text) hf hg mf ng same =
    by (assumption_found given.options.bytes text)
  where
    by : (found : Result MainOf (ℕ × ℕ)) → assumption_answer given (netlist_of f) (netlist_of g)
        found ≡ assumption_answer given (netlist_of_model m) (netlist_of_model n) found
    by (Err fault) = refl
    by (Ok h) =
        ap (λ r. or_code side.Assume (flat_code h.0 h.1 given.options.inputs)
        (or_code side.Assume (assumption_code f.inputs h) r)) (compared_alike given f g m n
        (Some (netlist_of_model h)) hf hg mf ng same)
        ∙ ap (λ names. or_code side.Assume (flat_code h.0 h.1 given.options.inputs)
        (or_code side.Assume (assumption_code names h) (compared given (netlist_of_model m)
        (netlist_of_model n) (Some (netlist_of_model h)))))
        mf.inputs

-- the refusals of a pair before a report
abbrev guarded : Bool → Bool → Bool → ReportOf → ReportOf
guarded a b c rest = if not a then refused side.Pair 0 41 else if not b then refused side.Pair 0 42
    else if not c then refused side.Pair 0 43 else rest

guarded_alike : (a b c : Bool) (x y : ReportOf) → (b ≡ true → x ≡ y)
    → guarded a b c x ≡ guarded a b c y
guarded_alike false b c x y e = refl
guarded_alike true false c x y e = refl
guarded_alike true true false x y e = refl
guarded_alike true true true x y e = e refl

refusals_guard : (a b c : Bool) (order : Option Refused) (rest : ReportOf) →
    refusal_report
    (if not a then Some (pair_refused 41) else if not b then Some (pair_refused 42) else if not c
    then Some (pair_refused 43) else order)
    rest ≡ guarded a b c (refusal_report order rest)
refusals_guard false b c order rest = refl
refusals_guard true false c order rest = refl
refusals_guard true true false order rest = refl
refusals_guard true true true order rest = refl

order_coded : (inputs : List (List ℕ)) (order : Option (List ℕ)) (rest : ReportOf)
    → refusal_report (order_refusal inputs order) rest
    ≡ or_code side.Order (code_of_order inputs order) rest
order_coded inputs None rest = refl
order_coded inputs (Some text) rest = by (order_code inputs text)
  where
    by : (code : Option ℕ) → refusal_report (option_map order_refused code) rest
        ≡ or_code side.Order code rest
    by None = refl
    by (Some code) = refl

-- the answer of two models' flat netlists is that of the models
flat_pair : (f g : FlatOf) (m n : MainOf) (given : GivenOf) → IsFlat f → IsFlat g
    → IsFlatOf m.0 m.1 f → IsFlatOf n.0 n.1 g → flat_answer f g given ≡ pair_answer m n given
flat_pair f g m n given hf hg mf ng =
    refusals_guard (same_names f.inputs g.inputs) (same_names f.outputs g.outputs)
    (has_all f.outputs given.outputs)
    (order_refusal f.inputs given.order) (assumed_answer given (netlist_of f) (netlist_of g)
    given.assume)
    ∙ guarded_alike (same_names f.inputs g.inputs) (same_names f.outputs g.outputs)
    (has_all f.outputs given.outputs) _ _
    (λ same. order_coded f.inputs given.order (assumed_answer given (netlist_of f) (netlist_of g)
    given.assume)
    ∙ ap (or_code side.Order (code_of_order f.inputs given.order)) (assumed_alike given f g m n
    given.assume hf hg mf ng same))
    ∙ named (assumed_answer given (netlist_of_model m) (netlist_of_model n) given.assume)
  where
    named : (rest : ReportOf) →
        guarded (same_names f.inputs g.inputs) (same_names f.outputs g.outputs)
        (has_all f.outputs given.outputs)
        (or_code side.Order (code_of_order f.inputs given.order) rest)
        ≡ guarded (same_names (inputs_of m) (inputs_of n)) (same_names (outputs_of m)
        (outputs_of n)) (has_all (outputs_of m) given.outputs)
        (or_code side.Order (code_of_order (inputs_of m) given.order) rest)
    named rest = rw (mf.inputs, ng.inputs, mf.outputs, ng.outputs) refl

-- the answer of two main models' flat netlists
pub flat_models : (f g : FlatOf) (m n : MainOf) (given : GivenOf) → IsFlat f → IsFlat g
    → flat_code m.0 m.1 given.options.inputs ≡ None → flat_code n.0 n.1 given.options.inputs ≡ None
    →
    IsFlatOf m.0 m.1 f → IsFlatOf n.0 n.1 g → flat_answer f g given ≡ models_answer m n given
flat_models f g m n given hf hg em en mf ng = flat_pair f g m n given hf hg mf ng
    ∙ sym (accepted em en)
  where
    accepted : flat_code m.0 m.1 given.options.inputs ≡ None
        → flat_code n.0 n.1 given.options.inputs ≡ None → models_answer m n given
        ≡ pair_answer m n given
    accepted em en = rw (em, en) refl

-- hierarchies that are refused
pub first_fault : (m n : MainOf) (given : GivenOf) (code : ℕ) (result : Result Report Stop) →
    IsRefused side.First (record { line = 0; code = code }) result → (code ≡ 72)
    ⊎ (flat_code m.0 m.1 given.options.inputs ≡ Some code) →
    IfOk result (λ report. report_of report ≡ models_answer m n given)
first_fault m n given code (Err stop) h e = tt
first_fault m n given code (Ok report) h e = elim e [
  | inl none ↦ absurd (h.0 none)
  | inr is ↦ ap report_of h.1 ∙ rw is refl
]

pub second_fault : (m n : MainOf) (given : GivenOf) (code : ℕ) (result : Result Report Stop)
    → flat_code m.0 m.1 given.options.inputs ≡ None →
    IsRefused side.Second (record { line = 0; code = code }) result → (code ≡ 72)
    ⊎ (flat_code n.0 n.1 given.options.inputs ≡ Some code) →
    IfOk result (λ report. report_of report ≡ models_answer m n given)
second_fault m n given code (Err stop) none h e = tt
second_fault m n given code (Ok report) none h e = elim e [
  | inl memory ↦ absurd (h.0 memory)
  | inr is ↦ ap report_of h.1 ∙ rw (none, is) refl
]

-- what was reported answers
pub answers : (wanted got : ReportOf) → got ≡ wanted → Answers wanted got
answers wanted got e = subst (Answers wanted) (sym e) as_wanted

pub reported : (result : Result Report Stop) (a b : ReportOf)
    → IfOk result (λ report. report_of report ≡ a) → a ≡ b → IfOk result (λ report. report_of report
    ≡ b)
reported (Ok report) a b h e = h ∙ e
reported (Err stop) a b h e = tt

-- what may stop one report may stop an equal one
pub stop_alike : (result : Result Report Stop) (a b : ReportOf) → IfErr result (MayStop a) → a ≡ b
    → IfErr result (MayStop b)
stop_alike (Ok report) a b h e = tt
stop_alike (Err stop) a b h e = subst (λ (wanted : ReportOf). MayStop wanted stop) e h

-- what may stop a comparison
may_stop : (wanted : ReportOf) (stop : Stop) → IsAccepting wanted → MayStop wanted stop
may_stop wanted stops.NodeLimit is = is
may_stop wanted stops.Memory is = tt
may_stop wanted stops.References is = is
may_stop wanted stops.Threads is = is

pub compared_stop : (given : GivenOf) (f g : NetlistOf) (h : Option NetlistOf)
    (result : Result Report Stop) → IfErr result (MayStop (compared given f g h))
compared_stop given f g h (Ok report) = tt
compared_stop given f g h (Err stop) = may_stop (compared given f g h) stop
    (is_accepting f g (verdicts.verdict given.options.every f g h (chosen_outputs given.outputs
    f.outputs)))

-- the report on a pair is that on its chosen outputs
pub pair_compared : (given : GivenOf) (p : PairOf) (f g : FlatOf) (h : Option FlatOf) → p.first ≡ f
    → p.second ≡ g → p.assumes ≡ h → p.chosen ≡ given.outputs
    → pair_report given.options.every p ≡ compared given (netlist_of f) (netlist_of g)
    (option_map netlist_of h)
pair_compared given p f g h first second assume chosen = rw (← first, ← second, ← assume, ← chosen)
    refl

-- behind the checks of a pair the assumption decides
pub behind_pair : (f g : FlatOf) (given : GivenOf) → pair_refusal f g given.outputs given.order
    ≡ None → assumed_answer given (netlist_of f) (netlist_of g) given.assume ≡ flat_answer f g given
behind_pair f g given none =
    sym (ap (λ o. refusal_report o (assumed_answer given (netlist_of f) (netlist_of g)
    given.assume)) none)

-- a refusal of two netlists as a pair
pub pair_reported : (f g : FlatOf) (given : GivenOf) (r : Refused) (result : Result Report Stop) →
    IsRefused r.side (record { line = r.line; code = r.code }) result → (r ≡ no_memory)
    ⊎ (pair_refusal f g given.outputs given.order ≡ Some r) →
    IfOk result (λ report. report_of report ≡ flat_answer f g given)
pair_reported f g given r (Err stop) h e = tt
pair_reported f g given r (Ok report) h e = elim e [
  | inl none ↦ absurd (h.0 (ap (λ (x : Refused). x.code) none))
  | inr is ↦ ap report_of h.1
      ∙ sym (ap (λ o. refusal_report o (assumed_answer given (netlist_of f) (netlist_of g)
      given.assume)) is)
]

-- ---- assumptions

-- an assumption's text that is refused
pub assumption_fault : (given : GivenOf) (f g : NetlistOf) (found : Result MainOf (ℕ × ℕ))
    (refusal : Refusal) (result : Result Report Stop) → IsRefused side.Assume refusal result
    → (refusal ≡ record { line = 0; code = 72 }) ⊎ (found ≡ Err (refusal.line, refusal.code))
    → IfOk result (λ report. report_of report ≡ assumption_answer given f g found)
assumption_fault given f g found refusal (Err stop) h e = tt
assumption_fault given f g found refusal (Ok report) h e = elim e [
  | inl memory ↦ absurd (h.0 (ap (λ (x : Refusal). x.code) memory))
  | inr is ↦ ap report_of h.1 ∙ sym (ap (assumption_answer given f g) is)
]

-- a hierarchy of it that is
pub assumption_hierarchy : (given : GivenOf) (f g : NetlistOf) (found : Result MainOf (ℕ × ℕ))
    (h : MainOf) (code : ℕ) (result : Result Report Stop) →
    found ≡ Ok h → IsRefused side.Assume (record { line = 0; code = code }) result
    → (code ≡ 72) ⊎ (flat_code h.0 h.1 given.options.inputs ≡ Some code)
    → IfOk result (λ report. report_of report ≡ assumption_answer given f g found)
assumption_hierarchy given f g found h code (Err stop) there r e = tt
assumption_hierarchy given f g found h code (Ok report) there r e = elim e [
  | inl memory ↦ absurd (r.0 memory)
  | inr is ↦
      ap report_of r.1
      ∙ sym (ap (assumption_answer given f g) there
      ∙ ap (λ c. or_code side.Assume c (or_code side.Assume (assumption_code f.inputs h)
      (compared given f g (Some (netlist_of_model h))))) is)
]

-- a flat netlist that is refused as an assumption
pub assumption_reported : (given : GivenOf) (f g h : FlatOf) (r : Refused) (result : Result Report
    Stop) →
    IsRefused r.side (record { line = r.line; code = r.code }) result → (r ≡ no_memory)
    ⊎ (assumption_refusal f.inputs h ≡ Some r)
    → IfOk result (λ report. report_of report ≡ flat_assumed given f g h)
assumption_reported given f g h r (Err stop) is e = tt
assumption_reported given f g h r (Ok report) is e = elim e [
  | inl none ↦ absurd (is.0 (ap (λ (x : Refused). x.code) none))
  | inr code ↦ ap report_of is.1
      ∙ sym (ap (λ o. refusal_report o (compared given (netlist_of f) (netlist_of g)
      (Some (netlist_of h)))) code)
]

-- one that is taken
pub assumption_taken : (given : GivenOf) (f g h : FlatOf) → assumption_refusal f.inputs h ≡ None
    → compared given (netlist_of f) (netlist_of g) (Some (netlist_of h)) ≡ flat_assumed given f g h
assumption_taken given f g h none =
    sym (ap (λ o. refusal_report o (compared given (netlist_of f) (netlist_of g)
    (Some (netlist_of h)))) none)

-- flat netlists of one model allow the same assignments
forbids_alike : (f : NetlistOf) (h : FlatOf) (k : MainOf) (a : List Bool) → IsFlat h
    → IsFlatOf k.0 k.1 h → length h.outputs ≡ 1 →
    is_allowed f (Some (netlist_of h)) a ≡ is_allowed f (Some (netlist_of_model k)) a
forbids_alike f h k a flat is one =
    flat_value k h (get_or h.outputs 0 []) 0 (values_for f.inputs a h.inputs) flat is
    (omega (arith, one)) refl
    ∙ (ap (λ names. output_value k.0 k.1 (values_for f.inputs a names) (get_or h.outputs 0 []))
    is.inputs
    ∙ ap (λ names. output_value k.0 k.1 (values_for f.inputs a (inputs_of k)) (get_or names 0 []))
    is.outputs)

assumption_compared : (given : GivenOf) (f g : NetlistOf) (h : FlatOf) (k : MainOf) → IsFlat h
    → IsFlatOf k.0 k.1 h → length h.outputs ≡ 1 →
    compared given f g (Some (netlist_of h)) ≡ compared given f g (Some (netlist_of_model k))
assumption_compared given f g h k flat is one =
    let outputs = chosen_outputs given.outputs f.outputs in
    let allows : (a : List Bool) → is_allowed f (Some (netlist_of h)) a
    ≡ is_allowed f (Some (netlist_of_model k)) a = λ a. forbids_alike f h k a flat is one in
    ap (verdict_report f g) (verdict_agrees f g (Some (netlist_of h)) f g
    (Some (netlist_of_model k)) refl given.options.every outputs (record {
      alike =
          λ a long. allows a;
    })
    (All-from_get_or (DiffersAlike f g (Some (netlist_of h)) f g (Some (netlist_of_model k)))
    outputs []
    (λ i inside. record {
      alike = λ a long. ap (λ b. b && has_two_values f g (get_or outputs i [])
          a) (allows a);
    })))

refusals_coded : (a b : Bool) (x y : ReportOf) → (b ≡ true → x ≡ y) →
    refusal_report (if not a then Some (assumption_refused 61) else if not b then Some
    (assumption_refused 62) else None) x ≡ or_code side.Assume
    (if not a then Some 61 else if not b then Some 62 else None) y
refusals_coded false b x y e = refl
refusals_coded true false x y e = refl
refusals_coded true true x y e = e refl

-- the answer of an assumption's flat netlist is that of its model
pub flat_assumption : (given : GivenOf) (f g h : FlatOf) (k : MainOf) (found : Result MainOf (ℕ
    × ℕ)) → found ≡ Ok k → flat_code k.0 k.1 given.options.inputs ≡ None → IsFlat h
    → IsFlatOf k.0 k.1 h
    → flat_assumed given f g h ≡ assumption_answer given (netlist_of f) (netlist_of g) found
flat_assumption given f g h k found there accepted flat is =
    refusals_coded (has_all f.inputs h.inputs) (length h.outputs == 1) _ _
    (λ one. assumption_compared given (netlist_of f) (netlist_of g) h k flat is
    (eqb-true (length h.outputs) 1 one))
    ∙ (ap₂
    (λ ins outs.
    or_code side.Assume (if not (has_all f.inputs ins) then Some 61 else if not (length outs == 1)
    then Some 62 else None)
    (compared given (netlist_of f) (netlist_of g) (Some (netlist_of_model k))))
    is.inputs is.outputs
    ∙ sym (ap (assumption_answer given (netlist_of f) (netlist_of g)) there
    ∙ ap (λ c. or_code side.Assume c (or_code side.Assume (assumption_code f.inputs k)
    (compared given (netlist_of f) (netlist_of g) (Some (netlist_of_model k))))) accepted))

pub refused_stop : (s : Side) (refusal : Refusal) (result : Result Report Stop) (wanted : ReportOf)
    → IsRefused s refusal result → IfErr result (MayStop wanted)
refused_stop s refusal (Ok report) wanted h = tt
refused_stop s refusal (Err stop) wanted h = subst (MayStop wanted) (sym h.1) tt
