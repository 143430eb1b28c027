-- Two netlists are accepted exactly where all checks pass.
use Rattle.std.proofs.Common.{◌≡◌, ℕ, zero, suc, ◌^◌, ◌==◌, ◌<◌, ◌≤◌, Bool, true, false, not, List}
use Rattle.std.proofs.Common.{[], ◌∷◌, ◌++◌, length, get_or, Option, Some, None, IfSome, All}
use Rattle.std.proofs.Common.{Result, Ok, Err, sym, ap, refl, ◌∙◌, arith, subst, zero-add}
use Rattle.std.specs.List.{range_with_len}
use Rattle.std.proofs.lemmas.Option.{none-some}
use Rattle.std.proofs.lemmas.Bool.{not-false, not_from_true, and_from, and_parts, le-leb, leb-true}
use Rattle.std.proofs.lemmas.Bool.{ltb-false, le-ltb, eqb-true, eq-eqb}
use Rattle.std.proofs.lemmas.List.Elements.{All-from_get_or}
use Rattle.std.proofs.lemmas.List.Folds.{Any-from_list_any, list_any_at}
use Rattle.std.proofs.lemmas.List.Sums.{list_all-from_AllPass}
use Rattle.std.proofs.lemmas.List.FromFn.{length-range_with_len, get_or-range_with_len}
use Rattle.eqc_netlist.specs.Names.{is_named}
use Rattle.eqc_report.specs.declared.options.Options.{Options}
use Rattle.eqc_pair.specs.declared.refused.Refused.{Refused}
use Rattle.eqc_pair.specs.declared.refused.Side.{Side}
use Rattle.eqc_pair.specs.declared.refused.Side.TheVariants as side
use Rattle.eqc_report.specs.Options.{is_between, is_cell_count}
use Rattle.eqc_pair.specs.Matched.{position_of, has_all, same_names, order_words}
use Rattle.eqc_case.specs.Answer.{GivenOf, MainOf, first_found, second_found, inputs_of, outputs_of}
use Rattle.eqc_case.specs.Answer.{assumption_found}
use Rattle.eqc_case.specs.AnswerLaws.{first_main, assumption_main, AreInRange, IsFound}
use Rattle.eqc_case.specs.AnswerLaws.{HaveSameNames, IsOrderOf, IsAssumptionOver, IsAccepted}
use Rattle.eqc_case.specs.AnswerLaws.{refused_if, refused_by_code, refused_by_fault, option_checks}
use Rattle.eqc_case.specs.AnswerLaws.{text_checks, order_checks, assumption_checks, checks}
use Rattle.eqc_pair.proofs.PlaceLemmas.{place_below, name_at, named_index, all_named}
use Rattle.eqc_pair.proofs.OrderedLemmas.{both_ways}
use Rattle.eqc_case.proofs.CheckLemmas.{PassAll, pass_none, pass_more, pass_each, pass_both}
use Rattle.eqc_netlist.proofs.Members.{same_test}

-- ---- single checks

if_passes : (fails : Bool) (at : Side) (code : ℕ) → fails ≡ false → refused_if fails at code ≡ None
if_passes fails at code e = ap (λ b. refused_if b at code) e

passed_if : (fails : Bool) (at : Side) (code : ℕ) → refused_if fails at code ≡ None → fails ≡ false
passed_if false at code e = refl
passed_if true at code e = absurd (none-some (record { side = at; line = 0; code = code }) (sym e))

code_passed : (at : Side) (code : Option ℕ) → refused_by_code at code ≡ None → code ≡ None
code_passed at None e = refl
code_passed at (Some code) e = absurd (none-some (record { side = at; line = 0; code = code })
    (sym e))

fault_passed : (at : Side) (found : Result MainOf (ℕ × ℕ)) → refused_by_fault at found ≡ None
    → IsFound found
fault_passed at (Ok m) h = (m, refl)
fault_passed at (Err fault) h =
    absurd (none-some (record { side = at; line = fault.0; code = fault.1 }) (sym h))

fault_passes : (at : Side) (found : Result MainOf (ℕ × ℕ)) → IsFound found
    → refused_by_fault at found ≡ None
fault_passes at found is = ap (refused_by_fault at) is.1

-- ---- options

between_from : (low high n : ℕ) → low ≤ n → n ≤ high → not (is_between low high n) ≡ false
between_from low high n above below = not_from_true (is_between low high n)
    (and_from _ _ (le-leb low n above) (le-leb n high below))

between_parts : (low high n : ℕ) → not (is_between low high n) ≡ false → (low ≤ n) × (n ≤ high)
between_parts low high n e =
    let parts = and_parts _ _ (not-false (is_between low high n) e) in
    (leb-true low n parts.0, leb-true n high parts.1)

power_counted : (n k : ℕ) → k ≤ 20 → n ≡ 2 ^ k → is_cell_count n ≡ true
unfolding is_cell_count
power_counted n k small e =
    list_any_at (λ i. n == 2 ^ i) (range_with_len 0 21) k 0
    (omega (arith, length-range_with_len 0 21))
    (eq-eqb n (2 ^ get_or (range_with_len 0 21) k 0) (e
    ∙ ap (λ i. 2 ^ i) (sym (get_or-range_with_len 0 21 k 0 (omega arith) ∙ zero-add k))))

counted_power : (n : ℕ) → is_cell_count n ≡ true → (k : ℕ) × (k ≤ 20) × (n ≡ 2 ^ k)
unfolding is_cell_count
counted_power n e =
    let found = Any-from_list_any (λ i. n == 2 ^ i) (range_with_len 0 21) e in
    let small : found.0 < 21 = omega (arith, found.2, length-range_with_len 0 21) in
    let at : found.1 ≡ found.0 = sym found.3 ∙ get_or-range_with_len 0 21 found.0 found.1 small
    ∙ zero-add found.0 in
    (found.0, omega arith, eqb-true n (2 ^ found.1) found.4 ∙ ap (λ i. 2 ^ i) at)

pub range_passes : (options : Options) → AreInRange options → PassAll (option_checks options)
range_passes options r =
    let workers = if_passes _ side.Options 81 (between_from 1 64 options.workers r.some_workers
    r.few_workers) in
    let nodes = if_passes _ side.Options 82 (between_from 1 1048574 options.nodes r.some_nodes
    r.few_nodes) in
    let cells = if_passes _ side.Options 83 (not_from_true (is_cell_count options.cells)
    (power_counted options.cells r.power.0 r.power.1 r.power.2)) in
    let forks = if_passes _ side.Options 84 (between_from 0 16 options.forks (omega arith)
    r.few_forks) in
    let inputs = if_passes _ side.Options 85 (between_from 0 65535 options.inputs (omega arith)
    r.few_inputs) in
    let bytes = if_passes _ side.Options 86 (between_from 0 2147483647 options.bytes (omega arith)
    r.few_bytes) in
    pass_each (option_checks options) (workers, (nodes, (cells, (forks, (inputs, (bytes, tt))))))

passed_range : (options : Options) → PassAll (option_checks options) → AreInRange options
passed_range options pass =
    let workers = between_parts 1 64 options.workers (passed_if _ side.Options 81 (pass 0)) in
    let nodes = between_parts 1 1048574 options.nodes (passed_if _ side.Options 82 (pass 1)) in
    let forks = between_parts 0 16 options.forks (passed_if _ side.Options 84 (pass 3)) in
    let inputs = between_parts 0 65535 options.inputs (passed_if _ side.Options 85 (pass 4)) in
    let bytes = between_parts 0 2147483647 options.bytes (passed_if _ side.Options 86 (pass 5)) in
    record {
      some_workers = workers.0;
      few_workers = workers.1;
      some_nodes = nodes.0;
      few_nodes = nodes.1;
      power = counted_power options.cells (not-false (is_cell_count options.cells)
          (passed_if _ side.Options 83 (pass 2)));
      few_forks = forks.1;
      few_inputs = inputs.1;
      few_bytes = bytes.1;
    }

-- ---- names

named_by_all : (names others : List (List ℕ)) (name : List ℕ) → has_all names others ≡ true
    → is_named others name ≡ true → is_named names name ≡ true
named_by_all names others name all e =
    subst (λ (x : List ℕ). is_named names x ≡ true) (name_at others name e) (all_named names others
    all (position_of others name) (place_below others name e))

pub have_same : (xs ys : List (List ℕ)) → has_all xs ys ≡ true → has_all ys xs ≡ true
    → HaveSameNames xs ys
have_same xs ys all back name = same_test (is_named xs name) (is_named ys name)
    (named_by_all ys xs name back) (named_by_all xs ys name all)

has_all_from : (names others : List (List ℕ)) → HaveSameNames names others → has_all names others
    ≡ true
has_all_from names others same =
    list_all-from_AllPass (λ name. is_named names name) others
    (All-from_get_or (λ name. is_named names name ≡ true) others []
    (λ i inside. same (get_or others i []) ∙ named_index others i inside))

same_passes : (xs ys : List (List ℕ)) → HaveSameNames xs ys → not (same_names xs ys) ≡ false
same_passes xs ys same = not_from_true (same_names xs ys) (and_from _ _ (has_all_from xs ys same)
    (has_all_from ys xs (λ name. sym (same name))))

passed_same : (xs ys : List (List ℕ)) → not (same_names xs ys) ≡ false → HaveSameNames xs ys
passed_same xs ys e = let both = both_ways xs ys (not-false (same_names xs ys) e) in
    have_same xs ys both.0 both.1

-- names that are all among others
all_in : (names others : List (List ℕ)) → has_all names others ≡ true
    → All (λ name. is_named names name ≡ true) others
all_in names others all = All-from_get_or (λ name. is_named names name ≡ true) others []
    (λ i inside. all_named names others all i inside)

-- ---- order texts

pub order_passes : (inputs : List (List ℕ)) (order : Option (List ℕ))
    → IfSome order (IsOrderOf inputs) → PassAll (order_checks inputs order)
order_passes inputs None h = pass_each (order_checks inputs None) (refl, (refl, (refl, (refl, tt))))
order_passes inputs (Some text) h =
    let short = if_passes _ side.Order 2 (le-ltb 16777216 (length text) h.short) in
    let known = if_passes _ side.Order 51 (not_from_true _ (has_all_from inputs (order_words text)
    (λ name. sym (h.words name)))) in
    let once = if_passes _ side.Order 52 h.once in
    let whole = if_passes _ side.Order 53 (not_from_true _ (has_all_from (order_words text) inputs
    h.words)) in
    pass_each (order_checks inputs (Some text)) (short, (known, (once, (whole, tt))))

passed_order : (inputs : List (List ℕ)) (order : Option (List ℕ))
    → PassAll (order_checks inputs order) → IfSome order (IsOrderOf inputs)
passed_order inputs None pass = tt
passed_order inputs (Some text) pass = record {
  short = ltb-false 16777216 (length text) (passed_if _ side.Order 2 (pass 0));
  words = have_same (order_words text) inputs (not-false _ (passed_if _ side.Order 53 (pass 3)))
      (not-false _ (passed_if _ side.Order 51 (pass 1)));
  once = passed_if _ side.Order 52 (pass 2);
}

-- ---- texts

texts_pass : (given : GivenOf) → IsAccepted given
    → PassAll (text_checks given.texts given.outputs given.options.bytes given.options.inputs)
texts_pass given is =
    let limit = given.options.bytes in
    let texts = given.texts in
    let first = ap (refused_by_code side.First) is.first_hierarchy in
    let second = ap (refused_by_code side.Second) is.second_hierarchy in
    let inputs = if_passes _ side.Pair 41 (same_passes _ _ is.inputs) in
    let outputs = if_passes _ side.Pair 42 (same_passes _ _ is.outputs) in
    let chosen = if_passes _ side.Pair 43
    (not_from_true _ (list_all-from_AllPass
    (λ name. is_named (outputs_of (first_main limit texts)) name) given.outputs is.chosen)) in
    pass_each (text_checks texts given.outputs limit given.options.inputs) (
      fault_passes side.First (first_found limit texts) is.readable.0,
      (
        fault_passes side.Second (second_found limit texts) is.readable.1,
        (first, (second, (inputs, (outputs, (chosen, tt))))),
      ),
    )

-- ---- assumptions

pub assumption_passes : (inputs : List (List ℕ)) (options : Options) (assume : Option (List ℕ))
    → IfSome assume (IsAssumptionOver inputs options)
    → PassAll (assumption_checks inputs options.bytes options.inputs assume)
assumption_passes inputs options None h = pass_none
assumption_passes inputs options (Some text) h =
    let main = assumption_main options.bytes text in
    let hierarchy = ap (refused_by_code side.Assume) h.hierarchy in
    let known = if_passes _ side.Assume 61
    (not_from_true _ (list_all-from_AllPass (λ name. is_named inputs name) (inputs_of main)
    h.known)) in
    let one = if_passes _ side.Assume 62 (not_from_true _ (eq-eqb (length (outputs_of main)) 1
    h.one_output)) in
    pass_each (assumption_checks inputs options.bytes options.inputs (Some text)) (
      fault_passes side.Assume (assumption_found options.bytes text) h.readable,
      (hierarchy, (known, (one, tt))),
    )

passed_assumption : (inputs : List (List ℕ)) (options : Options) (assume : Option (List ℕ))
    → PassAll (assumption_checks inputs options.bytes options.inputs assume)
    → IfSome assume (IsAssumptionOver inputs options)
passed_assumption inputs options None pass = tt
passed_assumption inputs options (Some text) pass =
    let main = assumption_main options.bytes text in
    record {
      readable = fault_passed side.Assume (assumption_found options.bytes text) (pass 0);
      hierarchy = code_passed side.Assume _ (pass 1);
      known = all_in inputs (inputs_of main) (not-false _ (passed_if _ side.Assume 61 (pass 2)));
      one_output = eqb-true (length (outputs_of main)) 1
          (not-false _ (passed_if _ side.Assume 62 (pass 3)));
    }

-- ---- all

pub accepted_passes : (given : GivenOf) → IsAccepted given → PassAll (checks given)
accepted_passes given is =
    let inputs = inputs_of (first_main given.options.bytes given.texts) in
    let options = option_checks given.options in
    let texts = text_checks given.texts given.outputs given.options.bytes given.options.inputs in
    let orders = order_checks inputs given.order in
    let assumptions = assumption_checks inputs given.options.bytes given.options.inputs given.assume
    in
    pass_both options (texts ++ orders ++ assumptions) (range_passes given.options is.range)
    (pass_both texts (orders ++ assumptions) (texts_pass given is)
    (pass_both orders assumptions (order_passes inputs given.order is.ordered)
    (assumption_passes inputs given.options given.assume is.assumed)))

-- what passes behind some checks
passed_from : (xs ys : List (Option Refused)) → PassAll (xs ++ ys) → PassAll ys
passed_from [] ys pass = pass
passed_from (x ∷ xs) ys pass = passed_from xs ys (λ k. pass (suc k))

-- and before others
passed_to : (xs ys : List (Option Refused)) → PassAll (xs ++ ys) → PassAll xs
passed_to [] ys pass = pass_none
passed_to (x ∷ xs) ys pass = pass_more x xs (pass zero) (passed_to xs ys (λ k. pass (suc k)))

pub passed_accepted : (given : GivenOf) → PassAll (checks given) → IsAccepted given
passed_accepted given pass =
    let first = first_main given.options.bytes given.texts in
    let inputs = inputs_of first in
    let options = option_checks given.options in
    let texts = text_checks given.texts given.outputs given.options.bytes given.options.inputs in
    let orders = order_checks inputs given.order in
    let assumptions = assumption_checks inputs given.options.bytes given.options.inputs given.assume
    in
    let behind = passed_from options (texts ++ orders ++ assumptions) pass in
    let last = passed_from texts (orders ++ assumptions) behind in
    let read = passed_to texts (orders ++ assumptions) behind in
    record {
      range = passed_range given.options (passed_to options (texts ++ orders ++ assumptions) pass);
      readable = (
        fault_passed side.First (first_found given.options.bytes given.texts) (read 0),
        fault_passed side.Second (second_found given.options.bytes given.texts) (read 1),
      );
      first_hierarchy = code_passed side.First _ (read 2);
      second_hierarchy = code_passed side.Second _ (read 3);
      inputs = passed_same _ _ (passed_if _ side.Pair 41 (read 4));
      outputs = passed_same _ _ (passed_if _ side.Pair 42 (read 5));
      chosen = all_in (outputs_of first) given.outputs
          (not-false _ (passed_if _ side.Pair 43 (read 6)));
      ordered = passed_order inputs given.order (passed_to orders assumptions last);
      assumed = passed_assumption inputs given.options given.assume (passed_from orders assumptions
          last);
    }
