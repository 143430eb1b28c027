-- Runs over lines, the first fault of a text, and lines that change nothing.
use Rattle.std.proofs.Common.{◌≡◌, ℕ, ◌+◌, List, [], ◌∷◌, ◌++◌, length, Option, Some, None, Err}
use Rattle.std.proofs.Common.{refl, sym, ◌∙◌, ap}
use Rattle.std.specs.Option.{option_map}
use Rattle.eqc_blif.specs.Netlist.{ModelOf}
use Rattle.eqc_blif.specs.Lines.{physical, numbered, logical, logical_lines}
use Rattle.eqc_blif.specs.Reading.{After, start, models, line_code, then_line, after, or_behind}
use Rattle.eqc_blif.specs.Reading.{first_fault, outcome_by}
use Rattle.eqc_blif.specs.Laws.{contents, unnumbered, FirstFaultStays, FoundIsFirst, FirstIsFound}
use Rattle.eqc_blif.specs.Laws.{NumbersPlayNoPart, SkippedLinesChangeNothing}
use Rattle.eqc_blif.proofs.FollowLaws.{texts_follow}

-- a fault, or else another
or_else : Option (ℕ × ℕ) → Option (ℕ × ℕ) → Option (ℕ × ℕ)
or_else None other = other
or_else (Some fault) other = Some fault

after_append : (st : After) (xs ys : List (ℕ × List ℕ)) → after st (xs ++ ys)
    ≡ after (after st xs) ys
after_append st [] ys = refl
after_append st (x ∷ xs) ys = after_append (then_line x.1 st) xs ys

or_behind_else : (n : ℕ) (code : Option ℕ) (a b : Option (ℕ × ℕ)) → or_behind n code (or_else a b)
    ≡ or_else (or_behind n code a) b
unfolding or_else
or_behind_else n None a b = refl
or_behind_else n (Some code) a b = refl

-- the fault of lines behind others
fault_append : (st : After) (xs ys : List (ℕ × List ℕ)) → first_fault st (xs ++ ys)
    ≡ or_else (first_fault st xs) (first_fault (after st xs) ys)
unfolding or_else
fault_append st [] ys = refl
fault_append st (x ∷ xs) ys =
    ap (or_behind x.0 (line_code st x.1)) (fault_append (then_line x.1 st) xs ys)
    ∙ or_behind_else x.0 (line_code st x.1) (first_fault (then_line x.1 st) xs)
    (first_fault (after (then_line x.1 st) xs) ys)

pub first_fault_stays : FirstFaultStays
unfolding or_else
first_fault_stays limit text more fault whole short found =
    let behind = logical (numbered (1 + length (physical text)) more) in
    let still : first_fault start (logical_lines (text ++ 10 ∷ more)) ≡ Some fault =
    ap (first_fault start) (texts_follow text more whole)
    ∙ (fault_append start (logical_lines text) behind
    ∙ ap (λ f. or_else f (first_fault (after start (logical_lines text)) behind)) found) in
    rw (short, still) refl

by_some : {n : ℕ} {code : Option ℕ} {c : ℕ} (behind : Option (ℕ × ℕ)) → code ≡ Some c
    → or_behind n code behind ≡ Some (n, c)
by_some behind is = rw is refl

-- a line with a code behind lines without one
record Found (st : After) (lines : List (ℕ × List ℕ)) (fault : ℕ × ℕ) : Type 0 where
  pub before : List (ℕ × List ℕ)
  pub line : List ℕ
  pub behind : List (ℕ × List ℕ)
  pub cut : lines ≡ before ++ (fault.0, line) ∷ behind
  pub faultless : first_fault st before ≡ None
  pub faulty : line_code (after st before) line ≡ Some fault.1

found_step : (st : After) (x : ℕ × List ℕ) (xs : List (ℕ × List ℕ)) (fault : ℕ
    × ℕ) (code : Option ℕ) → line_code st x.1 ≡ code
    → first_fault st (x ∷ xs) ≡ Some fault → (first_fault (then_line x.1 st) xs ≡ Some fault
    → Found (then_line x.1 st) xs fault)
    → Found st (x ∷ xs) fault
found_step st x xs fault None is found later =
    let more = later (sym (ap (λ code. or_behind x.0 code (first_fault (then_line x.1 st) xs)) is)
    ∙ found) in
    record {
      before = x ∷ more.before;
      line = more.line;
      behind = more.behind;
      cut = ap (λ rest. x ∷ rest) more.cut;
      faultless = ap (λ code. or_behind x.0 code (first_fault (then_line x.1 st) more.before)) is
          ∙ more.faultless;
      faulty = more.faulty;
    }
found_step st x xs fault (Some code) is found later =
    let here : Some (x.0, code) ≡ Some fault = sym (by_some (first_fault (then_line x.1 st) xs) is)
    ∙ found in
    let same : (x.0, code) ≡ fault = cc in
    record {
      before = [];
      line = x.1;
      behind = xs;
      cut = ap (λ n. (n, x.1) ∷ xs) (ap (λ f. f.0) same);
      faultless = refl;
      faulty = is ∙ ap (λ f. Some f.1) same;
    }

found_from : (st : After) (lines : List (ℕ × List ℕ)) (fault : ℕ × ℕ) → first_fault st lines
    ≡ Some fault → Found st lines fault
found_from st [] fault found = cc
found_from st (x ∷ xs) fault found = found_step st x xs fault (line_code st x.1) refl found
    (λ later. found_from (then_line x.1 st) xs fault later)

pub found_is_first : FoundIsFirst
found_is_first lines fault found =
    let parts = found_from start lines fault found in
    record {
      before = parts.before;
      line = parts.line;
      behind = parts.behind;
      cut = parts.cut;
      faultless = parts.faultless;
      faulty = parts.faulty;
    }

pub first_is_found : FirstIsFound
unfolding or_else
first_is_found lines fault first =
    let here : first_fault (after start first.before) ((fault.0, first.line) ∷ first.behind)
    ≡ Some fault =
    by_some (first_fault (then_line first.line (after start first.before)) first.behind)
    first.faulty in
    ap (first_fault start) first.cut
    ∙ (fault_append start first.before ((fault.0, first.line) ∷ first.behind)
    ∙ rw (first.faultless, here) refl)

alike_behind : (n m : ℕ) (code : Option ℕ) (a b : Option (ℕ × ℕ)) → option_map (λ f. f.1) a
    ≡ option_map (λ f. f.1) b
    → option_map (λ f. f.1) (or_behind n code a) ≡ option_map (λ f. f.1) (or_behind m code b)
alike_behind n m None a b alike = alike
alike_behind n m (Some code) a b alike = refl

-- the code of a fault, and what stands after all lines
code_alike : (st : After) (xs ys : List (ℕ × List ℕ)) → contents xs ≡ contents ys
    → (option_map (λ f. f.1) (first_fault st xs) ≡ option_map (λ f. f.1) (first_fault st ys))
    × (after st xs ≡ after st ys)
code_alike st [] [] same = (refl, refl)
code_alike st [] (y ∷ ys) same = cc
code_alike st (x ∷ xs) [] same = cc
code_alike st (x ∷ xs) (y ∷ ys) same =
    let bytes : x.1 ≡ y.1 = cc in
    let rest : contents xs ≡ contents ys = cc in
    let more = code_alike (then_line x.1 st) xs ys rest in
    let moved : after (then_line x.1 st) ys ≡ after (then_line y.1 st) ys =
    ap (λ line. after (then_line line st) ys) bytes in
    let faults :
    option_map (λ f. f.1) (or_behind y.0 (line_code st x.1) (first_fault (then_line x.1 st) ys))
    ≡ option_map (λ f. f.1) (or_behind y.0 (line_code st y.1) (first_fault (then_line y.1 st) ys)) =
    ap (λ line. option_map (λ f. f.1) (or_behind y.0 (line_code st line)
    (first_fault (then_line line st) ys))) bytes in (
      alike_behind x.0 y.0 (line_code st x.1) (first_fault (then_line x.1 st) xs)
          (first_fault (then_line x.1 st) ys) more.0 ∙ faults,
      more.1 ∙ moved,
    )

-- an outcome without the line depends on the code of the fault alone
outcome_alike : (a b : Option (ℕ × ℕ)) (ms : List ModelOf) → option_map (λ f. f.1) a
    ≡ option_map (λ f. f.1) b → unnumbered (outcome_by a ms) ≡ unnumbered (outcome_by b ms)
outcome_alike None None ms same = refl
outcome_alike None (Some g) ms same = cc
outcome_alike (Some f) None ms same = cc
outcome_alike (Some f) (Some g) ms same = let codes : f.1 ≡ g.1 = cc in ap Err codes

pub numbers_play_no_part : NumbersPlayNoPart
numbers_play_no_part limit text other short other_short same =
    let alike = code_alike start (logical_lines text) (logical_lines other) same in
    rw (short, other_short)
    (outcome_alike (first_fault start (logical_lines text))
    (first_fault start (logical_lines other))
    (models (after start (logical_lines text))) alike.0
    ∙ ap (λ st. unnumbered (outcome_by (first_fault start (logical_lines other)) (models st)))
    alike.1)

pub skipped_lines_change_nothing : SkippedLinesChangeNothing
unfolding or_else
skipped_lines_change_nothing before behind n line skipped good =
    let st = after start before in
    let no_code : line_code st line ≡ None = rw (good, skipped) refl in
    let stays : then_line line st ≡ st = rw skipped refl in
    let fault : first_fault start (before ++ (n, line) ∷ behind) ≡ first_fault start (before
    ++ behind) =
    fault_append start before ((n, line) ∷ behind)
    ∙ (ap (or_else (first_fault start before))
    (ap (λ code. or_behind n code (first_fault (then_line line st) behind)) no_code
    ∙ ap (λ s. first_fault s behind) stays)
    ∙ sym (fault_append start before behind)) in
    let left : after start (before ++ (n, line) ∷ behind) ≡ after start (before ++ behind) =
    after_append start before ((n, line) ∷ behind) ∙ (ap (λ s. after s behind) stays
    ∙ sym (after_append start before behind)) in
    ap (λ f. outcome_by f (models (after start (before ++ (n, line) ∷ behind)))) fault
    ∙ ap (λ s. outcome_by (first_fault start (before ++ behind)) (models s)) left
