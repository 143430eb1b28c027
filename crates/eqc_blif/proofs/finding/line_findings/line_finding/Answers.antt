use Rattle.std.proofs.Common.{◌≢◌, ◌∙◌, Some, ap, sym, ℕ, List, map}
use Rattle.eqc_blif.specs.Words.{arguments, without_blanks}
use Rattle.eqc_blif.specs.Kind.{kind_of, kind_of_line}
use Rattle.eqc_netlist.specs.Names.{is_named}
use Rattle.eqc_blif.specs.Reading.{stands_in_model, lacks_words, models}
use Rattle.eqc_blif.proofs.ToldLemmas.{told_unknown, told_behind, told_outside, told_misshapen}
use Rattle.eqc_blif.proofs.ToldLemmas.{told_mixed, told_pair, told_word, told_model, IsNoOther}
use Rattle.eqc_blif.proofs.ToldLemmas.{told_twice}
use Rattle.eqc_blif.proofs.finding.line_findings.line_finding.Goals as goal

pub row_shape-requires : goal.row_shape-requires
row_shape-requires c =
    let line = c.args.line.now in
    let told = told_misshapen c.args.reader.now (kind_of_line line) (arguments line)
    (without_blanks line) (c.requires ∙ ap Some (c.if-code-5.true ∙ c.code-5.ensures)) in
    record { covered = told.0; row = told.1; shape = told.2 }

pub row_ends-requires : goal.row_ends-requires
row_ends-requires c =
    let line = c.args.line.now in
    let told = told_mixed c.args.reader.now (kind_of_line line) (arguments line)
    (without_blanks line) (c.requires ∙ ap Some (c.if-code-6.true ∙ c.code-6.ensures)) in
    record { covered = told.0; row = told.1; differ = told.2 }

pub no_pair-requires : goal.no_pair-requires
no_pair-requires c =
    let line = c.args.line.now in
    let told = told_pair c.args.reader.now (kind_of_line line) (arguments line)
    (without_blanks line) (c.requires ∙ ap Some (c.if-code-7.true ∙ c.code-7.ensures)) in
    record { subckt = told.0; some = told.1 }

pub returns-then-code : goal.returns-then-code
returns-then-code c =
    let line = c.args.line.now in
    let by = c.if-code.true ∙ c.code.ensures in
    let told = told_unknown c.args.reader.now (kind_of_line line) (arguments line)
    (without_blanks line) (c.requires ∙ ap Some by) in
    let word = c.in_ok-first_word.ensures in
    (sym by, (word, ap kind_of word ∙ told))

pub returns-then-code-3 : goal.returns-then-code-3
returns-then-code-3 c =
    let line = c.args.line.now in
    let by = c.if-code-3.true ∙ c.code-3.ensures in
    let told = told_behind c.args.reader.now (kind_of_line line) (arguments line)
    (without_blanks line) (c.requires ∙ ap Some by) in
    let word = c.in_ok-first_word-2.ensures in
    (sym by, (word, ap (λ (w : List ℕ). stands_in_model (kind_of w)) word ∙ told.0, told.1))

pub returns-then-code-4 : goal.returns-then-code-4
returns-then-code-4 c =
    let line = c.args.line.now in
    let by = c.if-code-4.true ∙ c.code-4.ensures in
    let told = told_outside c.args.reader.now (kind_of_line line) (arguments line)
    (without_blanks line) (c.requires ∙ ap Some by) in
    (sym by, ((told.0, c.in_ok-new.ensures), told.1))

pub returns-then-code-8 : goal.returns-then-code-8
returns-then-code-8 c =
    let line = c.args.line.now in
    let by = c.if-code-8.true ∙ c.code-8.ensures in
    let told = told_word c.args.reader.now (kind_of_line line) (arguments line)
    (without_blanks line) (c.requires ∙ ap Some by) in
    let word = c.in_ok-first_word-3.ensures in
    (sym by, (word, ap (λ (w : List ℕ). lacks_words (kind_of w) (arguments line)) word ∙ told))

pub returns-then-code-9 : goal.returns-then-code-9
returns-then-code-9 c =
    let line = c.args.line.now in
    let by = c.if-code-9.true ∙ c.code-9.ensures in
    let told = told_model c.args.reader.now (kind_of_line line) (arguments line)
    (without_blanks line) (c.requires ∙ ap Some by) in
    let name = c.in_ok-second_word.ensures in (
      sym by,
      (
        told.0,
        name,
        ap (λ (w : List ℕ). is_named
            (map (λ m. m.name) (models c.args.reader.now)) w) name ∙ told.1,
      ),
    )

pub returns-then-code-2 : goal.returns-then-code-2
returns-then-code-2 c = c.if-code-2.true ∙ c.code-2.ensures

pub returns-then-code-5 : goal.returns-then-code-5
returns-then-code-5 c = (sym (c.if-code-5.true ∙ c.code-5.ensures), c.in_ok-row.ensures)

pub returns-then-code-6 : goal.returns-then-code-6
returns-then-code-6 c = (sym (c.if-code-6.true ∙ c.code-6.ensures), c.in_ok-output.ensures)

pub returns-then-code-7 : goal.returns-then-code-7
returns-then-code-7 c = (sym (c.if-code-7.true ∙ c.code-7.ensures), c.in_ok-no_pair.ensures)

pub name_twice-requires : goal.name_twice-requires
name_twice-requires c =
    let line = c.args.line.now in
    let none : IsNoOther c.args.code = record {
      unknown = λ e. c.if-code.false (e ∙ sym c.code.ensures);
      latch = λ e. c.if-code-2.false (e ∙ sym c.code-2.ensures);
      behind = λ e. c.if-code-3.false (e ∙ sym c.code-3.ensures);
      outside = λ e. c.if-code-4.false (e ∙ sym c.code-4.ensures);
      shape = λ e. c.if-code-5.false (e ∙ sym c.code-5.ensures);
      mixed = λ e. c.if-code-6.false (e ∙ sym c.code-6.ensures);
      pair = λ e. c.if-code-7.false (e ∙ sym c.code-7.ensures);
      word = λ e. c.if-code-8.false (e ∙ sym c.code-8.ensures);
      model = λ e. c.if-code-9.false (e ∙ sym c.code-9.ensures);
    } in
    let told = told_twice c.args.reader.now (kind_of_line line) (arguments line)
    (without_blanks line) c.args.code c.requires none in
    record { opened = told.0; twice = told.1 }

pub returns : goal.returns
returns c =
    let line = c.args.line.now in
    let none : IsNoOther c.args.code = record {
      unknown = λ e. c.if-code.false (e ∙ sym c.code.ensures);
      latch = λ e. c.if-code-2.false (e ∙ sym c.code-2.ensures);
      behind = λ e. c.if-code-3.false (e ∙ sym c.code-3.ensures);
      outside = λ e. c.if-code-4.false (e ∙ sym c.code-4.ensures);
      shape = λ e. c.if-code-5.false (e ∙ sym c.code-5.ensures);
      mixed = λ e. c.if-code-6.false (e ∙ sym c.code-6.ensures);
      pair = λ e. c.if-code-7.false (e ∙ sym c.code-7.ensures);
      word = λ e. c.if-code-8.false (e ∙ sym c.code-8.ensures);
      model = λ e. c.if-code-9.false (e ∙ sym c.code-9.ensures);
    } in
    let told = told_twice c.args.reader.now (kind_of_line line) (arguments line)
    (without_blanks line) c.args.code c.requires none in
    (c.in_ok-name_twice.ensures.0 ∙ sym told.2, c.in_ok-name_twice.ensures.1)
