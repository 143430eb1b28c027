use Rattle.std.proofs.Common.{◌∙◌, sym, refl, true≢false}
use Rattle.clap.specs.Values.{kind_of}
use Rattle.eqc_command.specs.Ends.{of_run, of_help, of_bad_words}
use Rattle.eqc_command.proofs.EndLemmas.{shown_asked}
use Rattle.eqc_command.proofs.start.program.Goals.{in-Ok, in-Err, then-is_showing}
use Rattle.eqc_command.proofs.start.program.Goals.{else-is_showing+in-Err-2}
use Rattle.eqc_command.proofs.start.program.Goals as goal

pub returns : goal.returns
returns g c = record {
  end = c.match-read_words.end;
  warned = g.E.Write.contents c.match-read_words.err;
  ended = elim c.match-read_words.branch [
    | in-Ok w ↦ rw (w.end-is, w.out-is, w.err-is) (of_run w.in-Ok.request w.in-Ok.ensures.taken
        w.in-Ok.ensures.asked w.compare-end.ensures)
    | in-Err w ↦ elim w.if-is_showing.branch [
      | then-is_showing v ↦
          let showing = w.is_showing.ensures.0 v.if-is_showing.true in
          rw (w.end-is, v.end-is, w.out-is, v.out-is, w.err-is)
          (of_help (kind_of w.in-Err.error) showing (shown_asked _ w.in-Err.error showing
          w.in-Err.ensures.refused) v.write_help-end.ensures refl)
      | else-is_showing+in-Err-2 v ↦
          rw (w.end-is, v.end-is, w.out-is, v.out-is, w.err-is)
          (of_bad_words w.in-Err.error refl (λ e. true≢false (sym (w.is_showing.ensures.1 e)
          ∙ v.if-is_showing.false)) w.in-Err.ensures.refused refl refl)
    ]
  ];
  told = c.tell.ensures;
  status = c.status.ensures;
}
