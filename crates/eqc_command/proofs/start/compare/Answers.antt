use Rattle.std.proofs.Common.{◌∙◌, ap}
use Rattle.std.specs.Prelude.{Err}
use Rattle.eqc_command.specs.Ends.{IsRun}
use Rattle.eqc_command.specs.Sources.{source_remaining}
use Rattle.eqc_command.proofs.EndLemmas.{run_failed}
use Rattle.eqc_command.proofs.start.compare.Goals.{then-request, else-request}
use Rattle.eqc_command.proofs.start.compare.Goals as goal

pub returns-in-Ok-finished : goal.returns-in-Ok-finished
returns-in-Ok-finished g c =
    let run : IsRun (source_remaining g.R.Read.remaining g.RT.File.Read.remaining)
    c.given_by-given.result
    (g.W.Write.contents c.args.out.now) (g.W.Write.contents c.if-request.out)
    c.if-request.finished =
    elim c.if-request.branch [
      | then-request w ↦ rw (w.finished-is, w.out-is) w.run_shown-finished.ensures
      | else-request w ↦ rw (w.finished-is, w.out-is) (record {
        answered = w.run_explained-finished.ensures.answered;
        warned = w.run_explained-finished.ensures.warned;
        write = w.run_explained-finished.ensures.write;
        read = λ e. ap g.W.Write.contents (w.run_explained-finished.ensures.read e).1;
        memory = w.run_explained-finished.ensures.memory;
      })
    ] in
    record {
      sources = c.in-Ok.sources;
      opened = c.in-Ok.ensures;
      writes = record {
        answered = rw c.given_by-given.ensures at (rw c.in-Ok-finished.is at run.answered);
        warnings = c.in-Ok-finished.finished.warnings;
        warned = rw c.given_by-given.ensures at (rw c.in-Ok-finished.is at run.warned);
        err = g.E.Write.contents c.warn.new.err;
        told = c.warn.ensures;
        explained = c.explain-in-Ok-finished.ensures;
      };
    }

pub returns : goal.returns
returns g c =
    let run : IsRun (source_remaining g.R.Read.remaining g.RT.File.Read.remaining)
    c.given_by-given.result
    (g.W.Write.contents c.args.out.now) (g.W.Write.contents c.if-request.out)
    c.if-request.finished =
    elim c.if-request.branch [
      | then-request w ↦ rw (w.finished-is, w.out-is) w.run_shown-finished.ensures
      | else-request w ↦ rw (w.finished-is, w.out-is) (record {
        answered = w.run_explained-finished.ensures.answered;
        warned = w.run_explained-finished.ensures.warned;
        write = w.run_explained-finished.ensures.write;
        read = λ e. ap g.W.Write.contents (w.run_explained-finished.ensures.read e).1;
        memory = w.run_explained-finished.ensures.memory;
      })
    ] in
    run_failed g.R.Read.remaining g.RT.File.Read.remaining c.args.request.now c.args.input
    (g.W.Write.contents c.args.out.now)
    (g.W.Write.contents c.if-request.out) (g.E.Write.contents c.args.err.now)
    (g.E.Write.contents c.explain-in-Err-finished.new.err)
    c.in-Err-finished.fault c.in-Ok.sources c.in-Ok.ensures
    (λ e. rw c.given_by-given.ensures at (run.write (c.in-Err-finished.is ∙ ap Err e)))
    (λ e. run.read (c.in-Err-finished.is ∙ ap Err e))
    (rw c.in-Err-finished.is at run.memory) c.explain-in-Err-finished.ensures
