use Rattle.std.proofs.Common.{◌≡◌, suc, ◌-◌, ◌≤◌, ◌<◌, vec_len}
use Rattle.std.specs.Io.KnownBytes.{Consumes}
use Rattle.eqc_case.specs.declared.reading.Stage.TheVariants.{Open}
use Rattle.eqc_case.proofs.reading.read_text.Given as goal

abbrev pub invariant-reads : goal.invariant-reads
invariant-reads g l = record {
  most : vec_len l.text ≤ suc l.limit;
  room : 0 < vec_len l.block;
  open_stage : l.stage ≡ Open;
  few : l.reader.reads ≤ vec_len l.text;
  read : Consumes (g.R.Read.remaining l.fn.reader.reader) (g.R.Read.remaining l.reader.reader)
      l.text.items;
}

abbrev pub decreases-reads : goal.decreases-reads
decreases-reads g l = suc l.limit - vec_len l.text
