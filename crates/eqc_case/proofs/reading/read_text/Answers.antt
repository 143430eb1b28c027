use Rattle.std.proofs.Common.{arith}
use Rattle.eqc_case.proofs.ReadLemmas.{gives_more, all_read, most_read}
use Rattle.eqc_case.proofs.reading.read_text.Goals as goal

pub returns-then-not-branch-clause-text : goal.returns-then-not-branch-clause-text
returns-then-not-branch-clause-text g c =
    let all =
    gives_more (g.R.Read.remaining c.args.reader.now.reader)
    (g.R.Read.remaining c.reads.reader.reader)
    (g.R.Read.remaining c.read_more.new.reader.reader)
    c.reads.text.items c.read_more.new.text.items c.reads.invariant.read
    c.in_ok-read_more.ensures.given in
    all_read c.args.limit (g.R.Read.remaining c.args.reader.now.reader)
    (g.R.Read.remaining c.read_more.new.reader.reader) c.read_more.new.text.items
    (omega (arith, c.in_ok-read_more.ensures.most)) all (c.in_ok-read_more.ensures.end
    c.if-not-branch.true)

pub returns-clause-text : goal.returns-clause-text
returns-clause-text g c = most_read c.args.limit (g.R.Read.remaining c.args.reader.now.reader)
    (g.R.Read.remaining c.reads.reader.reader) c.reads.text.items (omega arith)
    c.reads.invariant.read
