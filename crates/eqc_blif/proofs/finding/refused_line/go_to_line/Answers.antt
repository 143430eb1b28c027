use Rattle.std.proofs.Common.{◌≡◌, Some, rules}
use Rattle.eqc_blif.specs.Lines.{logical_lines}
use Rattle.eqc_blif.specs.Reading.{start}
use Rattle.eqc_blif.specs.Finding.{line_at}
use Rattle.eqc_blif.proofs.FollowLaws.{line_numbers_rise}
use Rattle.eqc_blif.proofs.FindingLemmas.{has_code}
use Rattle.eqc_blif.proofs.finding.refused_line.go_to_line.Goals as goal

pub returns-then-number-refusal-clause-faulty : goal.returns-then-number-refusal-clause-faulty
returns-then-number-refusal-clause-faulty c =
    let text = c.args.text.now in
    let n = c.args.refusal.line in
    let there : line_at n start (logical_lines text) ≡ Some (
      c.lines.reader,
      c.match-whole.line.items,
    ) = search rules in
    has_code 1 n c.args.refusal.code start c.lines.reader c.match-whole.line.items
    (logical_lines text) (line_numbers_rise text) c.requires.fault there
