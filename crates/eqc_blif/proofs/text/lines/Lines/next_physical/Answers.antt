use Rattle.std.proofs.Common.{◌+◌}
use Rattle.eqc_blif.proofs.LineLemmas.{next_cut, next_last, end_behind, cut_clean}
use Rattle.eqc_blif.proofs.text.lines.Lines.next_physical.Goals as goal
use Rattle.eqc_blif.proofs.text.lines.Lines.next_physical.Goals.{then-end-text, else-end-text}

pub returns : goal.returns
returns c =
    let text = c.in_ok-text.text.now in
    let mark = c.find_either-mark.result in
    let end = end_behind text mark c.find_line_end.result c.find_either-mark.ensures.first
    c.find_line_end.ensures.first in
    let cleaned = cut_clean text c.trimmed.result.now mark (mark + c.find_line_end.result)
    c.find_either-mark.ensures.first end c.trimmed.ensures in
    elim c.if-end-text.branch [
      | then-end-text w ↦
          next_cut c.self.inside.number c.self.inside.rest c.in_ok-text.text c.trimmed.result.now
          (mark + c.find_line_end.result)
          c.args.self.now c.if-end-text.self c.self.view_is c.in_ok-text.was end w.if-end-text.true
          cleaned w.self-is
      | else-end-text w ↦
          next_last c.self.inside.number c.self.inside.rest c.in_ok-text.text c.trimmed.result.now
          (mark + c.find_line_end.result)
          c.args.self.now c.if-end-text.self c.self.view_is c.in_ok-text.was end w.if-end-text.false
          cleaned w.self-is
    ]
