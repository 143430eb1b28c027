use Rattle.std.proofs.Common.{arith, ap, length, sym, ◌∙◌, ◌≡◌, ◌++◌}
use Rattle.eqc_blif.specs.Lines.{spaced}
use Rattle.eqc_blif.proofs.LineLemmas.{join_more, join_last, join_end, pushed_space}
use Rattle.eqc_blif.proofs.text.lines.Lines.join.Goals as goal

pub pieces-preserved : goal.pieces-preserved
pieces-preserved c =
    let spaced_is : c.push.new.self.items ≡ c.pieces.line.items ++ spaced c.pieces.piece.now =
    pushed_space c.pieces.line.items c.pieces.piece.now c.extend_from_slice.new.self.items
    c.push.new.self.items
    c.in_ok-extend_from_slice.ensures.items c.in_ok-push.ensures.items in
    record {
      shorter = omega (arith, ap length c.in-Some.ensures, c.pieces.invariant.shorter);
      joined = λ n m.
          join_more n m c.in-Some.field-0-0 m c.pieces.line.items c.push.new.self.items
          c.pieces.piece.now c.in-Some.next.now c.pieces.self
          c.next_physical.new.self (sym c.continues.ensures.last ∙ c.pieces-test.true)
          c.in-Some.ensures spaced_is
          ∙ c.pieces.invariant.joined n m;
    }

pub returns-in-None-clause-joined : goal.returns-in-None-clause-joined
returns-in-None-clause-joined c = λ n.
    let spaced_is : c.push.new.self.items ≡ c.pieces.line.items ++ spaced c.pieces.piece.now =
    pushed_space c.pieces.line.items c.pieces.piece.now c.extend_from_slice.new.self.items
    c.push.new.self.items
    c.in_ok-extend_from_slice.ensures.items c.in_ok-push.ensures.items in
    sym (c.pieces.invariant.joined n 0)
    ∙ join_last n 0 c.pieces.line.items c.push.new.self.items c.pieces.piece.now c.pieces.self
    c.next_physical.new.self
    (sym c.continues.ensures.last ∙ c.pieces-test.true) c.in-None.ensures spaced_is

pub returns-clause-joined : goal.returns-clause-joined
returns-clause-joined c = λ n.
    sym (c.pieces.invariant.joined n 0)
    ∙ join_end n 0 c.pieces.line.items c.extend_from_slice-2.new.self.items c.pieces.piece.now
    c.pieces.self
    (sym c.continues.ensures.last ∙ c.pieces-test.false) c.in_ok-extend_from_slice-2.ensures.items
