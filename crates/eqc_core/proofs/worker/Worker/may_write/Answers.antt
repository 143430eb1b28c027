use Rattle.std.proofs.Common.{sym, refl}
use Rattle.eqc_tree.specs.Word.{node_word}
use Rattle.eqc_core.proofs.Bounds.{node_children}
use Rattle.eqc_core.proofs.Stored.{may_place, are_held_as}
use Rattle.eqc_core.proofs.worker.Worker.may_write.Goals as goal

pub returns-then-not-are_held : goal.returns-then-not-are_held
returns-then-not-are_held c = λ z.
    let names = node_children c.args.variable c.args.low c.args.high c.requires.low c.requires.high
    in (
      (λ t. absurd (cc)),
      (λ may. absurd (let f =
          c.if-not-are_held.ensures.1 (are_held_as _ _ _ _ names (sym c.deref.ensures.value) may.4) in
          cc)),
    )

pub returns-in-Some : goal.returns-in-Some
returns-in-Some c = λ z.
    let names = node_children c.args.variable c.args.low c.args.high c.requires.low c.requires.high
    in
    let held = are_held_as _ _ _ _ (sym names) c.deref.ensures.value (c.if-not-are_held.ensures.0
    refl) in
    let some_draft = c.if-is_none.ensures in
    let p = may_place z c.args.self.now c.in-Some.hand (node_word c.args.variable c.args.low
    c.args.high) c.if-self-ne0.false some_draft c.in-Some.is held in
    ((λ t. p.0 (c.has_room.ensures.0 t)), (λ may. c.has_room.ensures.1 (p.1 may)))
