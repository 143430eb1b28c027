use Rattle.std.proofs.Common.{◌≡◌, ◌++◌, ◌∷◌, [], sym, ap, ◌∙◌, Some, None}
use Rattle.eqc_core.specs.View.{View, nowhere, hand_of}
use Rattle.eqc_core.specs.Words.{slots_of}
use Rattle.eqc_core.specs.Moves.{with_held, without_each}
use Rattle.eqc_core.specs.Machine.{active_view, with_table}
use Rattle.eqc_core.proofs.Bounds.{node_children}
use Rattle.eqc_core.proofs.worker.Worker.write.Goals as goal

pub insert-requires : goal.insert-requires
insert-requires c = λ e. c.requires.hand
    (sym (ap (λ (v : View). v.hand) (c.in_ok-hand_over.ensures.view nowhere)) ∙ e)

pub returns-clause-turns : goal.returns-clause-turns
returns-clause-turns c = record {
  active = c.forget.ensures.active ∙ (c.in_ok-insert.ensures.active
      ∙ c.in_ok-hand_over.ensures.active);
  view = λ z.
      let v = active_view z c.args.self.now in
      let names : c.args.low ∷ c.args.high ∷ [] ≡ _ =
      sym (node_children c.args.variable c.args.low c.args.high c.requires.low c.requires.high)
      in
      c.forget.ensures.view z
      ∙ (ap (λ (u : View). with_held u u.held) (c.in_ok-insert.ensures.view z)
      ∙ (ap (λ (u : View). with_held (with_table u ((hand_of u.hand).entries ++ (
        c.pack_node.result,
        c.draft_slot-draft.result,
      ) ∷ [])) u.held) (c.in_ok-hand_over.ensures.view z)
      ∙ (λ i.
      with_held
      (record v {
        draft = None;
        hand =
            Some (record (hand_of v.hand) {
              entries = (hand_of v.hand).entries
                  ++ (c.pack_node.ensures i, c.draft_slot-draft.ensures i) ∷ [];
            });
      })
      (without_each (slots_of (names i)) v.held ++ c.draft_slot-draft.ensures i ∷ []))));
}
