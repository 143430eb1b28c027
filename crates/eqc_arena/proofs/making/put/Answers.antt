use Rattle.std.proofs.Common.{◌≡◌, ℕ, ◌^◌, ◌<◌, [], ◌∷◌, ◌++◌, sym, subst, ◌∙◌}
use Rattle.eqc_tree.specs.Word.{node_word}
use Rattle.eqc_core.specs.Words.{slots_of}
use Rattle.eqc_core.specs.Tables.{table_word}
use Rattle.eqc_guard.proofs.Making.{held_small}
use Rattle.eqc_arena.specs.Changing.{Exchanges}
use Rattle.eqc_arena.proofs.Changing.{goes, came_held}
use Rattle.eqc_arena.proofs.Putting.{may_make, made, home_made, inserted}
use Rattle.eqc_arena.proofs.making.put.Goals as goal

pub pack_node-word-requires-clause-lo : goal.pack_node-word-requires-clause-lo
pack_node-word-requires-clause-lo c = subst (λ (n : ℕ). n < 2 ^ 20) (sym c.number.ensures)
    (held_small c.args.worker.now.known c.args.low.now.number c.recall_laws.ensures
    c.requires.low_held)

pub pack_node-word-requires-clause-hi : goal.pack_node-word-requires-clause-hi
pack_node-word-requires-clause-hi c = subst (λ (n : ℕ). n < 2 ^ 20) (sym c.number-2.ensures)
    (held_small c.args.worker.now.known c.args.high.now.number c.recall_laws.ensures
    c.requires.high_held)

pub write_node-requires : goal.write_node-requires
write_node-requires c =
    may_make c.args.map.now.entries c.args.slot c.args.var c.args.low.now.number
    c.args.high.now.number c.args.worker.now c.copies.new.worker
    c.requires c.in_ok-first.ensures.copied (c.in_ok-first.ensures.room c.requires.room)
    c.in_ok-first.first.number c.in_ok-first.second.number c.in_ok-first.ensures.names.0
    c.in_ok-first.ensures.names.1

pub returns-in-Ok-clause-made : goal.returns-in-Ok-clause-made
returns-in-Ok-clause-made c =
    made c.args.map.now.entries c.args.slot c.args.var c.args.low.now.number c.args.high.now.number
    c.args.worker.now c.copies.new.worker
    c.requires c.in_ok-first.ensures.copied (c.in_ok-first.ensures.room c.requires.room)
    c.write_node.new.self
    c.in_ok-first.first.number c.in_ok-first.second.number c.write_node.result.number
    c.in_ok-first.ensures.names.0 c.in_ok-first.ensures.names.1
    c.recall_laws.ensures c.write_node.ensures.step c.write_node.ensures.name
    c.write_node.ensures.tree

pub returns-in-Ok-clause-home : goal.returns-in-Ok-clause-home
returns-in-Ok-clause-home c = λ s home.
    let names : node_word c.args.var c.in_ok-first.first.number c.in_ok-first.second.number
    ≡ c.pack_node-word.result =
    (λ i. node_word c.args.var ((c.in_ok-first.ensures.names.0 ∙ sym c.number.ensures) i)
    ((c.in_ok-first.ensures.names.1 ∙ sym c.number-2.ensures) i)) ∙ sym c.pack_node-word.ensures
    in
    let absent : table_word c.pack_node-word.result c.args.map.now.entries ≡ 0 =
    subst (λ (w : ℕ). table_word w c.args.map.now.entries ≡ 0)
    ((λ i. node_word c.args.var (sym c.number.ensures i) (sym c.number-2.ensures i))
    ∙ sym c.pack_node-word.ensures) c.requires.new in
    home_made c.args.map.now.entries c.args.slot c.args.var c.args.low.now.number
    c.args.high.now.number c.args.worker.now c.copies.new.worker
    c.requires c.in_ok-first.ensures.copied (c.in_ok-first.ensures.room c.requires.room)
    c.write_node.new.self
    c.in_ok-first.first.number c.in_ok-first.second.number c.write_node.result.number
    c.in_ok-first.ensures.names.0 c.in_ok-first.ensures.names.1
    c.recall_laws.ensures c.write_node.ensures.step c.write_node.ensures.name
    c.write_node.ensures.tree
    s c.insert.new.self.entries
    (c.in-Ok.ensures.entries ∙ (inserted c.pack_node-word.result c.args.slot c.args.map.now.entries
    absent ∙ (λ i. c.args.map.now.entries ++ (sym names i, c.args.slot) ∷ []))) home

pub give_back-requires-clause-held : goal.give_back-requires-clause-held
give_back-requires-clause-held c =
    let came : Exchanges [] (slots_of (c.in_ok-first.first.number ∷ c.in_ok-first.second.number
    ∷ [])) c.args.worker.now c.copies.new.worker =
    subst (λ (p : ℕ × ℕ). Exchanges [] (slots_of (p.0 ∷ p.1 ∷ [])) c.args.worker.now
    c.copies.new.worker)
    (λ i. (sym c.in_ok-first.ensures.names.0 i, sym c.in_ok-first.ensures.names.1 i))
    c.in_ok-first.ensures.copied in
    came_held c.in_ok-first.first.number (c.in_ok-first.second.number ∷ []) came

pub give_back-requires-in-Err-clause-held : goal.give_back-requires-in-Err-clause-held
give_back-requires-in-Err-clause-held c =
    let came : Exchanges [] (slots_of (c.in_ok-first.first.number ∷ c.in_ok-first.second.number
    ∷ [])) c.args.worker.now c.copies.new.worker =
    subst (λ (p : ℕ × ℕ). Exchanges [] (slots_of (p.0 ∷ p.1 ∷ [])) c.args.worker.now
    c.copies.new.worker)
    (λ i. (sym c.in_ok-first.ensures.names.0 i, sym c.in_ok-first.ensures.names.1 i))
    c.in_ok-first.ensures.copied in
    came_held c.in_ok-first.second.number [] (goes c.in_ok-first.first.number
    (c.in_ok-first.second.number ∷ []) came c.give_back.ensures)

pub returns-in-Err-clause-still : goal.returns-in-Err-clause-still
returns-in-Err-clause-still c =
    let came : Exchanges [] (slots_of (c.in_ok-first.first.number ∷ c.in_ok-first.second.number
    ∷ [])) c.args.worker.now c.copies.new.worker =
    subst (λ (p : ℕ × ℕ). Exchanges [] (slots_of (p.0 ∷ p.1 ∷ [])) c.args.worker.now
    c.copies.new.worker)
    (λ i. (sym c.in_ok-first.ensures.names.0 i, sym c.in_ok-first.ensures.names.1 i))
    c.in_ok-first.ensures.copied in
    goes c.in_ok-first.second.number [] (goes c.in_ok-first.first.number
    (c.in_ok-first.second.number ∷ []) came c.give_back.ensures) c.give_back-in-Err.ensures
