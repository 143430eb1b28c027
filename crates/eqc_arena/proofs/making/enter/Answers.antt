use Rattle.std.proofs.Common.{◌≡◌, ℕ, ◌^◌, ◌<◌, ap, sym, subst, ◌∙◌}
use Rattle.eqc_tree.specs.Word.{node_word}
use Rattle.eqc_core.specs.View.{View}
use Rattle.eqc_core.specs.Tables.{table_word}
use Rattle.eqc_guard.proofs.Making.{held_small}
use Rattle.eqc_arena.proofs.Changing.{sees}
use Rattle.eqc_arena.proofs.Entries.{home_stays}
use Rattle.eqc_arena.proofs.Entering.{missed, slot_there, kept, found_made, found_still, may_put}
use Rattle.eqc_arena.proofs.Entering.{then_made, given_up, home_claimed}
use Rattle.eqc_arena.proofs.making.enter.Goals as goal

pub pack_node-word-requires-clause-lo : goal.pack_node-word-requires-clause-lo
pack_node-word-requires-clause-lo c = subst (λ (n : ℕ). n < 2 ^ 20) (sym c.number.ensures)
    (held_small c.args.worker.now.known c.args.low.now.number c.recall_laws.ensures
    c.requires.low_held)

pub pack_node-word-requires-clause-hi : goal.pack_node-word-requires-clause-hi
pack_node-word-requires-clause-hi c = subst (λ (n : ℕ). n < 2 ^ 20) (sym c.number-2.ensures)
    (held_small c.args.worker.now.known c.args.high.now.number c.recall_laws.ensures
    c.requires.high_held)

pub up-requires-clause-slot : goal.up-requires-clause-slot
up-requires-clause-slot c =
    let is : c.pack_node-word.result ≡ node_word c.args.var c.args.low.now.number
    c.args.high.now.number = c.pack_node-word.ensures
    ∙ (λ i. node_word c.args.var (c.number.ensures i) (c.number-2.ensures i)) in
    (slot_there c.args.map.now.entries c.args.var c.args.low.now.number c.args.high.now.number
    c.args.worker.now c.recall_laws.ensures c.requires
    c.pack_node-word.result c.in-Some.slot.now is (sym c.in-Some.ensures.value)).0

pub up-requires-clause-there : goal.up-requires-clause-there
up-requires-clause-there c =
    let is : c.pack_node-word.result ≡ node_word c.args.var c.args.low.now.number
    c.args.high.now.number = c.pack_node-word.ensures
    ∙ (λ i. node_word c.args.var (c.number.ensures i) (c.number-2.ensures i)) in
    (slot_there c.args.map.now.entries c.args.var c.args.low.now.number c.args.high.now.number
    c.args.worker.now c.recall_laws.ensures c.requires
    c.pack_node-word.result c.in-Some.slot.now is (sym c.in-Some.ensures.value)).1

pub up-requires-clause-known : goal.up-requires-clause-known
up-requires-clause-known c =
    let is : c.pack_node-word.result ≡ node_word c.args.var c.args.low.now.number
    c.args.high.now.number = c.pack_node-word.ensures
    ∙ (λ i. node_word c.args.var (c.number.ensures i) (c.number-2.ensures i)) in
    kept c.args.map.now.entries c.args.var c.args.low.now.number c.args.high.now.number
    c.args.worker.now c.recall_laws.ensures c.requires
    c.pack_node-word.result c.in-Some.slot.now is (sym c.in-Some.ensures.value)

pub returns-in-Some-clause-made : goal.returns-in-Some-clause-made
returns-in-Some-clause-made c =
    let is : c.pack_node-word.result ≡ node_word c.args.var c.args.low.now.number
    c.args.high.now.number = c.pack_node-word.ensures
    ∙ (λ i. node_word c.args.var (c.number.ensures i) (c.number-2.ensures i)) in
    found_made c.args.map.now.entries c.args.var c.args.low.now.number c.args.high.now.number
    c.args.worker.now c.recall_laws.ensures c.requires
    c.pack_node-word.result c.in-Some.slot.now is (sym c.in-Some.ensures.value)
    c.up.new.self c.up.result c.up.ensures.name c.up.ensures.step c.up.ensures.tells

pub returns-in-Some-clause-still : goal.returns-in-Some-clause-still
returns-in-Some-clause-still c = found_still c.args.worker.now c.up.new.self c.up.result
    c.recall_laws.ensures c.up.ensures.still

pub returns-in_default-claim_free-clause-still : goal.returns-in_default-claim_free-clause-still
returns-in_default-claim_free-clause-still c = sees 2 c.args.worker.now.known.core.sizes.names
    c.args.worker.now c.claim_free.new.self (c.claim_free.ensures.lost c.in_default-claim_free.is)

pub put-requires : goal.put-requires
put-requires c =
    let is : c.pack_node-word.result ≡ node_word c.args.var c.args.low.now.number
    c.args.high.now.number = c.pack_node-word.ensures
    ∙ (λ i. node_word c.args.var (c.number.ensures i) (c.number-2.ensures i)) in
    may_put c.args.map.now.entries c.args.var c.args.low.now.number c.args.high.now.number
    c.args.worker.now c.recall_laws.ensures c.requires
    c.in-Some-claim_free.slot c.claim_free.new.self c.in-Some-claim_free.ensures.won
    (subst (λ (w : ℕ). table_word w c.args.map.now.entries ≡ 0) is (missed c.pack_node-word.result
    c.args.map.now.entries (sym c.in_default.ensures.value)))

pub returns-in-Ok-clause-made : goal.returns-in-Ok-clause-made
returns-in-Ok-clause-made c =
    then_made c.args.map.now.entries c.args.var c.args.low.now.number c.args.high.now.number
    c.args.worker.now c.recall_laws.ensures c.requires
    c.in-Some-claim_free.slot c.claim_free.new.self c.in-Some-claim_free.ensures.won
    c.in-Ok.node.number c.put.new.worker c.in-Ok.ensures.made

pub returns-in-Err-clause-still : goal.returns-in-Err-clause-still
returns-in-Err-clause-still c =
    given_up c.args.map.now.entries c.args.var c.args.low.now.number c.args.high.now.number
    c.args.worker.now c.recall_laws.ensures c.requires
    c.in-Some-claim_free.slot c.claim_free.new.self c.in-Some-claim_free.ensures.won
    c.put.new.worker c.unclaim.new.self c.in-Err.ensures.still c.unclaim.ensures.step

pub returns-in-Err-clause-home : goal.returns-in-Err-clause-home
returns-in-Err-clause-home c = λ s home.
    let mid =
    home_claimed c.args.map.now.entries c.args.var c.args.low.now.number c.args.high.now.number
    c.args.worker.now c.recall_laws.ensures
    c.requires c.in-Some-claim_free.slot c.claim_free.new.self c.in-Some-claim_free.ensures.won s
    c.args.map.now.entries home in
    home_stays s c.put.new.map.entries c.put.new.worker.known.core c.unclaim.new.self.known.core
    (ap (λ (v : View). v.hand) c.unclaim.ensures.step.known.core) (ap (λ (v : View). v.position)
    c.unclaim.ensures.step.known.core)
    (c.put.ensures.home s mid)
