use Rattle.std.proofs.Common.{◌+◌, ◌<◌, ◌≤◌, arith}
use Rattle.eqc_guard.specs.Rule.{nodes_from}
use Rattle.eqc_arena.proofs.References.{gives}
use Rattle.eqc_arena.proofs.Taking.{constant_gives, slot_goes, slot_gives}
use Rattle.eqc_arena.proofs.collecting.give_child.Goals as goal

pub returns-then-number-lt2-clause-gives : goal.returns-then-number-lt2-clause-gives
returns-then-number-lt2-clause-gives c = gives c.args.child.number c.args.worker.now c.down.new.self
    c.recall_laws.ensures c.requires.held c.down.ensures.constant c.down.ensures.step

pub returns-then-number-lt2-clause-tries : goal.returns-then-number-lt2-clause-tries
returns-then-number-lt2-clause-tries c =
    let small : c.args.child.number < 2 = let lt = c.if-number-lt2.true in
    let e = c.number.ensures in
    omega arith in
    constant_gives c.args.child.number c.args.worker.now c.down.new.self small
    (c.down.ensures.constant small)

pub returns-clause-gives : goal.returns-clause-gives
returns-clause-gives c =
    let two : 2 ≤ c.args.child.number = let le = c.if-number-lt2.false in let e = c.number.ensures
    in omega arith in
    slot_goes c.args.child.number c.read_node-word.result 0 0 c.args.worker.now
    c.read_node-word.new.self c.down_from-owners.new.self two
    c.requires.held c.read_node-word.ensures.step c.down_from-owners.ensures.step

pub returns-clause-tries : goal.returns-clause-tries
returns-clause-tries c =
    let two : 2 ≤ c.args.child.number = let le = c.if-number-lt2.false in let e = c.number.ensures
    in omega arith in
    slot_gives c.args.child.number c.read_node-word.result
    (nodes_from c.args.worker.now.known.core.sizes + c.args.child.number)
    c.down_from-owners.result c.args.worker.now c.read_node-word.new.self
    c.down_from-owners.new.self two c.requires.held
    c.read_node-word.ensures.step c.down_from-owners.ensures.step c.read_node-word.ensures.copies
    c.down_from-owners.ensures.copies
