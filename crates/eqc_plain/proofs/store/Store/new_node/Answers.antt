use Rattle.std.proofs.Common.{◌≡◌, ◌<◌, ◌++◌, ◌∷◌, [], length, arith, refl, sym, ◌∙◌, ap, rules}
use Rattle.eqc_tree.specs.Holding.{Keeps}
use Rattle.eqc_tree.specs.Word.{node_word}
use Rattle.eqc_plain.specs.Store.{holding_of}
use Rattle.eqc_plain.proofs.Laws.{keeps_push}
use Rattle.eqc_plain.proofs.Growing.{may_stand, made, made_node}
use Rattle.eqc_plain.proofs.store.Store.new_node.Goals as goal

pub invariant_of-self-in-Ok-1 : goal.invariant_of-self-in-Ok-1
invariant_of-self-in-Ok-1 c =
    let s = c.args.self.now in
    let w = node_word c.args.variable c.args.low c.args.high in
    let cs : c.push.new.self.items ≡ s.counts.items ++ 0 ∷ [] = search rules in
    let ns : c.add.new.self ≡ s.nodes ++ w ∷ [] = c.in-Ok.ensures.added
    ∙ ap (λ x. s.nodes ++ x ∷ []) c.pack_node.ensures in
    let m = may_stand s.lawful c.args.variable c.args.low c.args.high (omega arith) c.requires.low
    c.requires.high c.requires.differ c.requires.above_low c.requires.above_high in
    let room : length s.nodes < s.limit = omega (
      arith,
      s.lawful.fits,
      c.if-len-self.false,
      c.len.ensures,
    ) in
    record {
      lawful = rw (ns, cs) (made s.lawful c.args.variable c.args.low c.args.high room m
          c.requires.absent);
    }

pub returns-clause-store : goal.returns-clause-store
returns-clause-store c =
    let s = c.args.self.now in
    let w = node_word c.args.variable c.args.low c.args.high in
    let cs : c.push.new.self.items ≡ s.counts.items ++ 0 ∷ [] = search rules in
    let ns : c.add.new.self ≡ s.nodes ++ w ∷ [] = c.in-Ok.ensures.added
    ∙ ap (λ x. s.nodes ++ x ∷ []) c.pack_node.ensures in
    let k : Keeps (holding_of s.variables s.nodes s.counts.items) (holding_of s.variables
    c.add.new.self c.push.new.self.items) =
    rw (ns, cs) (keeps_push s.variables s.nodes s.counts.items w s.lawful.counted) in
    record { grows = (w ∷ [], sym ns); keeps = k; variables = refl; limit = refl }

pub returns-clause-ok : goal.returns-clause-ok
returns-clause-ok c =
    let s = c.args.self.now in
    let w = node_word c.args.variable c.args.low c.args.high in
    let ns : c.add.new.self ≡ s.nodes ++ w ∷ [] = c.in-Ok.ensures.added
    ∙ ap (λ x. s.nodes ++ x ∷ []) c.pack_node.ensures in
    let last : length s.nodes ≡ c.in-Ok.slot = sym c.in-Ok.ensures.slot in
    let m = may_stand s.lawful c.args.variable c.args.low c.args.high (omega arith) c.requires.low
    c.requires.high c.requires.differ c.requires.above_low c.requires.above_high in
    rw (ns, ← last) (made_node s.variables s.nodes c.args.variable c.args.low c.args.high m)
