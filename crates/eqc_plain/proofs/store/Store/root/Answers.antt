use Rattle.std.proofs.Common.{ap, sym, ◌∙◌}
use Rattle.eqc_plain.specs.Store.{variable_of}
use Rattle.eqc_plain.proofs.Trees.{root-constant, root-node}
use Rattle.eqc_plain.proofs.store.Store.root.Goals as goal

pub returns-then-x-lt2 : goal.returns-then-x-lt2
returns-then-x-lt2 c =
    let s = c.args.self.now in
    sym (root-constant s.variables s.nodes c.args.x c.if-x-lt2.true)

pub returns : goal.returns
unfolding variable_of
returns c =
    let s = c.args.self.now in
    ap (λ p. p.0) c.unpack_node-variable.ensures.fields ∙ ap variable_of c.word.ensures
    ∙ sym (root-node s.lawful c.args.x c.if-x-lt2.false c.requires)
