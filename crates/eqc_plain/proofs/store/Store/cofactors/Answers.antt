use Rattle.std.proofs.Common.{◌≡◌, ◌≢◌, ◌-◌, ap, arith, sym, ◌∙◌, get_or}
use Rattle.eqc_plain.specs.Store.{variable_of, low_of, high_of, root, tree_at}
use Rattle.eqc_plain.proofs.Trees.{root-constant, root-node}
use Rattle.eqc_plain.proofs.Growing.{cofactors_same, cofactors_node}
use Rattle.eqc_plain.proofs.store.Store.cofactors.Goals as goal

pub returns-then-x-lt2 : goal.returns-then-x-lt2
returns-then-x-lt2 c =
    let s = c.args.self.now in
    cofactors_same s.variables s.nodes c.args.variable c.args.x c.requires.within
    (omega (
      arith,
      root-constant s.variables s.nodes c.args.x c.if-x-lt2.true,
      c.requires.below,
    ))

pub returns-then-top-variable : goal.returns-then-top-variable
unfolding variable_of
returns-then-top-variable c =
    let s = c.args.self.now in
    let e : c.unpack_node-top.result.0 ≡ variable_of (get_or s.nodes (c.args.x - 2) 0) =
    ap (λ p. p.0) c.unpack_node-top.ensures.fields ∙ ap variable_of c.word.ensures in
    let r = root-node s.lawful c.args.x c.if-x-lt2.false c.requires.within in
    let n : c.args.variable ≢ root s.variables (tree_at s.nodes c.args.x) =
    λ z. c.if-top-variable.true (e ∙ (sym r ∙ sym z)) in
    cofactors_same s.variables s.nodes c.args.variable c.args.x c.requires.within
    (omega (arith, n, c.requires.root))

pub returns : goal.returns
unfolding variable_of low_of high_of
returns c =
    let s = c.args.self.now in
    let e : c.unpack_node-top.result.0 ≡ variable_of (get_or s.nodes (c.args.x - 2) 0) =
    ap (λ p. p.0) c.unpack_node-top.ensures.fields ∙ ap variable_of c.word.ensures in
    let l : c.unpack_node-top.result.1 ≡ low_of (get_or s.nodes (c.args.x - 2) 0) =
    ap (λ p. p.1) c.unpack_node-top.ensures.fields ∙ ap low_of c.word.ensures in
    let h : c.unpack_node-top.result.2 ≡ high_of (get_or s.nodes (c.args.x - 2) 0) =
    ap (λ p. p.2) c.unpack_node-top.ensures.fields ∙ ap high_of c.word.ensures in
    rw (l, h) (cofactors_node s.lawful c.args.variable c.args.x c.if-x-lt2.false c.requires.within
    (sym e ∙ c.if-top-variable.false))
