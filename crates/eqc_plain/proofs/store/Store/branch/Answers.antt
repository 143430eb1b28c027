use Rattle.std.proofs.Common.{◌≡◌, ◌-◌, ap, ◌∙◌, get_or}
use Rattle.eqc_plain.specs.Store.{variable_of, low_of, high_of}
use Rattle.eqc_plain.proofs.Searching.{is_branch}
use Rattle.eqc_plain.proofs.store.Store.branch.Goals as goal

pub returns : goal.returns
unfolding variable_of low_of high_of
returns c =
    let s = c.args.self.now in
    let v : c.unpack_node-variable.result.0 ≡ variable_of (get_or s.nodes (c.args.x - 2) 0) =
    ap (λ p. p.0) c.unpack_node-variable.ensures.fields ∙ ap variable_of c.word.ensures in
    let l : c.unpack_node-variable.result.1 ≡ low_of (get_or s.nodes (c.args.x - 2) 0) =
    ap (λ p. p.1) c.unpack_node-variable.ensures.fields ∙ ap low_of c.word.ensures in
    let h : c.unpack_node-variable.result.2 ≡ high_of (get_or s.nodes (c.args.x - 2) 0) =
    ap (λ p. p.2) c.unpack_node-variable.ensures.fields ∙ ap high_of c.word.ensures in
    is_branch s.lawful c.args.x _ _ _ c.requires.node c.requires.within v l h
