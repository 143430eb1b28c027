use Rattle.std.proofs.Common.{◌≡◌, ◌^◌, rules}
use Rattle.eqc_tree.specs.Word.{cell_word}
use Rattle.eqc_tree.specs.Operation.{tag_of}
use Rattle.eqc_plain.proofs.Caching.{written, ordered_small}
use Rattle.eqc_plain.proofs.cache.Cache.keep.Goals as goal

pub returns : goal.returns
returns c =
    let m = c.ordered_operands-p.ensures.operands in
    let small = ordered_small c.args.op c.args.f c.args.g c.ordered_operands-p.result.0
    c.ordered_operands-p.result.1 (2 ^ 20) c.requires.f c.requires.g m in
    let word : c.pack_cell-word.result ≡ cell_word (tag_of c.args.op) c.ordered_operands-p.result.0
    c.ordered_operands-p.result.1 c.args.r = search rules in
    rw word
    (written c.args.self.now.cells.items c.args.op c.args.f c.args.g c.ordered_operands-p.result.0
    c.ordered_operands-p.result.1 c.args.r
    c.place-place.result small.0 small.1 c.requires.r m c.place-place.ensures.within)
