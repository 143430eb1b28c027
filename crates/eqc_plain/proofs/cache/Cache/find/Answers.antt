use Rattle.std.proofs.Common.{◌≡◌, ap, ◌∙◌, sym, rules, ◌/◌, ◌%◌, ◌^◌, get_or}
use Rattle.std.proofs.lemmas.List.{get_or_default}
use Rattle.eqc_tree.specs.Word.{cell_word, cell_result}
use Rattle.eqc_tree.specs.Operation.{tag_of}
use Rattle.eqc_plain.proofs.Caching.{cell_found, ordered_small}
use Rattle.eqc_plain.proofs.cache.Cache.find.Goals as goal

pub returns-clause-found : goal.returns-clause-found
returns-clause-found c =
    let cells = c.args.self.now.cells.items in
    let k = c.place.result in
    let m = c.ordered_operands-p.ensures.operands in
    let small = ordered_small c.args.op c.args.f c.args.g c.ordered_operands-p.result.0
    c.ordered_operands-p.result.1 (2 ^ 20) c.requires.f c.requires.g m in
    let cell : c.index-cell.result.now ≡ get_or cells k 0 = c.index-cell.ensures
    ∙ get_or_default cells k c.index-cell.result.now 0 c.place.ensures.within in
    let word : c.pack_cell-word.result ≡ cell_word (tag_of c.args.op) c.ordered_operands-p.result.0
    c.ordered_operands-p.result.1 0 = search rules in
    let r : c.unpack_cell-r.result.3 ≡ get_or cells k 0 % 2 ^ 20 =
    ap (λ p. p.3) c.unpack_cell-r.ensures.fields ∙ ap cell_result cell in
    let d : get_or cells k 0 / 2 ^ 20 ≡ cell_word (tag_of c.args.op) c.ordered_operands-p.result.0
    c.ordered_operands-p.result.1 0 / 2 ^ 20 = ap (λ n. n / 2 ^ 20) (sym cell)
    ∙ (c.if-cell-word.false ∙ ap (λ n. n / 2 ^ 20) word) in
    cell_found cells c.args.op c.args.f c.args.g c.ordered_operands-p.result.0
    c.ordered_operands-p.result.1 k c.unpack_cell-r.result.3 small.0 small.1 m
    c.place.ensures.within d r
