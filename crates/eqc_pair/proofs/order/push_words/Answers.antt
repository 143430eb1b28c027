use Rattle.std.proofs.Common.{◌++◌, filter}
use Rattle.eqc_pair.specs.Matched.{is_blank, is_word, line_words}
use Rattle.eqc_pair.proofs.OrderLemmas.{made_more, made_last, filter_joins}
use Rattle.eqc_pair.proofs.order.push_words.Goals as goal
use Rattle.eqc_netlist.proofs.NameSetLaws.{bytes_in}

pub parts-preserved : goal.parts-preserved
parts-preserved c =
    made_more (filter is_word) filter_joins is_blank (bytes_in c.parts.words.items)
    (bytes_in c.push_part.new.words.items)
    (bytes_in c.args.words.now.items ++ line_words c.args.line.now) c.parts.rest.now
    c.find_blank-end.result c.in-Some.others.now
    c.find_blank-end.ensures c.in-Some.ensures c.parts.invariant c.in_ok-push_part.ensures

pub returns-in-None : goal.returns-in-None
returns-in-None c =
    made_last (filter is_word) filter_joins is_blank (bytes_in c.parts.words.items)
    (bytes_in c.push_part.new.words.items)
    (bytes_in c.args.words.now.items ++ line_words c.args.line.now) c.parts.rest.now
    c.find_blank-end.result c.find_blank-end.ensures
    c.in-None.ensures c.parts.invariant c.in_ok-push_part.ensures
