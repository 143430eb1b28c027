use Rattle.std.proofs.Common.{eqb, ◌∙◌, ap, sym, ◌++◌, append-nil, take}
use Rattle.std.specs.List.{flat_map}
use Rattle.eqc_pair.specs.Matched.{line_words, order_words}
use Rattle.eqc_pair.proofs.OrderLemmas.{made_more, made_last, flat_joins}
use Rattle.eqc_pair.proofs.order.order_words.Goals as goal
use Rattle.eqc_netlist.proofs.NameSetLaws.{bytes_in}

pub lines-preserved : goal.lines-preserved
lines-preserved c =
    made_more (flat_map line_words) (flat_joins line_words) (λ b. eqb b 10)
    (bytes_in c.lines.words.items) (bytes_in c.push_words.new.words.items)
    (order_words c.args.text.now) c.lines.rest.now c.find_byte-end.result c.in-Some.others.now
    c.find_byte-end.ensures c.in-Some.ensures
    c.lines.invariant
    (c.in_ok-push_words.ensures ∙ ap (λ l. bytes_in c.lines.words.items ++ l)
    (sym (append-nil (line_words (take c.find_byte-end.result c.lines.rest.now)))))

pub returns-in-None : goal.returns-in-None
returns-in-None c =
    made_last (flat_map line_words) (flat_joins line_words) (λ b. eqb b 10)
    (bytes_in c.lines.words.items) (bytes_in c.push_words.new.words.items)
    (order_words c.args.text.now) c.lines.rest.now c.find_byte-end.result c.find_byte-end.ensures
    c.in-None.ensures c.lines.invariant
    (c.in_ok-push_words.ensures ∙ ap (λ l. bytes_in c.lines.words.items ++ l)
    (sym (append-nil (line_words (take c.find_byte-end.result c.lines.rest.now)))))
