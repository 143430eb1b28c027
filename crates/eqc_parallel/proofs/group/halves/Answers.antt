use Rattle.std.proofs.Common.{◌≤◌, length, refl, ◌∙◌, ap, arith}
use Rattle.std.proofs.lemmas.List.Elements.{All-take, All-drop}
use Rattle.eqc_parallel.specs.declared.ticket.View.{View}
use Rattle.eqc_parallel.proofs.group.halves.Goals as goal

pub returns : goal.returns
returns g c =
    let h = c.requires.seated in
    let mine = c.halve-other.ensures.kept in
    let theirs = c.halve-other.ensures.given in
    let split = c.in_ok-others.ensures in
    let kept = ap (λ (v : View). v.seats) mine.1 in
    let given = ap (λ (v : View). v.seats) theirs.1 in
    record {
      front = record {
        fresh = record {
          own = mine.0;
          outputs = h.fresh.outputs;
          seats = omega (arith, kept, h.fresh.seats, split.len, c.len.ensures, c.len-2.ensures);
          drawn = ap (λ (v : View). v.drawn) mine.1 ∙ h.fresh.drawn;
        };
        some = omega (arith, split.len, c.len.ensures, c.len-2.ensures, c.requires.several);
        numbers = omega (arith, h.numbers, split.len, c.len.ensures, c.len-2.ensures);
        variables = rw split.items (All-take (λ d. length c.args.pair.now.first.inputs
            ≤ (g.D.References.holding d).variables) _ _ h.variables);
      };
      back = record {
        fresh = record {
          own = theirs.0;
          outputs = h.fresh.outputs;
          seats = omega (
            arith,
            given,
            h.fresh.seats,
            split.tail_len,
            c.len.ensures,
            c.len-2.ensures,
          );
          drawn = ap (λ (v : View). v.drawn) theirs.1;
        };
        some = omega (arith, split.tail_len, c.len.ensures, c.len-2.ensures, c.requires.several);
        numbers = omega (arith, h.numbers, split.tail_len, c.len.ensures, c.len-2.ensures);
        variables = rw split.tail (All-drop (λ d. length c.args.pair.now.first.inputs
            ≤ (g.D.References.holding d).variables) _ _ h.variables);
      };
      all = omega (arith, split.len, split.tail_len, c.len.ensures, c.len-2.ensures);
      numbers = (refl, omega (arith, split.len, c.len.ensures, c.len-2.ensures));
    }
