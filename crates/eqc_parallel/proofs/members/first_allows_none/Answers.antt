use Rattle.std.proofs.Common.{rules, ◌≡◌, ◌≤◌, length, vec_len, arith, sym, subst}
use Rattle.std.proofs.lemmas.List.Elements.{All-set}
use Rattle.eqc_parallel.proofs.members.first_allows_none.Goals as goal

pub allows_none-requires : goal.allows_none-requires
allows_none-requires g c =
    let size : length c.args.members.now.items ≡ vec_len c.args.members.now = search rules in
    record {
      variables =
          subst (λ (d : g.row.D.Denot). length c.args.pair.now.first.inputs
          ≤ (g.D.References.holding d).variables)
          (sym c.index_mut.ensures.value) (c.requires.variables 0 c.index_mut.result.now
          (omega (arith, size, c.requires.some)));
    }

pub returns : goal.returns
returns g c =
    let size : length c.args.members.now.items ≡ vec_len c.args.members.now = search rules in
    let first =
    subst (λ (d : g.row.D.Denot). length c.args.pair.now.first.inputs
    ≤ (g.D.References.holding d).variables) (sym c.index_mut.ensures.value)
    (c.requires.variables 0 c.index_mut.result.now (omega (arith, size, c.requires.some))) in
    let still : length c.args.pair.now.first.inputs
    ≤ (g.D.References.holding c.allows_none.new.d).variables =
    omega (arith, first, c.allows_none.ensures.kept.variables) in
    record {
      none = c.allows_none.ensures.none;
      members = record {
        outputs = c.requires.outputs;
        some = c.requires.some;
        numbers = c.requires.numbers;
        variables =
            All-set (λ (d : g.row.D.Denot). length c.args.pair.now.first.inputs
            ≤ (g.D.References.holding d).variables) c.args.members.now.items 0 c.allows_none.new.d
            still c.requires.variables;
      };
    }
