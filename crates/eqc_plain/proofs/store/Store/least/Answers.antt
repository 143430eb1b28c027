use Rattle.std.proofs.Common.{◌≡◌, ◌∷◌, ◌++◌, [], length, ap, length-append, arith, rules}
use Rattle.eqc_tree.specs.Tree.{value}
use Rattle.eqc_tree.proofs.Choosing.{ends_chosen}
use Rattle.eqc_plain.specs.Store.{tree_at}
use Rattle.eqc_plain.specs.Searching.{given}
use Rattle.eqc_plain.proofs.Choosing.{decides_at}
use Rattle.eqc_plain.proofs.store.Store.least.Goals as goal

pub positions-preserved : goal.positions-preserved
positions-preserved c =
    let s = c.args.self.now in
    let i = c.positions.invariant in
    let e = c.choose-value.ensures in
    let more : c.push.new.self.items ≡ c.positions.values.items ++ c.choose-value.result ∷ [] =
    search rules in
    record {
      search = e.search;
      long = omega (
        arith,
        i.long,
        ap length more,
        length-append c.positions.values.items
            (c.choose-value.result ∷ []),
      );
      decided =
          decides_at c.args.variables.now (value (tree_at s.nodes c.args.f))
          (record { distinct = c.requires.distinct; depends = c.requires.depends })
          c.positions.search.choices.items
          c.choose-value.new.self.choices.items c.positions.values.items c.push.new.self.items
          c.choose-value.result
          (given c.choose-value.new.self.witness.items) c.positions.k i.long c.positions-test.true
          i.decided e.choice e.search.passes
          e.search.agrees e.least more;
    }

pub returns : goal.returns
returns c =
    let s = c.args.self.now in
    let i = c.positions.invariant in
    ends_chosen c.args.variables.now (value (tree_at s.nodes c.args.f)) _ c.positions.values.items
    (record { distinct = c.requires.distinct; depends = c.requires.depends }) i.decided.chosen
    (omega arith)
