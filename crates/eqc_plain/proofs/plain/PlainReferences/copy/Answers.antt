use Rattle.std.proofs.Common.{sym, subst, ◌≡◌}
use Rattle.std.specs.Prelude.{OnErr}
use Rattle.eqc_tree.specs.Tree.{Tree, value}
use Rattle.eqc_tree.specs.Holding.{Gains, copies}
use Rattle.eqc_plain.specs.Extending.{holding_in}
use Rattle.eqc_plain.specs.Referring.{entry_of}
use Rattle.eqc_plain.proofs.Laws.{held_is}
use Rattle.eqc_plain.proofs.plain.PlainReferences.copy.Goals as goal

pub hold-requires : goal.hold-requires
hold-requires c =
    let s = c.args.self.now.store in
    (held_is s.variables s.nodes _ s.counts.items _ c.requires).within

pub returns-clause-ok : goal.returns-clause-ok
returns-clause-ok c =
    let s = c.args.self.now.store in
    let k = held_is s.variables s.nodes _ s.counts.items _ c.requires in
    let Q : Tree → Type 0 = λ t. Rattle.std.specs.Result.IfOk c.hold.result
    (λ r. Gains (holding_in s) (holding_in c.hold.new.self) (entry_of r) (λ a. value t a)) in
    subst Q (sym k.tree) c.hold.ensures.ok

pub returns-clause-full : goal.returns-clause-full
returns-clause-full c =
    let s = c.args.self.now.store in
    let k = held_is s.variables s.nodes _ s.counts.items _ c.requires in
    let Q : Tree → Type 0 = λ t. OnErr c.hold.result (copies (holding_in s) (record {
      number =
          c.args.f.now.node;
      tree = t;
    }) ≡ 4294967295) in
    subst Q (sym k.tree) c.hold.ensures.full
