use Rattle.std.proofs.Common.{◌≤◌, ◌-◌, ◌^◌, IfOk, OnErr, sym, subst}
use Rattle.eqc_tree.specs.Tree.{Tree, value}
use Rattle.eqc_tree.specs.Holding.{Gains, copies}
use Rattle.eqc_apply.specs.Extending.{holding_in}
use Rattle.eqc_apply.specs.Referring.{entry_of}
use Rattle.eqc_apply.proofs.Answering.{same_worker, referred_tree, is_referenced, referenced_held}
use Rattle.eqc_plain.proofs.Spending.{spends_as}
use Rattle.eqc_apply.proofs.diagrams.ApplierReferences.copy.Goals as goal

pub refer-requires : goal.refer-requires
refer-requires c = let n = c.args.self.now.names in referenced_held n c.args.f.now.name
    (is_referenced n c.args.f.now.at.value c.args.f.now.name c.requires)

pub returns-clause-ok : goal.returns-clause-ok
returns-clause-ok c =
    let n = c.args.self.now.names in
    subst (λ (t : Tree). IfOk c.refer.result (λ r. Gains (holding_in n)
    (holding_in c.refer.new.self) (entry_of r) (λ a. value t a)))
    (sym (referred_tree n c.args.f.now.at.value c.args.f.now.name c.requires)) c.refer.ensures.ok

pub returns-clause-full : goal.returns-clause-full
returns-clause-full c =
    let n = c.args.self.now.names in
    subst (λ (t : Tree). OnErr c.refer.result (2 ^ 32 - 1 ≤ copies (holding_in n) (record {
      number =
          c.args.f.now.name;
      tree = t;
    })))
    (sym (referred_tree n c.args.f.now.at.value c.args.f.now.name c.requires)) c.refer.ensures.full

pub returns-clause-worker : goal.returns-clause-worker
returns-clause-worker c = same_worker c.args.self.now.names.worker c.refer.new.self.worker
    c.refer.ensures.worker

pub returns-clause-turns : goal.returns-clause-turns
returns-clause-turns c = spends_as c.args.self.now.names.turns c.refer.new.self.turns
    c.refer.ensures.turns
