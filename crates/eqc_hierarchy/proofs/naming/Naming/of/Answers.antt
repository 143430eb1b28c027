use Rattle.std.proofs.Common.{◌<◌, ◌++◌, ◌∙◌, sym, ap, arith, map, length, List, ℕ}
use Rattle.std.specs.List.{flat_map}
use Rattle.std.proofs.lemmas.List.{take_all}
use Rattle.eqc_hierarchy.specs.Hierarchy.{model}
use Rattle.eqc_hierarchy.specs.Signals.{names_of}
use Rattle.eqc_hierarchy.specs.Columns.{columns_of}
use Rattle.eqc_hierarchy.proofs.NamingLaws.{sets_more, columns_more}
use Rattle.eqc_hierarchy.proofs.naming.Naming.of.Goals as goal

pub loop-m-preserved : goal.loop-m-preserved
loop-m-preserved c =
    let library = c.args.library.now in
    let m = c.loop-m.m in
    let inside : m < length library = omega (arith, c.loop-m-test.true, c.models-m-end.ensures) in
    record {
      sets = sets_more library m c.loop-m.sets.items c.push.new.self.items c.in_ok-names_of.field-0
          c.loop-m.invariant.sets inside c.in_ok-names_of.ensures.names c.in_ok-push.ensures.items;
      columns = c.in_ok-names_of.ensures.columns
          ∙ (ap (λ (l : List (List ℕ)). l ++ columns_of (model library m))
          c.loop-m.invariant.columns ∙ sym (columns_more library m inside));
    }

pub invariant_of-naming : goal.invariant_of-naming
invariant_of-naming c = c.loop-m.invariant.sets
    ∙ ap (map names_of) (take_all c.loop-m.m c.args.library.now (omega (
      arith,
      c.loop-m-test.false,
      c.models-m-end.ensures,
    )))

pub returns-clause-columns : goal.returns-clause-columns
returns-clause-columns c = c.loop-m.invariant.columns
    ∙ ap (flat_map columns_of) (take_all c.loop-m.m c.args.library.now
    (omega (arith, c.loop-m-test.false, c.models-m-end.ensures)))
