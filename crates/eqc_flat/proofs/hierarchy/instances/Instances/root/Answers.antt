use Rattle.std.proofs.Common.{◌≡◌, rules, arith, refl, [], ◌∷◌}
use Rattle.eqc_flat.proofs.InstanceLaws.{root_too_many, found_root}
use Rattle.eqc_flat.proofs.hierarchy.instances.Instances.root.Goals as goal

pub returns-then-signals-gt-LIMIT : goal.returns-then-signals-gt-LIMIT
returns-then-signals-gt-LIMIT c = root_too_many c.args.naming.now c.args.top c.count-signals.result
    c.requires.growing c.count-signals.ensures c.if-signals-gt-LIMIT.true

pub returns : goal.returns
returns c =
    let models : c.push.new.self.items ≡ c.args.top ∷ [] = search rules in
    let firsts : c.push-2.new.self.items ≡ 0 ∷ [] = search rules in
    let places : c.new.result.items ≡ [] = search rules in (
      refl,
      rw (models, firsts, places) (found_root c.args.naming.now c.args.top
          c.count-signals.result c.requires.growing c.count-signals.ensures
          (omega (arith, c.if-signals-gt-LIMIT.false))),
    )
