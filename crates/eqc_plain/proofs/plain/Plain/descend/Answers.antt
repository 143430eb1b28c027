use Rattle.std.proofs.Common.{◌≡◌, ◌++◌, ◌∷◌, [], min, arith, rules}
use Rattle.eqc_plain.specs.declared.task.Task.TheVariants.{Low}
use Rattle.eqc_plain.specs.Store.{root, tree_at}
use Rattle.eqc_plain.specs.Meaning.{meaning_of}
use Rattle.eqc_plain.proofs.Combining.{stays}
use Rattle.eqc_plain.proofs.Meanings.{top_below, halves_of}
use Rattle.eqc_plain.proofs.Tasks.{expanded_step}
use Rattle.eqc_plain.proofs.plain.Plain.descend.Goals as goal

pub cofactors-f_low-requires-clause-below : goal.cofactors-f_low-requires-clause-below
cofactors-f_low-requires-clause-below c =
    omega (
      arith,
      top_below c.args.self.now.store.lawful c.args.f c.args.g c.requires.f c.requires.g
          c.requires.inner,
      c.root.ensures,
      c.root-2.ensures,
      c.min-variable.ensures,
    )

pub cofactors-g_low-requires-clause-below : goal.cofactors-g_low-requires-clause-below
cofactors-g_low-requires-clause-below c =
    omega (
      arith,
      top_below c.args.self.now.store.lawful c.args.f c.args.g c.requires.f c.requires.g
          c.requires.inner,
      c.root.ensures,
      c.root-2.ensures,
      c.min-variable.ensures,
    )

pub returns-clause-steps : goal.returns-clause-steps
returns-clause-steps c =
    let s = c.args.self.now.store in
    let m = meaning_of s.variables s.nodes in
    let v = c.min-variable.result in
    let items : c.push_reserved.new.self.items ≡ c.args.self.now.tasks.items
    ++ Low c.args.f c.args.g v c.cofactors-f_low.result.1 c.cofactors-g_low.result.1 ∷ [] =
    search rules in
    let e : v ≡ min (root s.variables (tree_at s.nodes c.args.f))
    (root s.variables (tree_at s.nodes c.args.g)) =
    omega (arith, c.root.ensures, c.root-2.ensures, c.min-variable.ensures) in
    let below = top_below s.lawful c.args.f c.args.g c.requires.f c.requires.g c.requires.inner in
    expanded_step m m c.args.self.now.tasks.items c.push_reserved.new.self.items c.args.f c.args.g v
    c.cofactors-f_low.result.0 c.cofactors-f_low.result.1
    c.cofactors-g_low.result.0 c.cofactors-g_low.result.1 items (stays m) c.requires.f c.requires.g
    e (omega arith)
    (halves_of c.cofactors-f_low.ensures) (halves_of c.cofactors-g_low.ensures)
