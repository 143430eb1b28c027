use Rattle.std.proofs.Common.{arith}
use Rattle.eqc_apply.proofs.Meanings.{extends_trans}
use Rattle.eqc_apply.proofs.Expanding.{top_few, root_was}
use Rattle.eqc_apply.proofs.held.Held.higher_root.Goals as goal

pub returns-clause-top : goal.returns-clause-top
returns-clause-top c =
    let n = c.args.self.now in
    let m = c.root-first.new.self in
    let a = c.root-first.ensures in
    let b = c.root-second.ensures in
    omega (
      arith,
      c.min.ensures,
      root_was n m c.args.f c.root-first.result a.names c.requires.f a.root,
      root_was n c.root-second.new.self c.args.g c.root-second.result
          (extends_trans n m c.root-second.new.self a.names b.names) c.requires.g b.root,
    )

pub returns-clause-below : goal.returns-clause-below
returns-clause-below c = λ inner.
    let a = c.root-first.ensures in
    let b = c.root-second.ensures in
    let s = a.names.variables in
    let t = b.names.variables in
    omega (
      arith,
      c.min.ensures,
      top_few c.args.f c.args.g c.root-first.result c.root-second.result c.args.self.now.variables
          (λ h. omega (arith, a.inner h, s)) (λ h. omega (arith, b.inner h, s, t)) inner,
    )

pub returns-clause-names : goal.returns-clause-names
returns-clause-names c = extends_trans c.args.self.now c.root-first.new.self c.root-second.new.self
    c.root-first.ensures.names c.root-second.ensures.names
