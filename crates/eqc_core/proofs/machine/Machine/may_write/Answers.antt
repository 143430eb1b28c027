use Rattle.std.proofs.Common.{refl, arith}
use Rattle.eqc_core.proofs.machine.Machine.may_write.Goals as goal

pub returns-then-low-self : goal.returns-then-low-self
returns-then-low-self c = let big = c.if-low-self.true in
    ((λ t. absurd (cc)), (λ r. absurd (let k = r.low_there in omega arith)))

pub returns-then-high-self : goal.returns-then-high-self
returns-then-high-self c = let big = c.if-high-self.true in
    ((λ t. absurd (cc)), (λ r. absurd (let k = r.high_there in omega arith)))

pub returns-then-not-is_shaped : goal.returns-then-not-is_shaped
returns-then-not-is_shaped c =
    ((λ t. absurd (cc)), (λ r. absurd (let f = c.if-not-is_shaped.ensures.1 r.word.shaped in cc)))

pub returns : goal.returns
returns c =
    let z = c.args.self.now.sizes in
    let l = c.if-low-self.false in
    let h = c.if-high-self.false in (
      (λ t. let p = (c.may_write.ensures z).0 t in
          record {
            low_there = omega arith;
            high_there = omega arith;
            word = record {
              ready = p.0;
              draft = p.1;
              hand = p.2;
              stripe = p.3.0;
              new = p.3.1;
              shaped = c.if-not-is_shaped.ensures.0 refl;
              held = p.4;
            };
          }),
      (λ r. let k = r.word in (c.may_write.ensures z).1 (
        k.ready,
        k.draft,
        k.hand,
        (k.stripe, k.new),
        k.held,
      )),
    )
